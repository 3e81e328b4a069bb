-- Marks for the names of the home slots before slot i of strip j.
-- Assumes nothing.
use Rattle.std.specs.Prelude.{◌≡◌, ℕ, true, List, ℤ, slice_index}
use Rattle.flat.specs.Orbits.{indicator}
use Rattle.turning.specs.Limits.{max_edge}
use Rattle.file.specs.Layout.{strip}
use Rattle.file.specs.Questions.{named, home_before}
use Rattle.search.specs.Marks.{place as mark_at}

-- marked are just the names of the home slots of earlier strips and of lower slots of strip j
abbrev pub HomesMarked : List ℕ → ℕ → ℕ → List ℕ → Type 0
HomesMarked b j i m = (z : ℤ) → named max_edge z ≡ true → slice_index m (mark_at max_edge z) ≡ indicator (home_before (strip b) j i z)
