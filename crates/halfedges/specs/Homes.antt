-- Rows that are home or free. Assumes nothing.
use Rattle.std.specs.Prelude.{◌≡◌, ℕ, ◌≤◌, false}
use Rattle.halfedges.specs.View.{View, none}
use Rattle.halfedges.specs.Rows.{home}

-- there are no external rows: a row that is not home is free
abbrev pub HomesAlone : ℕ → View → Type 0
HomesAlone cap v = (s : ℕ) → 1 ≤ s → s ≤ cap → home (v.row s) ≡ false → v.row s ≡ none
