-- Rows in the strips that borders cut. Assumes nothing.
use Rattle.std.specs.Prelude.{◌≡◌, true, List, ℤ}
use Rattle.halfedges.specs.View.{View, row_of}
use Rattle.halfedges.specs.Rows.{turn_of, strips_of}
use Rattle.strips.specs.Borders.{strip_of}

-- each held name's row is in the strip of its x
abbrev pub InStrips : List ℤ → View → Type 0
InStrips bs v = (h : ℤ) → (turn_of v).held h ≡ true → strips_of v h ≡ strip_of bs (row_of v h).x
