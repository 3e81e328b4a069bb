-- What is written of a sheet tells the sheet. Assumes nothing.
use Rattle.std.specs.Prelude.{List, ℤ}
use Rattle.turning.specs.Limits.{max_edge, slots}
use Rattle.chart.specs.Linework.{Linework}
use Rattle.told.specs.Tells.{Standing, Tells}
use Rattle.writing.specs.Written.{written}

-- The bytes that are written of line work that a sheet may hold tell just this line work and its borders.
abbrev pub WrittenTells : Type 0
WrittenTells = (bs : List ℤ) (l : Linework) → Standing max_edge slots bs l → Tells bs l (written max_edge bs l)
