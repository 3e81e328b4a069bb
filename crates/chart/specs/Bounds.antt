-- The line work of a chart and the meaning of a store, each by the bound of its type.
-- Assumes nothing.
use Rattle.std.specs.Prelude.{Bool, ℤ, Option}
use Rattle.turning.specs.Limits.{max_edge}
use Rattle.turning.specs.Turn.{Turn, Lawful}
use Rattle.chart.specs.declared.point.Point.{Point}
use Rattle.chart.specs.Linework.{Linework, lines_of}
use Rattle.chart.specs.Stores.{Frame, Meaning, meant}

-- the line work of a chart
abbrev pub lines : {S : Type 0} → record { turn : S → Turn; lawful : (x : S) → Lawful max_edge (turn x); points : S → ℤ → Option Point } → S → Linework
lines c = lines_of c.turn c.points

-- the meaning of a store
abbrev pub meaning : {S : Type 0} → record { turn : S → Turn; lawful : (x : S) → Lawful max_edge (turn x); points : S → ℤ → Option Point; frame : S → Frame; fits : S → Point → Point → Bool } → S → Meaning
meaning s = meant s.turn s.points s.frame s.fits
