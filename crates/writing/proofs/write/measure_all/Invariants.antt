use Rattle.turning.specs.Limits.{max_edge}
use Rattle.chart.specs.Linework.{lines_of}
use Rattle.writing.proofs.CodeWhole.{Measured}
use Rattle.writing.proofs.write.measure_all.Given as goal

-- the first j strips are measured
abbrev pub invariant-loop-j : goal.invariant-loop-j
invariant-loop-j g l = Measured max_edge l.borders.items (lines_of g.C.Turning.turn g.C.Chart.points l.chart) l.j l.sizes.items l.total
