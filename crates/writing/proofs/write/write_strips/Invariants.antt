use Rattle.turning.specs.Limits.{max_edge}
use Rattle.chart.specs.Linework.{lines_of}
use Rattle.writing.proofs.CodeWhole.{Stripwise}
use Rattle.writing.proofs.write.write_strips.Given as goal

-- the first j strips are written
abbrev pub invariant-loop-j : goal.invariant-loop-j
invariant-loop-j g l = Stripwise max_edge l.borders.items (lines_of g.C.Turning.turn g.C.Chart.points l.chart) l.j l.part l.at
