use Rattle.chart.specs.Linework.{lines_of}
use Rattle.writing.proofs.CodeNames.{Collected}
use Rattle.writing.proofs.gather.collect_names.Given as goal

-- the names of the edges below e are collected
abbrev pub invariant-loop-e : goal.invariant-loop-e
invariant-loop-e g l = Collected l.borders.items (lines_of g.C.Turning.turn g.C.Chart.points l.chart) l.strip l.e l.names.items
