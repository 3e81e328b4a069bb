use Rattle.turning.specs.Limits.{max_edge}
use Rattle.chart.specs.Linework.{lines_of}
use Rattle.writing.proofs.CodeFirsts.{Firsts}
use Rattle.writing.proofs.gather.collect_firsts.Given as goal

-- the vertices of the first k names are collected
abbrev pub invariant-loop-h : goal.invariant-loop-h
invariant-loop-h g l = Firsts max_edge (lines_of g.C.Turning.turn g.C.Chart.points l.chart) l.borders.items l.strip l.names l.h-index l.marks l.firsts.items
