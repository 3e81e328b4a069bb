use Rattle.std.proofs.Common.{arith}
use Rattle.turning.specs.Limits.{max_edge}
use Rattle.chart.specs.Linework.{lines_of}
use Rattle.strips.proofs.Planting.{edges_within}
use Rattle.strips.proofs.recut.fill.Goals as goal

pub copy_chart-requires-clause-room : goal.copy_chart-requires-clause-room
copy_chart-requires-clause-room g c = omega (arith, edges_within c.args.borders.now.items (lines_of g.C.Turning.turn g.C.Chart.points c.args.chart.now) max_edge, c.requires.room)
