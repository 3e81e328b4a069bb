use Rattle.std.proofs.Common.{ap, ◌∙◌, w16}
use Rattle.std.proofs.lemmas.Int.{to_z-of_z}
use Rattle.turning.specs.Limits.{max_edge}
use Rattle.chart.specs.Linework.{lines_of}
use Rattle.edits.proofs.Points.{started_is}
use Rattle.edits.proofs.asks.start_of.Goals as goal

pub returns : goal.returns
returns g c =
    let l = lines_of g.C.Turning.turn g.C.Chart.points c.args.chart.now in
    started_is max_edge l c.placed.ensures c.args.h c.point.result (c.point.ensures ∙ ap l.points (to_z-of_z w16 c.args.h c.ranges.h))
