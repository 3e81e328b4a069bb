use Rattle.std.proofs.Common.{◌∙◌, w16}
use Rattle.std.proofs.lemmas.Int.{to_z-of_z}
use Rattle.turning.specs.Limits.{max_edge}
use Rattle.turning.specs.Turn.{side}
use Rattle.turning.specs.Sides.{side_lawful}
use Rattle.turning.proofs.Tests.{side_test}
use Rattle.search.specs.Lengths.{Steps}
use Rattle.search.proofs.Walking.{steps_tell}
use Rattle.edits.proofs.joins.is_on_loop.Goals as goal

pub returns : goal.returns
returns g c =
    let t = g.T.Turning.turn c.args.t.now in
    let law = g.T.Turning.lawful c.args.t.now in
    let bc = to_z-of_z w16 c.args.c c.ranges.c in
    let bd = to_z-of_z w16 c.args.d c.ranges.d in
    let s : Steps (side t).follower c.args.c c.args.d c.steps-found.result = simp (bc, bd) at c.steps-found.ensures in
    c.is_some.ensures ∙ steps_tell max_edge (side t) (side_lawful max_edge t law) c.args.c c.args.d c.requires c.steps-found.result s ∙ side_test max_edge t law c.args.c c.args.d c.requires
