use Rattle.std.proofs.Common.{◌≡◌, true, Ok, sym, ap, ◌∙◌, w16}
use Rattle.std.proofs.lemmas.Int.{to_z-of_z}
use Rattle.std.proofs.lemmas.Bool.{cond-true}
use Rattle.turning.specs.Limits.{max_edge}
use Rattle.turning.specs.Turn.{side}
use Rattle.turning.specs.Sides.{side_lawful}
use Rattle.search.specs.Lengths.{Steps}
use Rattle.turning.proofs.Tests.{side_test}
use Rattle.search.proofs.Walking.{steps_tell}
use Rattle.questions.proofs.loops.same_loop.Goals as goal

pub returns : goal.returns
returns g c =
    let t = g.T.Turning.turn c.args.t.now in
    let law = g.T.Turning.lawful c.args.t.now in
    let bh = to_z-of_z w16 c.args.h c.ranges.h in
    let bk = to_z-of_z w16 c.args.k c.ranges.k in
    let e : t.held c.args.h ≡ true = sym (simp bh at c.if-not-holds.ensures) in
    let k : t.held c.args.k ≡ true = sym (simp bk at c.if-not-holds-2.ensures) in
    let s : Steps (side t).follower c.args.h c.args.k c.steps-found.result = simp (bh, bk) at c.steps-found.ensures in
    ap Ok (c.is_some.ensures ∙ steps_tell max_edge (side t) (side_lawful max_edge t law) c.args.h c.args.k e c.steps-found.result s ∙ side_test max_edge t law c.args.h c.args.k e)
    ∙ sym (cond-true (t.held c.args.h) _ _ e ∙ cond-true (t.held c.args.k) _ _ k)
