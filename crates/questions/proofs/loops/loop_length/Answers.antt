use Rattle.std.proofs.Common.{◌≡◌, true, Ok, sym, ap, ◌∙◌, w16}
use Rattle.std.proofs.lemmas.Int.{to_z-of_z}
use Rattle.std.proofs.lemmas.Bool.{cond-true}
use Rattle.turning.specs.Limits.{max_edge}
use Rattle.turning.specs.Turn.{side}
use Rattle.turning.specs.Counts.{round_length}
use Rattle.turning.proofs.Tests.{side_length}
use Rattle.questions.proofs.loops.loop_length.Goals as goal

pub returns : goal.returns
returns g c =
    let t = g.T.Turning.turn c.args.t.now in
    let bh = to_z-of_z w16 c.args.h c.ranges.h in
    let e : t.held c.args.h ≡ true = sym (simp bh at c.if-not-holds.ensures) in
    let r : c.round_length-length.result ≡ round_length max_edge (side t) c.args.h = simp bh at c.round_length-length.ensures in
    ap Ok (r ∙ side_length max_edge t (g.T.Turning.lawful c.args.t.now) c.args.h e) ∙ sym (cond-true (t.held c.args.h) _ _ e)
