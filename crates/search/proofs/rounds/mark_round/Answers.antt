use Rattle.std.proofs.Common.{◌≡◌, ◌*◌, ◌<◌, [], ◌∷◌, set, sym, ap, ◌∙◌, subst, arith, w16, to_z, of_z}
use Rattle.std.proofs.lemmas.Int.{to_z-of_z}
use Rattle.turning.proofs.Names.{same_name}
use Rattle.turning.specs.Limits.{max_edge}
use Rattle.search.specs.Marks.{place, Spreads, Within}
use Rattle.search.proofs.Marking.{Rounding, rounding_none, rounding_held, rounding_on, rounding_back, held_within}
use Rattle.search.proofs.Walking.{walked_few}
use Rattle.search.proofs.rounds.mark_round.Goals as goal

pub loop-step-init : goal.loop-step-init
loop-step-init g c = rounding_none max_edge (g.T.Turning.turn c.args.t.now) (to_z w16 (of_z w16 c.args.h)) c.args.marks.now c.told-marks

pub mark-requires : goal.mark-requires
mark-requires g c =
    let t = g.T.Turning.turn c.args.t.now in
    let law = g.T.Turning.lawful c.args.t.now in
    let bh = to_z-of_z w16 c.args.h c.ranges.h in
    let r : Rounding max_edge t c.args.h c.loop-step.x c.loop-step._step c.args.marks.now c.loop-step.marks = simp (bh, c.loop-step.x-is) at c.loop-step.invariant in
    let x : Within max_edge c.loop-step.x =
    held_within max_edge t law c.loop-step.x (rounding_held max_edge t law c.args.h c.loop-step.x c.loop-step._step c.args.marks.now c.loop-step.marks c.requires r) in
    subst (λ z. Within max_edge z) (sym c.loop-step.x-is) x

pub returns-then-x-h : goal.returns-then-x-h
returns-then-x-h g c =
    let t = g.T.Turning.turn c.args.t.now in
    let law = g.T.Turning.lawful c.args.t.now in
    let bh = to_z-of_z w16 c.args.h c.ranges.h in
    let r : Rounding max_edge t c.args.h c.loop-step.x c.loop-step._step c.args.marks.now c.loop-step.marks = simp (bh, c.loop-step.x-is) at c.loop-step.invariant in
    let m : c.mark.new.marks ≡ set c.loop-step.marks (place max_edge c.loop-step.x) 1 = simp c.loop-step.x-is at c.mark.ensures in
    let back : t.follower c.loop-step.x ≡ c.args.h =
    sym (c.follower-x.ensures ∙ ap t.follower c.loop-step.x-is) ∙ same_name c.follower-x.result c.args.h (record { sfits = c.follower-x.type_inv }) c.ranges.h c.if-x-h.true in
    subst (λ l. Spreads max_edge t (t.follower ∷ []) c.args.h c.args.marks.now l) (sym m)
    (rounding_back max_edge t law c.args.h c.loop-step.x c.loop-step._step c.args.marks.now c.loop-step.marks c.requires r back)

pub loop-step-preserved : goal.loop-step-preserved
loop-step-preserved g c =
    let t = g.T.Turning.turn c.args.t.now in
    let law = g.T.Turning.lawful c.args.t.now in
    let bh = to_z-of_z w16 c.args.h c.ranges.h in
    let br = to_z-of_z w16 c.follower-x.result (record { sfits = c.follower-x.type_inv }) in
    let r : Rounding max_edge t c.args.h c.loop-step.x c.loop-step._step c.args.marks.now c.loop-step.marks = simp (bh, c.loop-step.x-is) at c.loop-step.invariant in
    let m : c.mark.new.marks ≡ set c.loop-step.marks (place max_edge c.loop-step.x) 1 = simp c.loop-step.x-is at c.mark.ensures in
    let next : c.follower-x.result ≡ t.follower c.loop-step.x = c.follower-x.ensures ∙ ap t.follower c.loop-step.x-is in
    simp (bh, br)
    (simp (m, next)
    (rounding_on max_edge t law c.args.h c.loop-step.x c.loop-step._step c.args.marks.now c.loop-step.marks c.requires r
    (λ e. c.if-x-h.false (ap (of_z w16) (next ∙ e)))))

pub returns : goal.returns
returns g c =
    let t = g.T.Turning.turn c.args.t.now in
    let law = g.T.Turning.lawful c.args.t.now in
    let bh = to_z-of_z w16 c.args.h c.ranges.h in
    let r : Rounding max_edge t c.args.h c.loop-step.x c.loop-step._step c.args.marks.now c.loop-step.marks = simp (bh, c.loop-step.x-is) at c.loop-step.invariant in
    let few : c.loop-step._step < 2 * max_edge = walked_few max_edge t law c.args.h c.requires c.loop-step.x c.loop-step._step r.walk in
    absurd (omega (arith, c.loop-step-test.false))
