use Rattle.std.proofs.Common.{◌≡◌, ℕ, ◌+◌, ◌*◌, ◌<◌, ℤ, sym, ap, ◌∙◌, subst, arith, w16, of_z}
use Rattle.std.proofs.lemmas.Int.{to_z-of_z}
use Rattle.flat.specs.Orbits.{iterate}
use Rattle.turning.proofs.Names.{same_name}
use Rattle.turning.specs.Limits.{max_edge}
use Rattle.search.specs.Lengths.{Walked}
use Rattle.turning.proofs.Names.{bits_of}
use Rattle.search.proofs.Walking.{walked_on, walked_past, walked_few, past_all, past_more}
use Rattle.search.proofs.walk.steps.Given.{Over}
use Rattle.search.proofs.walk.steps.Goals as goal

pub returns-then-x-h : goal.returns-then-x-h
returns-then-x-h g c =
    let f : ℤ → ℤ = (g.T.Turning.turn c.args.t.now).follower in
    let bh = to_z-of_z w16 c.args.h c.ranges.h in
    let bk = to_z-of_z w16 c.args.k c.ranges.k in
    let w : Walked f c.args.h c.loop-x.x c.loop-x.count = simp (bh, c.loop-x.x-is) at c.loop-x.invariant.0 in
    let back : f c.loop-x.x ≡ c.args.h =
    sym (c.follower-x.ensures ∙ ap f c.loop-x.x-is) ∙ same_name c.follower-x.result c.args.h (record { sfits = c.follower-x.type_inv }) c.ranges.h c.if-x-h.true in
    walked_past f c.args.h c.loop-x.x c.args.k c.loop-x.count w back
    (past_all f c.args.h c.args.k c.loop-x.x c.loop-x.count w (simp (bh, bk) at c.loop-x.invariant.1)
    (λ e. c.loop-x-test.true (bits_of _ c.args.k c.loop-x.auto.x (c.loop-x.x-is ∙ e))))

Stepped : (g : Over) → goal.Else-x-h g → Type 0
Stepped g c =
    Walked (g.T.Turning.turn c.args.t.now).follower c.args.h c.follower-x.result (c.loop-x.count + 1)
    × ((j : ℕ) → j < c.loop-x.count + 1 → ¬ (iterate j (g.T.Turning.turn c.args.t.now).follower c.args.h ≡ c.args.k))

stepped : (g : Over) (c : goal.Else-x-h g) → Stepped g c
unfolding Stepped
stepped g c =
    let f : ℤ → ℤ = (g.T.Turning.turn c.args.t.now).follower in
    let bh = to_z-of_z w16 c.args.h c.ranges.h in
    let bk = to_z-of_z w16 c.args.k c.ranges.k in
    let w : Walked f c.args.h c.loop-x.x c.loop-x.count = simp (bh, c.loop-x.x-is) at c.loop-x.invariant.0 in
    let next : c.follower-x.result ≡ f c.loop-x.x = c.follower-x.ensures ∙ ap f c.loop-x.x-is in (
      subst (λ z. Walked f c.args.h z (c.loop-x.count + 1)) (sym next)
          (walked_on f c.args.h c.loop-x.x c.loop-x.count w (λ e. c.if-x-h.false (ap (of_z w16) (next ∙ e)))),
      past_more f c.args.h c.args.k c.loop-x.x c.loop-x.count w (simp (bh, bk) at c.loop-x.invariant.1)
          (λ e. c.loop-x-test.true (bits_of _ c.args.k c.loop-x.auto.x (c.loop-x.x-is ∙ e))),
    )

few : (g : Over) (c : goal.Else-x-h g) → c.loop-x.count + 1 < 2 * max_edge
unfolding Stepped
few g c = walked_few max_edge (g.T.Turning.turn c.args.t.now) (g.T.Turning.lawful c.args.t.now) c.args.h c.requires c.follower-x.result (c.loop-x.count + 1) (stepped g c).0

pub overflow_add-count : goal.overflow_add-count
overflow_add-count g c = let l = few g c in omega arith

pub loop-x-smaller : goal.loop-x-smaller
loop-x-smaller g c = let l = few g c in omega arith

pub loop-x-preserved : goal.loop-x-preserved
unfolding Stepped
loop-x-preserved g c =
    let bh = to_z-of_z w16 c.args.h c.ranges.h in
    let bk = to_z-of_z w16 c.args.k c.ranges.k in
    let br = to_z-of_z w16 c.follower-x.result (record { sfits = c.follower-x.type_inv }) in
    simp (bh, bk, br) (stepped g c)
