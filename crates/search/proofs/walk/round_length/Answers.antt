use Rattle.std.proofs.Common.{◌≡◌, ◌*◌, ◌<◌, ℤ, sym, refl, ap, ◌∙◌, subst, arith, w16, to_z, of_z}
use Rattle.std.proofs.lemmas.Int.{to_z-of_z}
use Rattle.turning.specs.Limits.{max_edge}
use Rattle.search.specs.Lengths.{Walked}
use Rattle.turning.proofs.Names.{bits_of}
use Rattle.search.proofs.Walking.{walked_start, walked_on, walked_few, walked_round}
use Rattle.search.proofs.walk.round_length.Given.{Over}
use Rattle.search.proofs.walk.round_length.Goals as goal

pub loop-x-init : goal.loop-x-init
loop-x-init g c =
    let f : ℤ → ℤ = (g.T.Turning.turn c.args.t.now).follower in
    let h : ℤ = to_z w16 (of_z w16 c.args.h) in
    (h, 0, walked_start f h, to_z-of_z w16 c.follower-x.result (record { sfits = c.follower-x.type_inv }) ∙ c.follower-x.ensures, omega arith)

-- the test has x among those that were met
met : (g : Over) (c : goal.After-follower-x-in-loop-x g) → Walked (g.T.Turning.turn c.args.t.now).follower (to_z w16 (of_z w16 c.args.h)) c.loop-x.x c.loop-x.count
met g c =
    let f : ℤ → ℤ = (g.T.Turning.turn c.args.t.now).follower in
    let h : ℤ = to_z w16 (of_z w16 c.args.h) in
    let bh = to_z-of_z w16 c.args.h c.ranges.h in
    let x : c.loop-x.x ≡ f c.loop-x.invariant.0 = sym c.loop-x.x-is ∙ c.loop-x.invariant.3 in
    subst (λ z. Walked f h z c.loop-x.count) (sym x)
    (subst (λ m. Walked f h (f c.loop-x.invariant.0) m) (sym c.loop-x.invariant.4)
    (walked_on f h c.loop-x.invariant.0 c.loop-x.invariant.1 c.loop-x.invariant.2
    (λ e. c.loop-x-test.true (bits_of _ c.args.h c.loop-x.auto.x (c.loop-x.x-is ∙ x ∙ e ∙ bh)))))

few : (g : Over) (c : goal.After-follower-x-in-loop-x g) → c.loop-x.count < 2 * max_edge
few g c =
    let bh = to_z-of_z w16 c.args.h c.ranges.h in
    walked_few max_edge (g.T.Turning.turn c.args.t.now) (g.T.Turning.lawful c.args.t.now) c.args.h c.requires c.loop-x.x c.loop-x.count (simp bh at (met g c))

pub overflow_add-count : goal.overflow_add-count
overflow_add-count g c = let l = few g c in omega arith

pub loop-x-smaller : goal.loop-x-smaller
loop-x-smaller g c = let l = few g c in omega arith

pub loop-x-preserved : goal.loop-x-preserved
loop-x-preserved g c =
    let f : ℤ → ℤ = (g.T.Turning.turn c.args.t.now).follower in
    let br = to_z-of_z w16 c.follower-x-in-loop-x.result (record { sfits = c.follower-x-in-loop-x.type_inv }) in
    (c.loop-x.x, c.loop-x.count, met g c, br ∙ c.follower-x-in-loop-x.ensures ∙ ap f c.loop-x.x-is, refl)

pub returns : goal.returns
returns g c =
    let t = g.T.Turning.turn c.args.t.now in
    let bh = to_z-of_z w16 c.args.h c.ranges.h in
    let w : Walked t.follower c.args.h c.loop-x.invariant.0 c.loop-x.invariant.1 = simp bh at c.loop-x.invariant.2 in
    c.loop-x.invariant.4
    ∙ walked_round max_edge t (g.T.Turning.lawful c.args.t.now) c.args.h c.requires c.loop-x.invariant.0 c.loop-x.invariant.1 w
    (sym c.loop-x.invariant.3 ∙ ap (to_z w16) c.loop-x-test.false ∙ bh)
