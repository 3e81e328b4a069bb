use Rattle.std.proofs.Common.{◌≡◌, true, pos, neg_ℤ, arith, w16, SFits, rules}
use Rattle.std.proofs.lemmas.Int.{ints, to_z-of_z}
use Rattle.std.proofs.lemmas.Bool.{cond-true}
use Rattle.turning.proofs.Names.{minus_back}
use Rattle.turning.proofs.LoopSideTurning.predecessor.Goals as goal

pub overflow_sub-result : goal.overflow_sub-result
overflow_sub-result g c =
    let l = g.T.Turning.lawful c.args.self.now.below in
    let e : (g.T.Turning.turn c.args.self.now.below).held c.follower-after.result ≡ true = grind (arith, to_z-of_z, l.ahead) in
    omega (arith, ints, l.low c.follower-after.result e, l.high c.follower-after.result e)

pub returns : goal.returns
returns g c =
    let t = g.T.Turning.turn c.args.self.now.below in
    let l = g.T.Turning.lawful c.args.self.now.below in
    let e : t.held c.args.h ≡ true = grind (arith, to_z-of_z) in
    let s : t.held c.follower-after.result ≡ true = grind (arith, to_z-of_z, l.ahead) in
    let f : SFits w16 c.follower-after.result = search rules in
    let m = minus_back c.follower-after.result f (omega (arith, ints, l.low c.follower-after.result s, l.high c.follower-after.result s)) in
    let b = to_z-of_z w16 c.args.h c.ranges.h in
    cc (cond-true (t.held c.args.h) (neg_ℤ (t.follower c.args.h)) (pos 0) e)
