use Rattle.std.proofs.Common.{◌≡◌, true, pos, neg_ℤ, arith, w16, SFits, rules}
use Rattle.std.proofs.lemmas.Int.{ints, to_z-of_z}
use Rattle.std.proofs.lemmas.Bool.{cond-true}
use Rattle.turning.proofs.Names.{minus_back}
use Rattle.turning.proofs.LoopSideTurning.follower.Goals as goal

pub overflow_sub-opposite : goal.overflow_sub-opposite
overflow_sub-opposite g c =
    let l = g.T.Turning.lawful c.args.self.now.below in
    let e : (g.T.Turning.turn c.args.self.now.below).held c.args.h ≡ true = grind (arith, to_z-of_z) in
    omega (arith, ints, l.low c.args.h e, l.high c.args.h e)

pub returns : goal.returns
returns g c =
    let t = g.T.Turning.turn c.args.self.now.below in
    let l = g.T.Turning.lawful c.args.self.now.below in
    let e : t.held c.args.h ≡ true = grind (arith, to_z-of_z) in
    let m = minus_back c.args.h c.ranges.h (omega (arith, ints, l.low c.args.h e, l.high c.args.h e)) in
    let f : SFits w16 c.predecessor.result = search rules in
    let b = to_z-of_z w16 c.predecessor.result f in
    cc (cond-true (t.held c.args.h) (t.predecessor (neg_ℤ c.args.h)) (pos 0) e)
