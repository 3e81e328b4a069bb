use Rattle.std.proofs.Common.{refl}
use Rattle.runs.specs.Chains.{over}
use Rattle.runs.specs.Runs.{StepBy, FlatAt}
use Rattle.runs.proofs.Chained.{chain_more, chain_all, chain_keeps}
use Rattle.runs.proofs.calls.run.Goals as goal

pub loop-item-init : goal.loop-item-init
loop-item-init g c = (refl, over)

pub loop-item-preserved : goal.loop-item-preserved
loop-item-preserved g c =
    chain_more (StepBy g.C.Carry.carried) _ c.args.items.now c.loop-item.items _ c.loop-item.item-index c.item-item.result _ _
    c.loop-item.auto.items c.loop-item-test.true c.loop-item.invariant (c.carry.result, (refl, c.carry.ensures))

pub returns : goal.returns
returns g c =
    let all = chain_all (StepBy g.C.Carry.carried) _ _ _ _ c.loop-item.item-index c.loop-item.auto.items c.loop-item-test.false c.loop-item.invariant in
    record { run = all; flat = λ f. chain_keeps (StepBy g.C.Carry.carried) FlatAt (λ m x y m' s. g.met.C.Carry.keeps_flat m x.call s.0 y.call m' s.1.1) f all }
