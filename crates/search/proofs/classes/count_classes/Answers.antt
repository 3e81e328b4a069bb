use Rattle.std.proofs.Common.{◌≡◌, ◌+◌, ◌≤◌, List, ℤ, pos, neg_ℤ, subst, arith}
use Rattle.turning.specs.Limits.{max_edge}
use Rattle.search.specs.Marks.{Visited}
use Rattle.turning.proofs.Names.{plus_name, minus_name}
use Rattle.search.proofs.Sweeps.{Sweep, visited_few, sweep_none, sweep_more, sweep_all, sweep_closed, visited_closed}
use Rattle.search.proofs.classes.count_classes.Goals as goal

pub loop-e-init : goal.loop-e-init
loop-e-init g c =
    let t = g.T.Turning.turn c.args.t.now in
    let law = g.T.Turning.lawful c.args.t.now in
    sweep_none max_edge t law (g.S.Search.steps t) (g.S.Search.fair t law) c.args.marks.now c.requires

pub visit-count-requires-clause-closed : goal.visit-count-requires-clause-closed
visit-count-requires-clause-closed g c =
    let t = g.T.Turning.turn c.args.t.now in
    let law = g.T.Turning.lawful c.args.t.now in
    sweep_closed max_edge t law (g.S.Search.steps t) (g.S.Search.fair t law) _ _ _ c.loop-e.invariant

pub visit-count-requires-in-loop-e-clause-closed : goal.visit-count-requires-in-loop-e-clause-closed
visit-count-requires-in-loop-e-clause-closed g c =
    let t = g.T.Turning.turn c.args.t.now in
    let law = g.T.Turning.lawful c.args.t.now in
    visited_closed max_edge t law (g.S.Search.steps t) (g.S.Search.fair t law) _ _ _ _ _ _ c.loop-e.invariant c.visit-count.ensures

pub overflow_add-count : goal.overflow_add-count
overflow_add-count g c =
    let t = g.T.Turning.turn c.args.t.now in
    let l : c.visit-count.result ≤ 1 = visited_few max_edge t (g.S.Search.steps t) _ _ _ c.visit-count.result c.visit-count.ensures in
    omega (arith, c.loop-e.invariant.few)

pub overflow_add-count-in-loop-e : goal.overflow_add-count-in-loop-e
overflow_add-count-in-loop-e g c =
    let t = g.T.Turning.turn c.args.t.now in
    let l : c.visit-count.result ≤ 1 = visited_few max_edge t (g.S.Search.steps t) _ _ _ c.visit-count.result c.visit-count.ensures in
    let k : c.visit-count-in-loop-e.result ≤ 1 = visited_few max_edge t (g.S.Search.steps t) _ _ _ c.visit-count-in-loop-e.result c.visit-count-in-loop-e.ensures in
    omega (arith, c.loop-e.invariant.few)

pub loop-e-preserved : goal.loop-e-preserved
loop-e-preserved g c =
    let t = g.T.Turning.turn c.args.t.now in
    let law = g.T.Turning.lawful c.args.t.now in
    let ss : List (ℤ → ℤ) = g.S.Search.steps t in
    let p = plus_name c.loop-e.e (omega arith) in
    let q = minus_name c.loop-e.e (omega arith) in
    let u : Visited max_edge t ss (pos c.loop-e.e) c.loop-e.marks c.visit-count.new.marks c.visit-count.result =
    subst (λ z. Visited max_edge t ss z c.loop-e.marks c.visit-count.new.marks c.visit-count.result) p c.visit-count.ensures in
    let v : Visited max_edge t ss (neg_ℤ (pos c.loop-e.e)) c.visit-count.new.marks c.visit-count-in-loop-e.new.marks c.visit-count-in-loop-e.result =
    subst (λ z. Visited max_edge t ss z c.visit-count.new.marks c.visit-count-in-loop-e.new.marks c.visit-count-in-loop-e.result) q c.visit-count-in-loop-e.ensures in
    sweep_more max_edge t law ss (g.S.Search.fair t law) c.loop-e.marks c.visit-count.new.marks c.visit-count-in-loop-e.new.marks
    c.loop-e.count c.loop-e.e c.visit-count.result c.visit-count-in-loop-e.result c.loop-e.invariant u v

pub returns : goal.returns
returns g c =
    let t = g.T.Turning.turn c.args.t.now in
    let law = g.T.Turning.lawful c.args.t.now in
    let fair = g.S.Search.fair t law in
    let e : c.loop-e.e ≡ max_edge + 1 = omega arith in
    sweep_all max_edge t law (g.S.Search.steps t) fair c.loop-e.marks c.loop-e.count
    (subst (λ i. Sweep max_edge t law (g.S.Search.steps t) fair c.loop-e.marks c.loop-e.count i) e c.loop-e.invariant)
