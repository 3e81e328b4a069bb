use Rattle.std.proofs.Common.{refl, ap, ◌∙◌, rules, tests, arith, w16, to_z}
use Rattle.std.proofs.lemmas.Iterator.{YieldsList-from_range}
use Rattle.std.proofs.lemmas.Iterator.Consumers.{count_from_yields_List, YieldsList-from_filter}
use Rattle.turning.specs.Limits.{max_edge}
use Rattle.turning.proofs.Names.{plus_name}
use Rattle.turning.proofs.Pairs.{edges_filtered}
use Rattle.turning.proofs.edges.count_edges.Goals as goal

pub returns : goal.returns
returns g c =
    let t = g.T.Turning.turn c.args.t.now in
    count_from_yields_List c.filter.result c.count.result c.count.ensures.ran
    (YieldsList-from_filter _ (λ e. t.held (to_z w16 e)) (YieldsList-from_range 1 4096 4095 c.filter.ensures.source refl) c.filter.ensures.closure (λ x r q k. search (rules, tests)))
    ∙ edges_filtered max_edge t (g.T.Turning.lawful c.args.t.now) (λ e. t.held (to_z w16 e)) (λ k l. ap t.held (plus_name k (omega arith)))
