use Rattle.std.proofs.Common.{◌≡◌, ◌≤◌, true, false, refl, rules, tests}
use Rattle.std.proofs.lemmas.Iterator.{cases_from_any, YieldsList-from_range}
use Rattle.turning.specs.Limits.{max_edge}
use Rattle.chart.specs.Changes.{starts_at}
use Rattle.chart.specs.Linework.{lines_of}
use Rattle.chart.proofs.Vertices.{vertex_searched}
use Rattle.chart.proofs.Chart.is_vertex.Goals as goal

pub returns : goal.returns
returns g c =
    let l = lines_of g.Self.Turning.turn g.Self.Chart.points c.args.self.now in
    let p = c.args.p in
    vertex_searched max_edge l (g.Self.Turning.lawful c.args.self.now) c.placed.ensures p c.any.result
    (cases_from_any _ _ c.any.result (λ e. e ≤ max_edge → true ≡ starts_at l p e) (λ e. e ≤ max_edge → false ≡ starts_at l p e) c.any.ensures.ran (YieldsList-from_range 1 4096 4095 refl refl)
    (λ x q k m. search (rules, tests)) (λ x q k. (search (rules, tests), λ m. search (rules, tests))))
