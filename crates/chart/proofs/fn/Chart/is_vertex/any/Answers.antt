use Rattle.std.proofs.Common.{◌||◌, sym, ap, ◌∙◌, ap₂, arith}
use Rattle.turning.proofs.Names.{plus_name, minus_name}
use Rattle.chart.specs.Points.{is_point}
use Rattle.chart.proofs.Compared.{told_equals}
use Rattle.chart.proofs.fn.Chart.is_vertex.any.Goals as goal

pub returns-else-eq : goal.returns-else-eq
returns-else-eq g c =
    let p = c.captures.p in
    let points = g.Self.Chart.points c.captures.self.now in
    ap₂ (λ a b. a || b)
    (sym c.if-eq.false ∙ c.eq.ensures ∙ told_equals c.point.result p ∙ ap (is_point p) (c.point.ensures ∙ ap points (plus_name c.args.e (omega arith))))
    (c.eq-else-eq.ensures ∙ told_equals c.point-else-eq.result p ∙ ap (is_point p) (c.point-else-eq.ensures ∙ ap points (minus_name c.args.e (omega arith))))
