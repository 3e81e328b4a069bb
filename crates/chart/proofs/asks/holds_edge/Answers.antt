use Rattle.std.proofs.Common.{◌≡◌, false, leb, sym, ◌∙◌, arith}
use Rattle.std.proofs.lemmas.Bool.Decides.{leb_tells}
use Rattle.turning.specs.Limits.{max_edge}
use Rattle.turning.proofs.Listed.{beyond}
use Rattle.chart.proofs.asks.holds_edge.Goals as goal

pub returns-else-edge-le-MAX_EDGE : goal.returns-else-edge-le-MAX_EDGE
returns-else-edge-le-MAX_EDGE g c =
    let past = c.if-edge-le-MAX_EDGE.false in
    let past? : leb c.args.edge max_edge ≡ false = grind (arith, leb_tells c.args.edge max_edge) in
    past? ∙ sym (beyond max_edge _ (g.T.Turning.lawful c.args.t.now) c.args.edge past).0
