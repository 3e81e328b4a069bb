use Rattle.std.proofs.Common.{sym, arith, w32}
use Rattle.std.proofs.lemmas.Bool.{false_from_ne_true}
use Rattle.std.proofs.lemmas.Int.{ints, to_z-of_z}
use Rattle.chart.proofs.asks.start_of.Goals as goal

-- a held name is in range
pub returns-in_default : goal.returns-in_default
returns-in_default g c =
    let law = g.C.Turning.lawful c.args.chart.now in
    let name = to_z-of_z w32 c.args.name c.ranges.name in
    sym (c.placed.ensures.nowhere c.args.name (false_from_ne_true _ (λ q.
    let low = law.low c.args.name q in
    let high = law.high c.args.name q in
    c.in_default.ensures (omega (arith, ints, name)))))
