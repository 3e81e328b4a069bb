use Rattle.std.proofs.Common.{◌≡◌, ℕ, suc, ◌+◌, ◌*◌, ◌^◌, ◌<◌, ◌≤◌, true, pos, neg_ℤ, sym, ap, ◌∙◌, ap₂, arith}
use Rattle.std.proofs.lemmas.Bool.{cond-true}
use Rattle.chart.specs.Linework.{lines_of}
use Rattle.strips.specs.Borders.{apart, home_strip, strip_of, x_of}
use Rattle.strips.proofs.taken.slots_of.Goals as goal

one_more : (k m : ℕ) → k ≡ m → 2 * (k + 1) ≡ 2 * suc m
one_more k m e = omega arith

few_enough : (k : ℕ) → k < 65536 → 2 * (k + 1) ≤ 2 ^ 17
few_enough k l = omega arith

pub returns : goal.returns
returns g c =
    let bs = c.args.borders.now.items in
    let lines = lines_of g.C.Turning.turn g.C.Chart.points c.args.chart.now in
    let e = c.args.edge in
    let first : c.strip_at-first.result ≡ home_strip bs lines (pos e) = c.strip_at-first.ensures ∙ ap (λ o. strip_of bs (x_of o)) c.west_end.ensures in
    let last : c.strip_at-last.result ≡ home_strip bs lines (neg_ℤ (pos e)) = c.strip_at-last.ensures ∙ ap (λ o. strip_of bs (x_of o)) c.east_end.ensures in
    let held : lines.turn.held (pos e) ≡ true = sym c.if-not-holds_edge.ensures in
    record {
      taken = one_more c.abs_diff.result _ (c.abs_diff.ensures ∙ ap₂ apart first last) ∙ sym (cond-true (lines.turn.held (pos e)) _ 0 held);
      few = few_enough c.abs_diff.result c.abs_diff.type_inv;
    }
