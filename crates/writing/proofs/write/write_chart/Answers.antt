use Rattle.std.proofs.Common.{◌≡◌, ℕ, ◌+◌, ◌*◌, ◌<◌, ◌≤◌, ◌++◌, List, ℤ, length, drop, Ok, sym, ap, ◌∙◌, ap₂, arith}
use Rattle.std.proofs.lemmas.Bool.{cond-true, cond-false, le-leb, lt-leb}
use Rattle.turning.specs.Limits.{max_edge}
use Rattle.chart.specs.Linework.{Linework, lines_of}
use Rattle.strips.specs.Borders.{strip_count}
use Rattle.file.specs.declared.view.Sizes.{Sizes}
use Rattle.writing.specs.Written.{written}
use Rattle.writing.specs.Lays.{all_sizes, head_bytes, body_bytes}
use Rattle.writing.proofs.CodeWhole.{sizes_long, head_long, written_parts, written_long, laid}
use Rattle.writing.proofs.write.write_chart.Goals as goal

-- the end is that of all that is written
whole_is : (bs : List ℤ) (l : Linework) (sizes : List Sizes) (s b body : ℕ) → sizes ≡ all_sizes max_edge bs l → s ≡ length sizes → b ≡ length bs → body ≡ length (body_bytes max_edge bs l)
    → 2 + 4 * s + 4 * b + body ≡ length (written max_edge bs l)
whole_is bs l sizes s b body all many cuts long =
    let few : s ≡ strip_count bs = many ∙ ap length all ∙ sizes_long max_edge bs l in
    ap (λ k. 2 + 4 * s + 4 * k + body) cuts ∙ written_long max_edge bs l s body few long

pub returns-then-out-end : goal.returns-then-out-end
returns-then-out-end g c =
    let l = lines_of g.C.Turning.turn g.C.Chart.points c.args.chart.now in
    let bs = c.args.borders.now.items in
    let m = c.measure_all-body.ensures in
    let whole = whole_is bs l c.measure_all-body.new.sizes.items c.len.result (length c.as_slice.result.now) c.measure_all-body.result m.sizes c.len.ensures.value (ap length c.as_slice.ensures.value) m.long in
    let short : length c.args.out.now < length (written max_edge bs l) = omega (arith, c.if-out-end.true) in
    let no = lt-leb (length (written max_edge bs l)) (length c.args.out.now) short in
    record { answer = sym (cond-false _ _ _ no); bytes = sym (cond-false _ _ _ no) }

pub returns : goal.returns
returns g c =
    let l = lines_of g.C.Turning.turn g.C.Chart.points c.args.chart.now in
    let bs = c.args.borders.now.items in
    let out = c.args.out.now in
    let m = c.measure_all-body.ensures in
    let from = 2 + 4 * c.len.result + 4 * (length c.as_slice.result.now) in
    let end = from + c.measure_all-body.result in
    let whole : end ≡ length (written max_edge bs l) =
    whole_is bs l c.measure_all-body.new.sizes.items c.len.result (length c.as_slice.result.now) c.measure_all-body.result m.sizes c.len.ensures.value (ap length c.as_slice.ensures.value) m.long in
    let fits : length (written max_edge bs l) ≤ length out = omega (arith, c.if-out-end.false) in
    let yes = le-leb (length (written max_edge bs l)) (length out) fits in
    let own = c.as_slice-2.ensures.value ∙ m.sizes in
    let head : c.write_head.new.part ≡ head_bytes bs (all_sizes max_edge bs l) = c.write_head.ensures ∙ ap (head_bytes bs) own in
    let body : c.write_strips.new.part ≡ body_bytes max_edge bs l = c.write_strips.ensures in
    let many : c.len.result ≡ length (all_sizes max_edge bs l) = c.len.ensures.value ∙ ap length m.sizes in
    let hl : length c.write_head.new.part ≡ from = ap length head ∙ head_long bs (all_sizes max_edge bs l) ∙ sym (ap₂ (λ s b. 2 + 4 * s + 4 * b) many (ap length c.as_slice.ensures.value)) in
    let bl : from + length c.write_strips.new.part ≡ end = ap (λ k. from + k) (ap length body ∙ sym m.long) in
    record {
      answer = ap Ok whole ∙ sym (cond-true _ _ _ yes);
      bytes =
          laid out c.write_head.new.part c.write_strips.new.part from end hl bl c.if-out-end.false
          ∙ ap₂ (λ x k. x ++ drop k out) (ap₂ (λ x y. x ++ y) head body ∙ sym (written_parts max_edge bs l)) whole ∙ sym (cond-true _ _ _ yes);
    }
