use Rattle.std.proofs.Common.{◌≡◌, ℕ, ◌+◌, ◌-◌, ◌*◌, ◌<◌, ◌≤◌, List, length, get_or, take, drop, ℤ, sym, ap, ◌∙◌, subst, arith, rules}
use Rattle.std.proofs.lemmas.List.{take_all, length-take-le, length-drop}
use Rattle.turning.specs.Limits.{max_edge}
use Rattle.chart.specs.Linework.{Linework, lines_of}
use Rattle.strips.specs.Borders.{strip_count}
use Rattle.file.specs.declared.view.Sizes.{Sizes}
use Rattle.writing.specs.Written.{strip_bytes}
use Rattle.writing.specs.Lays.{all_sizes, body_bytes}
use Rattle.writing.proofs.CodeWhole.{strips_long, size_at, sizes_long, Stripwise, stripwise_none, stripwise_more, strip_end, strip_within, strip_bytes_long}
use Rattle.writing.proofs.write.write_strips.Goals as goal

-- where the part of strip j + 1 ends
pub record PartOf (bs : List ℤ) (l : Linework) (j at bytes : ℕ) (part : List ℕ) : Type 0 where
  pub to : at + bytes ≡ strips_long max_edge bs l (j + 1)
  pub within : at + bytes ≤ length part
  pub long : length (take (at + bytes - at) (drop at part)) ≡ length (strip_bytes max_edge bs l (j + 1))

part_of : (bs : List ℤ) (l : Linework) (sizes : List Sizes) (part : List ℕ) (j at bytes : ℕ) (d : Sizes) → sizes ≡ all_sizes max_edge bs l → length part ≡ length (body_bytes max_edge bs l) → j < length sizes
    → at ≡ strips_long max_edge bs l j → bytes ≡ 4 * (get_or sizes j d).slots + 8 * (get_or sizes j d).vertices → PartOf bs l j at bytes part
part_of bs l sizes part j at bytes d is long below here are =
    let few : length sizes ≡ strip_count bs = ap length is ∙ sizes_long max_edge bs l in
    let own = ap (λ zs. get_or zs j d) is ∙ size_at max_edge bs l j d (omega arith) in
    let to : at + bytes ≡ strips_long max_edge bs l (j + 1) = ap (λ k. at + k) are ∙ strip_end max_edge bs l j at (get_or sizes j d) own here in
    let within : at + bytes ≤ length part = omega (arith, strip_within max_edge bs l j (omega arith)) in
    let fits : at + bytes - at ≤ length (drop at part) = omega (arith, length-drop at part) in
    record { to = to; within = within; long = length-take-le (at + bytes - at) (drop at part) fits ∙ omega (arith, strip_bytes_long max_edge bs l j) }

pub loop-j-init : goal.loop-j-init
loop-j-init g c = stripwise_none max_edge c.args.borders.now.items (lines_of g.C.Turning.turn g.C.Chart.points c.args.chart.now) c.args.part.now

pub overflow_add-end : goal.overflow_add-end
overflow_add-end g c =
    let inside = (part_of c.args.borders.now.items (lines_of g.C.Turning.turn g.C.Chart.points c.args.chart.now) c.args.sizes.now c.loop-j.part c.loop-j.j c.loop-j.at c.bytes.result _ c.requires.sizes (c.loop-j.auto.part ∙ c.requires.long) c.loop-j-test.true c.loop-j.invariant.here c.bytes.ensures).within in
    search rules

pub slice_bounds-write_strip-end : goal.slice_bounds-write_strip-end
slice_bounds-write_strip-end g c =
    (part_of c.args.borders.now.items (lines_of g.C.Turning.turn g.C.Chart.points c.args.chart.now) c.args.sizes.now c.loop-j.part c.loop-j.j c.loop-j.at c.bytes.result _ c.requires.sizes (c.loop-j.auto.part ∙ c.requires.long) c.loop-j-test.true c.loop-j.invariant.here c.bytes.ensures).within

pub write_strip-requires : goal.write_strip-requires
write_strip-requires g c =
    (part_of c.args.borders.now.items (lines_of g.C.Turning.turn g.C.Chart.points c.args.chart.now) c.args.sizes.now c.loop-j.part c.loop-j.j c.loop-j.at c.bytes.result _ c.requires.sizes (c.loop-j.auto.part ∙ c.requires.long) c.loop-j-test.true c.loop-j.invariant.here c.bytes.ensures).long

pub loop-j-preserved : goal.loop-j-preserved
loop-j-preserved g c =
    let l = lines_of g.C.Turning.turn g.C.Chart.points c.args.chart.now in
    let bs = c.args.borders.now.items in
    let p = part_of bs l c.args.sizes.now c.loop-j.part c.loop-j.j c.loop-j.at c.bytes.result _ c.requires.sizes (c.loop-j.auto.part ∙ c.requires.long) c.loop-j-test.true c.loop-j.invariant.here c.bytes.ensures in
    let room : c.loop-j.at ≤ length c.loop-j.part = omega (arith, p.within) in
    stripwise_more max_edge bs l c.loop-j.j c.loop-j.part c.write_strip.new.part c.loop-j.at (c.loop-j.at + c.bytes.result) _ c.loop-j.invariant c.write_strip.ensures p.to room

pub returns : goal.returns
returns g c =
    let l = lines_of g.C.Turning.turn g.C.Chart.points c.args.chart.now in
    let bs = c.args.borders.now.items in
    let many : length c.args.sizes.now ≡ strip_count bs = ap length c.requires.sizes ∙ sizes_long max_edge bs l in
    let last = c.loop-j.auto.j-end in
    let end : c.loop-j.j ≡ strip_count bs = omega (arith, c.loop-j-test.false) in
    let all : Stripwise max_edge bs l (strip_count bs) c.loop-j.part c.loop-j.at = subst (λ j. Stripwise max_edge bs l j c.loop-j.part c.loop-j.at) end c.loop-j.invariant in
    sym (take_all c.loop-j.at c.loop-j.part (omega (arith, all.here, c.requires.long, c.loop-j.auto.part))) ∙ all.done
