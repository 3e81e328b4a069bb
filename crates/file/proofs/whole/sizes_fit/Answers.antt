use Rattle.std.proofs.Common.{◌≡◌, ◌+◌, Err, true, false, length, sym, ap, ◌∙◌, arith, rules}
use Rattle.std.proofs.lemmas.Bool.Decides.{nat_tests}
use Rattle.file.specs.declared.questions.FileQuestion.TheVariants.{SizesFit}
use Rattle.file.specs.Questions.{size_good}
use Rattle.file.specs.Layout.{strips, slots_in, vertices_in, strip_length, strip_at}
use Rattle.file.specs.Verdict.{file_fault}
use Rattle.file.proofs.Places.{bad_here, bad_next, sum_more, fault_some}
use Rattle.file.proofs.Sizes.{read_sizes}
use Rattle.file.proofs.whole.sizes_fit.Goals as goal

pub sizes-sizes-requires : goal.sizes-sizes-requires
sizes-sizes-requires c = omega (arith, c.loop-j.invariant.5, ap length c.loop-j.invariant.6)

pub returns-then-sizes : goal.returns-then-sizes
returns-then-sizes c =
    let r = read_sizes c.args.head.bytes.now _ _ _ _ c.loop-j.j c.loop-j.invariant.6 c.loop-j.invariant.5 c.sizes-sizes.ensures.vertices c.sizes-sizes.ensures.slots in
    let v : c.sizes-sizes.result.vertices ≡ vertices_in c.args.head.bytes.now c.loop-j.j = r.0 in
    let h : c.sizes-sizes.result.slots ≡ slots_in c.args.head.bytes.now c.loop-j.j = r.1 in
    let bad : size_good c.args.head.bytes.now c.loop-j.j ≡ false = grind (arith, nat_tests) in
    ap Err c.new.ensures ∙ fault_some (λ j. file_fault SizesFit (j + 1) 0) (strip_at c.args.head.bytes.now c.args.head.count) _ _ (sym c.loop-j.invariant.4 ∙ bad_here (size_good c.args.head.bytes.now) c.loop-j.j (strips c.args.head.bytes.now) (search rules) bad)

pub loop-j-preserved : goal.loop-j-preserved
loop-j-preserved c =
    let r = read_sizes c.args.head.bytes.now _ _ _ _ c.loop-j.j c.loop-j.invariant.6 c.loop-j.invariant.5 c.sizes-sizes.ensures.vertices c.sizes-sizes.ensures.slots in
    let v : c.sizes-sizes.result.vertices ≡ vertices_in c.args.head.bytes.now c.loop-j.j = r.0 in
    let h : c.sizes-sizes.result.slots ≡ slots_in c.args.head.bytes.now c.loop-j.j = r.1 in
    let good : size_good c.args.head.bytes.now c.loop-j.j ≡ true = grind (arith, nat_tests) in
    let s = sum_more (slots_in c.args.head.bytes.now) c.loop-j.j in
    let t = sum_more (strip_length c.args.head.bytes.now) c.loop-j.j in (
      omega arith,
      omega arith,
      omega arith,
      omega arith,
      sym (bad_next (size_good c.args.head.bytes.now) c.loop-j.j (strips c.args.head.bytes.now) (search rules) good) ∙ c.loop-j.invariant.4,
      omega (arith, c.sizes-sizes.ensures.at, c.loop-j.invariant.5),
      c.sizes-sizes.ensures.bytes ∙ c.loop-j.invariant.6,
    )
