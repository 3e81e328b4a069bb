use Rattle.std.proofs.Common.{◌≡◌, ℕ, List, ◌+◌, ◌<◌, None, Err, sym, ap, ◌∙◌, arith, below_more}
use Rattle.std.proofs.lemmas.Result.{err_from_is_err_and}
use Rattle.std.specs.Result.{result_err}
use Rattle.file.specs.Layout.{strips, strip, western, eastern}
use Rattle.file.specs.Views.{told}
use Rattle.file.specs.Verdict.{strip_verdict, strips_verdict}
use Rattle.file.proofs.Judged.{judged}
use Rattle.file.proofs.Places.{ok_none, question_some, first_fault_is, first_fault_none}
use Rattle.strip_questions.proofs.Judging.{of_strip}
use Rattle.strip_questions.proofs.asked.ask_strips.Goals as goal

pub returns-in_err-ask_strip-clause-verdict : goal.returns-in_err-ask_strip-clause-verdict
unfolding strips_verdict
returns-in_err-ask_strip-clause-verdict c =
    let here = of_strip c.args.file.bytes.now c.loop-j.j _ _ (told c.strip.result) c.western_border-west.ensures c.eastern_border-east.ensures c.strip.ensures.told
    ∙ question_some _ tt _ c.in_err-ask_strip.ensures in
    let below : c.loop-j.j < strips c.args.file.bytes.now = omega (arith, c.args.file.shaped.count) in
    let p = err_from_is_err_and c.from_residual.result c.from_residual.ensures.1 in
    ap result_err (p.1 ∙ ap Err p.2) ∙ sym (first_fault_is (λ j. strip_verdict (western c.args.file.bytes.now j) (eastern c.args.file.bytes.now j) (strip c.args.file.bytes.now j) (j + 1)) (strips c.args.file.bytes.now) c.loop-j.j _ below c.loop-j.invariant here)

pub loop-j-preserved : goal.loop-j-preserved
loop-j-preserved c =
    let here : strip_verdict (western c.args.file.bytes.now c.loop-j.j) (eastern c.args.file.bytes.now c.loop-j.j) (strip c.args.file.bytes.now c.loop-j.j) (c.loop-j.j + 1) ≡ None =
    of_strip c.args.file.bytes.now c.loop-j.j _ _ (told c.strip.result) c.western_border-west.ensures c.eastern_border-east.ensures c.strip.ensures.told
    ∙ ok_none _ _ _ c.in_ok-ask_strip.ensures in
    below_more _ _ c.loop-j.invariant here

-- without a fault of any strip, the strips have none
no_fault : (b : List ℕ) (n : ℕ) → n ≡ strips b → ((k : ℕ) → k < n → strip_verdict (western b k) (eastern b k) (strip b k) (k + 1) ≡ None) → strips_verdict b ≡ None
unfolding strips_verdict
no_fault b n e all = first_fault_none (λ j. strip_verdict (western b j) (eastern b j) (strip b j) (j + 1)) (strips b) (λ i h. all i (omega arith))

pub invariant_of-result : goal.invariant_of-result
invariant_of-result c =
    let b = c.args.file.bytes.now in
    let count = c.args.file.shaped.count in
    record { judged = judged b c.args.file.count count (no_fault b c.args.file.count count (λ k h. c.loop-j.invariant k (omega arith))) }

pub returns-clause-verdict : goal.returns-clause-verdict
returns-clause-verdict c = sym (no_fault c.args.file.bytes.now c.args.file.count c.args.file.shaped.count (λ k h. c.loop-j.invariant k (omega arith)))
