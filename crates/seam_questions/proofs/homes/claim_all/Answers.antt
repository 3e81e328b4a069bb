use Rattle.std.proofs.Common.{ℕ, ◌+◌, ◌<◌, length, get_or, Err, ap, ◌∙◌, arith, below_more}
use Rattle.std.proofs.lemmas.List.{get_or-replicate}
use Rattle.std.proofs.lemmas.Result.{err_from_is_err_and}
use Rattle.turning.specs.Limits.{max_edge}
use Rattle.file.specs.declared.questions.SeamQuestion.TheVariants.{Homes}
use Rattle.file.specs.Layout.{strips, strip}
use Rattle.file.specs.Places.{at, each}
use Rattle.file.specs.Questions.{home_new}
use Rattle.file.specs.Verdict.{seam_fault, q15}
use Rattle.file.proofs.Places.{ok_none, question_some, answer_some, answer_none, first_fault_is, first_fault_none}
use Rattle.search.specs.Marks.{place as mark_at}
use Rattle.strip_questions.proofs.Marks.{mark_within}
use Rattle.seam_questions.proofs.HomeMarks.{none_yet}
use Rattle.seam_questions.proofs.homes.claim_all.Goals as goal

pub loop-j-init : goal.loop-j-init
loop-j-init c = (
  none_yet c.args.judged.file.bytes.now _ (λ z h. ap (λ m. get_or m (mark_at max_edge z) 0) c.requires.clean ∙ get_or-replicate (length c.args.marks.now) (mark_at max_edge z) 0 0 (omega (arith, mark_within z h, c.told-marks))),
  (λ k h. absurd (omega arith)),
)

pub returns-in_err-all_claimed : goal.returns-in_err-all_claimed
unfolding q15
returns-in_err-all_claimed c =
    let b = c.args.judged.file.bytes.now in
    let fault : ℕ → _ = λ j. at (seam_fault Homes (j + 1)) (each (strip b j).slots (home_new (strip b) j)) in
    let below : c.loop-j.j < strips b = omega (arith, c.args.judged.file.shaped.count) in
    let p = err_from_is_err_and c.from_residual.result c.from_residual.ensures.1 in
    p.1 ∙ ap Err p.2 ∙ answer_some _ tt _ (first_fault_is fault (strips b) c.loop-j.j _ below c.loop-j.invariant.1 (question_some (fault c.loop-j.j) tt _ c.in_err-all_claimed.ensures.answer))

pub loop-j-preserved : goal.loop-j-preserved
loop-j-preserved c = (c.all_claimed.ensures.held c.in_ok-all_claimed.was, below_more _ _ c.loop-j.invariant.1 (ok_none _ _ _ c.in_ok-all_claimed.ensures.answer))

pub returns : goal.returns
unfolding q15
returns c = answer_none _ tt (first_fault_none (λ j. at (seam_fault Homes (j + 1)) (each (strip c.args.judged.file.bytes.now j).slots (home_new (strip c.args.judged.file.bytes.now) j))) (strips c.args.judged.file.bytes.now) (λ i h. c.loop-j.invariant.1 i (omega (arith, c.args.judged.file.shaped.count))))
