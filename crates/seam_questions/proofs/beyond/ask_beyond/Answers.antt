use Rattle.std.proofs.Common.{ℕ, ◌+◌, ◌<◌, Err, ap, ◌∙◌, arith, below_more}
use Rattle.std.proofs.lemmas.Result.{err_from_is_err_and}
use Rattle.file.specs.Layout.{strips, strip}
use Rattle.file.specs.Places.{at, each}
use Rattle.file.specs.Verdict.{seam_fault}
use Rattle.file.proofs.Places.{ok_none, question_some, answer_some, answer_none, first_fault_is, first_fault_none}
use Rattle.seam_questions.specs.Sides.{stands_right, asked_of}
use Rattle.seam_questions.proofs.beyond.ask_beyond.Goals as goal

pub returns-in_err-ask_strip : goal.returns-in_err-ask_strip
returns-in_err-ask_strip c =
    let b = c.args.judged.file.bytes.now in
    let fault : ℕ → _ = λ j. at (seam_fault (asked_of c.args.homes) (j + 1)) (each (strip b j).slots (stands_right c.args.homes (strips b) (strip b) j)) in
    let below : c.loop-j.j < strips b = omega (arith, c.args.judged.file.shaped.count) in
    let p = err_from_is_err_and c.from_residual.result c.from_residual.ensures.1 in
    p.1 ∙ ap Err p.2 ∙ answer_some _ tt _ (first_fault_is fault (strips b) c.loop-j.j _ below c.loop-j.invariant (question_some (fault c.loop-j.j) tt _ c.in_err-ask_strip.ensures))

pub loop-j-preserved : goal.loop-j-preserved
loop-j-preserved c = below_more _ _ c.loop-j.invariant (ok_none _ _ _ c.in_ok-ask_strip.ensures)

pub returns : goal.returns
returns c =
    let b = c.args.judged.file.bytes.now in
    answer_none _ tt (first_fault_none (λ j. at (seam_fault (asked_of c.args.homes) (j + 1)) (each (strip b j).slots (stands_right c.args.homes (strips b) (strip b) j))) (strips b) (λ i h. c.loop-j.invariant i (omega (arith, c.args.judged.file.shaped.count))))
