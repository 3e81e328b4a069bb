use Rattle.std.proofs.Common.{◌≡◌, [], ◌∷◌, Err, sym, ap, ◌∙◌}
use Rattle.std.proofs.lemmas.Result.{err_from_is_err_and}
use Rattle.file.specs.Places.{at}
use Rattle.file.specs.Verdict.{file_verdict, strips_verdict, seam_verdict, shape_verdict, of_file, of_strip, of_seam}
use Rattle.file.proofs.Places.{ok_none, question_some, verdict_some, verdict_none}
use Rattle.judge.proofs.ask.Goals as goal

pub returns-in_err-file : goal.returns-in_err-file
unfolding shape_verdict
returns-in_err-file c =
    let b = c.args.bytes.now in
    let p = err_from_is_err_and c.from_residual.result c.from_residual.ensures.1 in
    p.1 ∙ ap Err p.2 ∙ verdict_some of_file (file_verdict b) (at of_strip (strips_verdict b) ∷ at of_seam (seam_verdict b) ∷ []) tt _ (sym c.in_err-file.ensures.verdict)

pub returns-in_err-judged : goal.returns-in_err-judged
unfolding shape_verdict
returns-in_err-judged c =
    let b = c.args.bytes.now in
    let p = err_from_is_err_and c.from_residual-in_err-judged.result c.from_residual-in_err-judged.ensures.1 in
    p.1 ∙ ap Err p.2
    ∙ verdict_some of_strip (strips_verdict b) (at of_seam (seam_verdict b) ∷ []) tt _ (ap strips_verdict (sym c.in_ok-file.ensures.file) ∙ sym c.in_err-judged.ensures.verdict)
    ∙ verdict_none of_file (file_verdict b) (at of_strip (strips_verdict b) ∷ at of_seam (seam_verdict b) ∷ []) tt (sym c.in_ok-file.ensures.verdict)

pub returns-in_err-ask_seams : goal.returns-in_err-ask_seams
unfolding shape_verdict
returns-in_err-ask_seams c =
    let b = c.args.bytes.now in
    let p = err_from_is_err_and c.from_residual-in_err-ask_seams.result c.from_residual-in_err-ask_seams.ensures.1 in
    let same : c.in_ok-judged.judged.file.bytes.now ≡ b = ap (λ f. f.bytes.now) c.in_ok-judged.ensures.file ∙ c.in_ok-file.ensures.file in
    p.1 ∙ ap Err p.2 ∙ verdict_some of_seam (seam_verdict b) [] tt _ (ap seam_verdict (sym same) ∙ question_some _ _ _ c.in_err-ask_seams.ensures)
    ∙ verdict_none of_strip (strips_verdict b) (at of_seam (seam_verdict b) ∷ []) tt (ap strips_verdict (sym c.in_ok-file.ensures.file) ∙ sym c.in_ok-judged.ensures.verdict)
    ∙ verdict_none of_file (file_verdict b) (at of_strip (strips_verdict b) ∷ at of_seam (seam_verdict b) ∷ []) tt (sym c.in_ok-file.ensures.verdict)

pub returns : goal.returns
unfolding shape_verdict
returns c =
    let b = c.args.bytes.now in
    let same : c.in_ok-judged.judged.file.bytes.now ≡ b = ap (λ f. f.bytes.now) c.in_ok-judged.ensures.file ∙ c.in_ok-file.ensures.file in
    verdict_none of_seam (seam_verdict b) [] tt (ap seam_verdict (sym same) ∙ ok_none _ _ _ c.in_ok-ask_seams.ensures)
    ∙ verdict_none of_strip (strips_verdict b) (at of_seam (seam_verdict b) ∷ []) tt (ap strips_verdict (sym c.in_ok-file.ensures.file) ∙ sym c.in_ok-judged.ensures.verdict)
    ∙ verdict_none of_file (file_verdict b) (at of_strip (strips_verdict b) ∷ at of_seam (seam_verdict b) ∷ []) tt (sym c.in_ok-file.ensures.verdict)
