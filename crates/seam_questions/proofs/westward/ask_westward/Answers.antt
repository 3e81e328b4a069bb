use Rattle.std.proofs.Common.{◌≡◌, ◌+◌, ◌<◌, None, Err, sym, ap, ◌∙◌, arith, below_more}
use Rattle.std.proofs.lemmas.Result.{err_from_is_err_and}
use Rattle.file.specs.declared.questions.SeamQuestion.TheVariants.{WestFirst}
use Rattle.file.specs.Layout.{strips, strip}
use Rattle.file.specs.Places.{at, each}
use Rattle.file.specs.Questions.{west_first}
use Rattle.file.specs.Views.{told}
use Rattle.file.specs.Verdict.{seam_fault, q16}
use Rattle.file.proofs.Places.{ok_none, question_some, answer_some, answer_none, first_fault_is, first_fault_none}
use Rattle.seam_questions.proofs.Numbering.{lent_sound}
use Rattle.seam_questions.proofs.westward.ask_westward.Goals as goal

pub number_vertices-requires-clause-sound : goal.number_vertices-requires-clause-sound
number_vertices-requires-clause-sound c =
    lent_sound c.args.judged.file.bytes.now c.args.judged.file.count c.loop-j.j (told c.strip-s.result) c.args.judged.judged c.loop-j-test.true c.strip-s.ensures.told

pub all_westward-requires-clause-sound : goal.all_westward-requires-clause-sound
all_westward-requires-clause-sound c =
    lent_sound c.args.judged.file.bytes.now c.args.judged.file.count c.loop-j.j (told c.strip-s.result) c.args.judged.judged c.loop-j-test.true c.strip-s.ensures.told

pub returns-in_err-all_westward : goal.returns-in_err-all_westward
unfolding q16
returns-in_err-all_westward c =
    let here : at (seam_fault WestFirst (c.loop-j.j + 1)) (each (strip c.args.judged.file.bytes.now c.loop-j.j).slots (west_first (strip c.args.judged.file.bytes.now c.loop-j.j))) ≡ _ =
    ap (λ y. at (seam_fault WestFirst (c.loop-j.j + 1)) (each y.slots (west_first y))) (sym c.strip-s.ensures.told) ∙ question_some _ tt _ c.in_err-all_westward.ensures in
    let below : c.loop-j.j < strips c.args.judged.file.bytes.now = omega (arith, c.args.judged.file.shaped.count) in
    let p = err_from_is_err_and c.from_residual.result c.from_residual.ensures.1 in
    p.1 ∙ ap Err p.2 ∙ answer_some _ tt _ (first_fault_is (λ j. at (seam_fault WestFirst (j + 1)) (each (strip c.args.judged.file.bytes.now j).slots (west_first (strip c.args.judged.file.bytes.now j)))) (strips c.args.judged.file.bytes.now) c.loop-j.j _ below c.loop-j.invariant here)

pub loop-j-preserved : goal.loop-j-preserved
loop-j-preserved c =
    let here : at (seam_fault WestFirst (c.loop-j.j + 1)) (each (strip c.args.judged.file.bytes.now c.loop-j.j).slots (west_first (strip c.args.judged.file.bytes.now c.loop-j.j))) ≡ None =
    ap (λ y. at (seam_fault WestFirst (c.loop-j.j + 1)) (each y.slots (west_first y))) (sym c.strip-s.ensures.told) ∙ ok_none _ _ _ c.in_ok-all_westward.ensures in
    below_more _ _ c.loop-j.invariant here

pub returns : goal.returns
unfolding q16
returns c = answer_none _ tt (first_fault_none (λ j. at (seam_fault WestFirst (j + 1)) (each (strip c.args.judged.file.bytes.now j).slots (west_first (strip c.args.judged.file.bytes.now j)))) (strips c.args.judged.file.bytes.now) (λ i h. c.loop-j.invariant i (omega (arith, c.args.judged.file.shaped.count))))
