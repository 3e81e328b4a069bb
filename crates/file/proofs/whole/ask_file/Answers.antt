use Rattle.std.proofs.Common.{◌≡◌, true, [], ◌∷◌, length, None, sym, ◌∙◌, arith, rules}
use Rattle.std.proofs.lemmas.Bool.Decides.{nat_tests}
use Rattle.file.specs.declared.questions.FileQuestion.TheVariants.{Length}
use Rattle.file.specs.Layout.{strip_at}
use Rattle.file.specs.Places.{first_of}
use Rattle.file.specs.Questions.{length_right}
use Rattle.file.specs.Verdict.{q1, q2, q3, q4, q5, file_verdict, file_fault}
use Rattle.file.proofs.Places.{both_none, last_one, ok_none, ok_same, once_right}
use Rattle.file.proofs.Sizes.{file_none, shaped}
use Rattle.file.proofs.whole.ask_file.Goals as goal

pub returns-in_err-count : goal.returns-in_err-count
unfolding file_verdict
returns-in_err-count c = search rules

pub returns-in_err-end : goal.returns-in_err-end
unfolding file_verdict
returns-in_err-end c = search rules

pub returns-then-bytes-end : goal.returns-then-bytes-end
unfolding file_verdict
returns-then-bytes-end c = search rules

pub returns-in_err-borders_rise : goal.returns-in_err-borders_rise
unfolding file_verdict
returns-in_err-borders_rise c = search rules

pub invariant_of-result : goal.invariant_of-result
invariant_of-result c =
    let b = c.args.bytes.now in
    let n = c.in_ok-count.count in
    let three = ok_none (q3 b) _ _ c.in_ok-end.ensures in
    let end = ok_same _ _ _ c.in_ok-end.ensures in
    record { shaped = shaped b n (ok_same _ _ _ c.in_ok-count.ensures) (search rules) (search rules) (omega arith) three }

pub returns-clause-verdict : goal.returns-clause-verdict
returns-clause-verdict c =
    let b = c.args.bytes.now in
    let same = ok_same _ _ _ c.in_ok-count.ensures in
    let both = both_none (q1 b) (q2 b ∷ []) (ok_none (first_of (q1 b ∷ (q2 b ∷ []))) _ _ c.in_ok-count.ensures) in
    let three = ok_none (q3 b) _ _ c.in_ok-end.ensures in
    let end = ok_same _ _ _ c.in_ok-end.ensures in
    let long : length b ≡ strip_at b c.in_ok-count.count = omega arith in
    let right : length_right b ≡ true = grind (arith, nat_tests) in
    let four : q4 b ≡ None = once_right (λ _. file_fault Length 0 0) _ right in
    let five = ok_none (q5 b) _ _ c.in_ok-borders_rise.ensures in
    sym (file_none b both.0 (sym (last_one (q2 b)) ∙ both.1) three four five)
