use Rattle.std.proofs.Common.{◌≡◌, Err, true, false, cond, length, get_or, set, neg_ℤ, sym, ap, ◌∙◌, subst, rules, below_more}
use Rattle.turning.specs.Limits.{max_edge, marks_for}
use Rattle.search.specs.Marks.{Within, place as mark_at}
use Rattle.file.specs.Questions.{paired}
use Rattle.file.specs.Strips.{names}
use Rattle.file.specs.declared.questions.StripQuestion.TheVariants.{Pairs}
use Rattle.file.specs.Views.{told}
use Rattle.file.specs.Verdict.{strip_fault}
use Rattle.file.proofs.Places.{first_bad_is, first_bad_none, fault_some, fault_none}
use Rattle.strip_questions.proofs.Marks.{mark_more, named_neg, named_within, neg_is, pair_seen, pair_lone, pair_good}
use Rattle.strip_questions.proofs.paired.find_unpaired.Goals as goal
use Rattle.strip_questions.proofs.paired.find_unpaired.Goals.{then-marks-here-eq2-via-then-marks-here-eq2, then-marks-here-eq2-via-else-marks-here-eq2+then-marks-place_of-eq0}

pub place_of-requires : goal.place_of-requires
place_of-requires c =
    let g = c.requires.named c.loop-i.i c.loop-i-test.true in
    let z = (told c.args.s).name c.loop-i.i in
    subst (Within max_edge) (sym (neg_is c.name.result z c.name.ensures g)) (named_within (neg_ℤ z) (named_neg z g))

pub returns-then-marks-here-eq2 : goal.returns-then-marks-here-eq2
returns-then-marks-here-eq2 c =
    let g = c.requires.named c.loop-i.i c.loop-i-test.true in
    let bad : paired (told c.args.s) c.loop-i.i ≡ false =
    elim c.then-marks-here-eq2.branch [
      | then-marks-here-eq2-via-then-marks-here-eq2 w ↦
          pair_seen (told c.args.s) c.loop-i.i _
          (ap (λ k. get_or c.loop-i.marks k 0) c.place_in-here.ensures.value ∙ c.loop-i.invariant.0 ((told c.args.s).name c.loop-i.i) g) w.if-marks-here-eq2.true
      | then-marks-here-eq2-via-else-marks-here-eq2+then-marks-place_of-eq0 w ↦
          pair_lone (told c.args.s) c.loop-i.i _
          (ap (λ k. get_or c.loop-i.marks k 0) (w.place_of.ensures.value ∙ ap (mark_at max_edge) (neg_is _ _ w.name.ensures g)) ∙ c.loop-i.invariant.0 (neg_ℤ ((told c.args.s).name c.loop-i.i)) (named_neg ((told c.args.s).name c.loop-i.i) g)) w.if-marks-place_of-eq0.true
    ] in
    ap Err c.new.ensures ∙ fault_some (strip_fault Pairs c.args.number) _ _ _ (first_bad_is (paired (told c.args.s)) _ _ c.loop-i-test.true c.loop-i.invariant.1 bad)

pub loop-i-preserved : goal.loop-i-preserved
loop-i-preserved c =
    let g = c.requires.named c.loop-i.i c.loop-i-test.true in
    let long : length c.loop-i.marks ≡ marks_for max_edge = search rules in
    let good : paired (told c.args.s) c.loop-i.i ≡ true =
    pair_good (told c.args.s) c.loop-i.i _ _ (search rules)
    (ap (λ k. get_or c.loop-i.marks k 0) c.place_in-here.ensures.value ∙ c.loop-i.invariant.0 ((told c.args.s).name c.loop-i.i) g)
    (ap (λ k. get_or c.loop-i.marks k 0) (c.place_of.ensures.value ∙ ap (mark_at max_edge) (neg_is _ _ c.name.ensures g)) ∙ c.loop-i.invariant.0 (neg_ℤ ((told c.args.s).name c.loop-i.i)) (named_neg ((told c.args.s).name c.loop-i.i) g))
    c.if-marks-here-eq2.false c.if-marks-place_of-eq0.false in (
      (λ z h. ap (λ k. get_or (set c.loop-i.marks k 2) (mark_at max_edge z) 0) c.place_in-here.ensures.value
          ∙ mark_more c.loop-i.marks (told c.args.s) c.loop-i.i 2
          (λ y. cond (names (told c.args.s) c.args.s.slots y) 1 0) long g c.loop-i.invariant.0 z h),
      below_more _ _ c.loop-i.invariant.1 good,
    )

pub returns : goal.returns
returns c = fault_none (strip_fault Pairs c.args.number) _ _ (first_bad_none (paired (told c.args.s)) c.args.s.slots (λ i h. c.loop-i.invariant.1 i (search rules)))
