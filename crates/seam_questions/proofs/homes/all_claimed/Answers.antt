use Rattle.std.proofs.Common.{◌≡◌, ℕ, ◌+◌, Err, sym, ap, ◌∙◌, arith, rules, below_more}
use Rattle.file.specs.declared.questions.SeamQuestion.TheVariants.{Homes}
use Rattle.file.specs.Layout.{strip}
use Rattle.file.specs.Questions.{home_new}
use Rattle.file.specs.Verdict.{seam_fault}
use Rattle.file.specs.Views.{told}
use Rattle.file.proofs.Places.{first_bad_is, first_bad_none, fault_some, fault_none}
use Rattle.seam_questions.proofs.HomeMarks.{next_strip}
use Rattle.seam_questions.proofs.SideMarks.{lent_good}
use Rattle.seam_questions.proofs.homes.all_claimed.Goals as goal

pub claim_home-requires : goal.claim_home-requires
claim_home-requires c = record {
  strip = c.strip-s.ensures.told;
  slot = c.loop-i-test.true;
  named = lent_good c.args.judged.file.bytes.now c.args.judged.file.count c.args.j (told c.strip-s.result) c.args.judged.judged c.requires.strip c.strip-s.ensures.told c.loop-i.i c.loop-i-test.true;
  marked = c.loop-i.invariant.0;
}

pub returns-then-not-claim_home : goal.returns-then-not-claim_home
returns-then-not-claim_home c =
    let at = strip c.args.judged.file.bytes.now in
    let same : c.strip-s.result.slots ≡ (at c.args.j).slots = ap (λ y. y.slots) c.strip-s.ensures.told in
    record {
      answer = ap Err c.new.ensures ∙ fault_some (seam_fault Homes (c.args.j + 1)) _ _ _
          (first_bad_is (home_new at c.args.j) (at c.args.j).slots c.loop-i.i (omega (arith, same, c.loop-i-test.true)) c.loop-i.invariant.1 (sym c.claim_home.ensures.answer ∙ c.if-not-claim_home.true));
      held = λ e. let y : ◌≡◌ {A = ℕ} 0 1 = cc in absurd (omega arith);
    }

pub loop-i-preserved : goal.loop-i-preserved
loop-i-preserved c = (
  c.claim_home.ensures.held c.if-not-claim_home.false,
  below_more _ _ c.loop-i.invariant.1 (sym c.claim_home.ensures.answer ∙ c.if-not-claim_home.false),
)

pub returns : goal.returns
returns c =
    let at = strip c.args.judged.file.bytes.now in
    let same : c.strip-s.result.slots ≡ (at c.args.j).slots = ap (λ y. y.slots) c.strip-s.ensures.told in
    let all : c.loop-i.i ≡ c.strip-s.result.slots = search rules in
    record {
      answer = fault_none (seam_fault Homes (c.args.j + 1)) _ _ (first_bad_none (home_new at c.args.j) (at c.args.j).slots (λ i h. c.loop-i.invariant.1 i (omega (arith, same, all))));
      held = λ _. next_strip c.args.judged.file.bytes.now c.args.j c.loop-i.i _ (all ∙ same) c.loop-i.invariant.0;
    }
