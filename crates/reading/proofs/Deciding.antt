-- The verdict of a call that reads, from its parts. Assumes nothing.
use Rattle.std.proofs.Common.{◌≡◌, ℕ, Bool, true, false, List, [], ◌∷◌, length, ℤ, is_err, Some, None, Ok, Err, Result, sym, refl, ap, ◌∙◌, arith}
use Rattle.std.proofs.lemmas.Bool.{cond-true, both_ways}
use Rattle.turning.specs.Limits.{max_edge, marks_for, line_for}
use Rattle.turning.specs.Refusals.{asked}
use Rattle.turning.specs.declared.refusal.Refusal.{Refusal}
use Rattle.turning.specs.declared.refusal.Refusal.TheVariants.{ShortMemory}
use Rattle.search.specs.Buffers.{enough}
use Rattle.search.proofs.Buffers.{enough_both}
use Rattle.file.specs.declared.fault.Fault.{Fault}
use Rattle.file.specs.declared.fault.Layer.TheVariants.{Flat}
use Rattle.file.specs.Lines.{flat}
use Rattle.file.specs.Places.{at, once, answered}
use Rattle.file.specs.Verdict.{shape_verdict, told_lines, q17, verdict}
use Rattle.file.proofs.Places.{skip, stop, last_one, answer_some, answer_none, ok_none, question_some}
use Rattle.judge.specs.Judging.{verdict_by}
use Rattle.reading.specs.Reading.{sheet_verdict}

-- a call that asks one question gives its value
pub granted_is : {A : Type 0} (b : Bool) (r : Refusal) (u v : A) → b ≡ true → Ok u ≡ asked ((b, r) ∷ []) v → u ≡ v
granted_is {A = A} b r u v e z = same (z ∙ cond-true b (Ok v) (Err r) e)
  where
    same : ◌≡◌ {A = Result A Refusal} (Ok u) (Ok v) → u ≡ v
    same q = cc

-- ---- the verdict of the bytes
-- the fault of question 17
abbrev not_flat : Fault
not_flat = record { layer = Flat; number = 17; strip = 0; place = 0 }

shape_fault : (b : List ℕ) (x : Fault) → shape_verdict b ≡ Some x → verdict b ≡ Some x
unfolding verdict
shape_fault b x e = stop (shape_verdict b) (q17 b ∷ []) x e

flat_asked : (b : List ℕ) → shape_verdict b ≡ None → verdict b ≡ q17 b
unfolding verdict
flat_asked b e = skip (shape_verdict b) (q17 b ∷ []) e ∙ last_one (q17 b)

-- ---- the answer, where the sheet's memory is long enough
module _ (long : Bool) (e : long ≡ true) (b : List ℕ) where
  on_sheet : sheet_verdict long b ≡ verdict b
  on_sheet = cond-true long _ _ e

  -- what is answered
  abbrev told : Result Unit Fault
  told = answered (sheet_verdict long b) tt

  pub answer_shape : (x : Fault) → shape_verdict b ≡ Some x → Err x ≡ told
  answer_shape x s = answer_some (sheet_verdict long b) tt x (on_sheet ∙ shape_fault b x s)

  pub answer_flat : shape_verdict b ≡ None → flat max_edge (told_lines b).turn ≡ false → Err not_flat ≡ told
  answer_flat s f = answer_some (sheet_verdict long b) tt not_flat (on_sheet ∙ flat_asked b s ∙ ap (λ x. at (λ _. not_flat) (once x)) f)

  pub answer_yes : shape_verdict b ≡ None → flat max_edge (told_lines b).turn ≡ true → Ok tt ≡ told
  answer_yes s f = answer_none (sheet_verdict long b) tt (on_sheet ∙ flat_asked b s ∙ ap (λ x. at (λ _. not_flat) (once x)) f)

-- ---- what the calls before tell
-- a sheet that is ready has a memory that is long enough
pub ready_long : (r : Result Unit Refusal) (long bad : Bool) → r ≡ asked ((long, ShortMemory) ∷ []) tt → bad ≡ is_err r → bad ≡ false → long ≡ true
ready_long r true bad e v f = refl
ready_long r false bad e v f = absurd (both_ways _ f (v ∙ ap is_err e))

-- over buffers that are long enough the questions 1 to 16 are asked
module _ (m : List ℕ) (l : List ℤ) (b : List ℕ) (marks : length m ≡ marks_for max_edge) (line : length l ≡ line_for max_edge) where
  by_shape : verdict_by (enough max_edge m l) b ≡ shape_verdict b
  by_shape = cond-true (enough max_edge m l) _ _ (enough_both max_edge m l (omega (arith, marks)) (omega (arith, line)))

  -- what `judge` answers
  abbrev judged : Result Unit Fault
  judged = answered (verdict_by (enough max_edge m l) b) tt

  pub accepted : Ok tt ≡ judged → shape_verdict b ≡ None
  accepted e = sym by_shape ∙ ok_none (verdict_by (enough max_edge m l) b) tt tt e

  pub refused : (x : Fault) → Err x ≡ judged → shape_verdict b ≡ Some x
  refused x e = sym by_shape ∙ question_some (verdict_by (enough max_edge m l) b) tt x e
