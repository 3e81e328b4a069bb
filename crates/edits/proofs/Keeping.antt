-- What an edit keeps: flat line work, and the law of joins.
-- Assumes nothing.
use Rattle.std.proofs.Common.{◌≡◌, ℕ, Bool, true, false, cond, not, ◌⊎◌, ◌↔◌, [], ◌∷◌, ◌++◌, ℤ, Some, None, Ok, Err, Option, sym, refl, ◌∙◌, subst, ap₂, subst₂, inl, inr, arith}
use Rattle.std.proofs.lemmas.Bool.{and_parts, or_cases, or_parts, not-true, not-false, both_ways, cases_Bool, cond-true, cond-false}
use Rattle.flat.proofs.Basics.{T_true, true_T}
use Rattle.turning.specs.declared.refusal.Refusal.{Refusal}
use Rattle.turning.specs.declared.refusal.Refusal.TheVariants.{ShortBuffers, LoopsOfOnePiece, NoRoom}
use Rattle.turning.specs.Refusals.{Questions, Outcome, granted, outcome}
use Rattle.turning.specs.Turn.{Turn, Lawful}
use Rattle.turning.specs.Counts.{SameLoop, SamePiece, same_loop, same_piece, Flat}
use Rattle.turning.proofs.Tests.{loop_walk, piece_walk}
use Rattle.search.specs.Buffers.{enough}
use Rattle.chart.specs.declared.point.Point.{Point}
use Rattle.chart.specs.declared.point.End.{End}
use Rattle.chart.specs.Points.{same_point}
use Rattle.chart.specs.Changes.{hung}
use Rattle.chart.specs.Stores.{Meaning}
use Rattle.laws.specs.Keeps.{Sound}
use Rattle.laws.proofs.Proved.{hung_flat, lifted_flat, cleft_flat}
use Rattle.chart.specs.Ends.{new_end, after_corner}
use Rattle.edits.specs.Edits.{Edit, starts, sprouts, joins, splits, removes, questions, join_before, join_last, may_join, start_of, free_point, made, Changed, Done, KeepsFlat, Judged}
use Rattle.edits.specs.Asked.{Started}
use Rattle.edits.proofs.Points.{started_is}
use Rattle.edits.proofs.Tables.{said, corner_is, start_is, start_asked, sprout_asked, join_asked, split_asked}

zero_one : ◌≡◌ {A = ℕ} 0 1 → ⊥
zero_one e = omega arith

-- ---- tables
-- every question is answered yes
abbrev Yes : Questions → Type 0
Yes [] = Unit {0}
Yes (q ∷ qs) = (q.0 ≡ true) × Yes qs

all_yes : (qs : Questions) → outcome qs ≡ granted → Yes qs
all_yes [] e = tt
all_yes ((a, x) ∷ qs) e = go (cases_Bool a) (all_yes qs)
  where
    go : (a ≡ true) ⊎ (a ≡ false) → (outcome qs ≡ granted → Yes qs) → (a ≡ true) × Yes qs
    go (inl y) rec = (y, rec (sym (cond-true a (outcome qs) (Err x) y) ∙ e))
    go (inr z) rec = let k : Err x ≡ granted = sym (cond-false a (outcome qs) (Err x) z) ∙ e in let w : ◌≡◌ {A = ℕ} 0 1 = cc in absurd (zero_one w)

past : (qs rs : Questions) → Yes qs → outcome (qs ++ rs) ≡ outcome rs
past [] rs h = refl
past ((a, x) ∷ qs) rs h = cond-true a _ _ h.0 ∙ past qs rs h.1

-- the last question was answered yes
yes_said : (b : Bool) (x : Refusal) → said b x ≡ granted → b ≡ true
yes_said true x e = refl
yes_said false x e = let w : ◌≡◌ {A = ℕ} 0 1 = cc in absurd (zero_one w)

-- ---- the corners of a join
module _ (n : ℕ) (t : Turn) (law : Lawful n t) (c d : ℤ) (hc : t.held c ≡ true) where
  meets_yes : may_join n t c d ≡ true → SameLoop t c d ⊎ (¬ SamePiece t c d)
  meets_yes h = go (or_cases _ _ h)
    where
      go : (same_loop n t c d ≡ true) ⊎ (not (same_piece n t c d) ≡ true) → SameLoop t c d ⊎ (¬ SamePiece t c d)
      go (inl y) = inl ((loop_walk n t law c d hc).0 (true_T _ y))
      go (inr y) = inr (λ w. both_ways _ (not-true _ y) (T_true _ ((piece_walk n t law c d hc).1 w)))

  meets_no : may_join n t c d ≡ false → SamePiece t c d × (¬ SameLoop t c d)
  meets_no h =
      let r = or_parts (same_loop n t c d) (not (same_piece n t c d)) h in
      ((piece_walk n t law c d hc).0 (true_T _ (not-false _ r.1)), λ w. both_ways _ r.0 (T_true _ ((loop_walk n t law c d hc).1 w)))

  -- the answer of the last two questions of a join
  judged_by : (b f : Bool) → may_join n t c d ≡ b
      → (◌≡◌ {A = Outcome} (cond b (cond f granted (Err NoRoom)) (Err LoopsOfOnePiece)) (Err LoopsOfOnePiece)) ↔ (SamePiece t c d × (¬ SameLoop t c d))
  judged_by false f h = ((λ _. meets_no h), λ _. refl)
  judged_by true f h = ((λ q. absurd (other f q)), λ w. absurd (go w (meets_yes h)))
    where
      other : (f : Bool) → ◌≡◌ {A = Outcome} (cond f granted (Err NoRoom)) (Err LoopsOfOnePiece) → ⊥
      other true q = let w : ◌≡◌ {A = ℕ} 0 1 = cc in zero_one w
      other false q = let w : ◌≡◌ {A = ℕ} 0 1 = cc in zero_one w

      go : SamePiece t c d × (¬ SameLoop t c d) → SameLoop t c d ⊎ (¬ SamePiece t c d) → ⊥
      go w (inl y) = w.1 y
      go w (inr y) = y w.0

module _ (n : ℕ) (m : Meaning) (sound : Sound n m.lines) where
  -- where a held name starts
  begun : (c : ℤ) → m.lines.turn.held c ≡ true → (p : Point) × Started m.lines c (Some p)
  begun c h = go (m.lines.points c) (started_is n m.lines sound.1 c (m.lines.points c) refl)
    where
      go : (o : Option Point) → Started m.lines c o → (p : Point) × Started m.lines c (Some p)
      go None s = absurd (both_ways _ s h)
      go (Some p) s = (p, s)

  -- an edit that is done
  done_flat : (q : Edit) → outcome (questions n m q) ≡ granted → Flat n m.lines.turn → Flat n (made q m.lines).turn
  done_flat (starts e p q) ok f =
      let y = all_yes (questions n m (starts e p q)) ok in
      let k = and_parts (free_point n m.lines p) (free_point n m.lines q) y.1.1.0 in
      let may = yes_said _ _ (sym (start_asked n m e y.0 (not-true _ y.1.0) p q k.0 k.1 (not-true _ y.1.1.1.0)) ∙ ok) in
      ((hung_flat n m.lines sound m.fits e (new_end p) (new_end q) may).1 f).1 tt
  done_flat (sprouts e c p) ok f =
      let y = all_yes (questions n m (sprouts e c p)) ok in
      let b = begun c y.1.1.0 in
      let may = yes_said _ _ (sym (sprout_asked n m e y.0 (not-true _ y.1.0) sound.0 c b.0 p b.1 y.1.1.1.0) ∙ ok) in
      subst (λ w. Flat n (hung e w (new_end p) m.lines).turn) (corner_is m.lines c b.0 b.1)
      (((hung_flat n m.lines sound m.fits e (after_corner b.0 c) (new_end p) may).1 f).1 tt)
  done_flat (joins e c d marks line) ok f =
      let z = all_yes (questions n m (joins e c d marks line)) ok in
      let y = z.1 in
      let k = and_parts (m.lines.turn.held c) (m.lines.turn.held d) y.1.1.0 in
      let a = begun c k.0 in
      let b = begun d k.1 in
      let apart : same_point a.0 b.0 ≡ false = sym (ap₂ same_point (start_is m.lines c a.0 a.1) (start_is m.lines d b.0 b.1)) ∙ not-true _ y.1.1.1.0 in
      let may = yes_said _ _ (sym (join_asked n m e y.0 (not-true _ y.1.0) c d a.0 b.0 a.1 b.1 apart y.1.1.1.1.0) ∙ sym (cond-true (enough n marks line) _ _ z.0) ∙ ok) in
      subst₂ (λ (u w : End). Flat n (hung e u w m.lines).turn) (corner_is m.lines c a.0 a.1) (corner_is m.lines d b.0 b.1)
      (((hung_flat n m.lines sound m.fits e (after_corner a.0 c) (after_corner b.0 d) may).1 f).1 (meets_yes n m.lines.turn sound.0 c d k.0 y.1.1.1.1.0))
  done_flat (splits e k p) ok f =
      let y = all_yes (questions n m (splits e k p)) ok in
      let may = yes_said _ _ (sym (split_asked n m k y.0 (not-true _ y.1.0) e p y.1.1.0 y.1.1.1.0 y.1.1.1.1.0) ∙ ok) in
      (cleft_flat n m.lines sound m.fits e k p may).1 f
  done_flat (removes e) ok f = (lifted_flat n m.lines sound e (all_yes (questions n m (removes e)) ok).0).1 f

  pub keeps_flat : (m' : Meaning) (q : Edit) (r : Outcome) → Done n m q r m' → KeepsFlat n m m'
  keeps_flat m' q r d f = go r d.told d.changed
    where
      go : (r : Outcome) → r ≡ outcome (questions n m q) → Changed r (made q m.lines) m m' → Flat n m'.lines.turn
      go (Ok u) e h = subst (λ k. Flat n k.turn) (sym h.0) (done_flat q (sym e) f)
      go (Err x) e h = subst (λ k. Flat n k.lines.turn) (sym h) f

  pub judges : (m' : Meaning) (q : Edit) (r : Outcome) → Done n m q r m' → Judged n m q (r ≡ Err LoopsOfOnePiece)
  judges m' (starts e p q) r d = tt
  judges m' (sprouts e c p) r d = tt
  judges m' (joins e c d marks line) r done = λ h.
      let y = all_yes ((enough n marks line, ShortBuffers) ∷ join_before n m.lines e c d) h in
      let k = and_parts (m.lines.turn.held c) (m.lines.turn.held d) y.1.1.1.0 in
      let j = judged_by n m.lines.turn sound.0 c d k.0 (may_join n m.lines.turn c d) (m.fits (start_of m.lines c) (start_of m.lines d)) refl in
      subst (λ o. (o ≡ Err LoopsOfOnePiece) ↔ (SamePiece m.lines.turn c d × (¬ SameLoop m.lines.turn c d)))
      (sym (done.told ∙ past ((enough n marks line, ShortBuffers) ∷ join_before n m.lines e c d) (join_last n m c d) y)) j
  judges m' (splits e f p) r d = tt
  judges m' (removes e) r d = tt
