-- What the questions 1 to 16 tell of an accepted file place by place, and where the home slot of a name lies. Assumes nothing.
use Rattle.std.proofs.Common.{◌≡◌, ℕ, zero, suc, ◌+◌, ◌-◌, ◌<◌, ◌≤◌, Bool, true, false, not, ◌&&◌, leb, List, [], ◌∷◌, length, ℤ, Some, None, Option, sym, refl, ap, ◌∙◌, subst, ⊎_elim, arith}
use Rattle.std.proofs.lemmas.Bool.{cond-true, cond-false, cases_Bool, and_parts, and_from, or_parts, not-true, not-false, not_from_true, not_from_false, leb-true, eqb-true}
use Rattle.flat.specs.Whole.{equal}
use Rattle.flat.proofs.Basics.{T_true, true_T}
use Rattle.flat.proofs.Whole.{equal_is}
use Rattle.turning.specs.Limits.{slots as max_slots, max_strips}
use Rattle.laws.proofs.Equal.{some_same}
use Rattle.file.specs.declared.questions.SeamQuestion.{SeamQuestion}
use Rattle.file.specs.declared.questions.FileQuestion.TheVariants.{Count, SizesFit, Length, Borders}
use Rattle.file.specs.declared.questions.SeamQuestion.TheVariants.{RunsOn, StartsHere, Homes, WestFirst}
use Rattle.file.specs.Places.{any_below, first_bad, first_from, first_of, at, each, once, sum_below}
use Rattle.file.specs.Layout.{strips, strip, slots_in, vertices_in, strip_at}
use Rattle.file.specs.Strips.{Strip, home, home_names}
use Rattle.file.specs.Lines.{Slot, home_slot}
use Rattle.file.specs.Questions as ask
use Rattle.file.specs.Verdict.{q1, q2, q3, q4, q5, q13, q14, q15, q16, file_fault, seam_fault, of_file, of_strip, of_seam, over_strips, file_verdict, strips_verdict, seam_verdict, shape_verdict}
use Rattle.file.proofs.Places.{both_none, last_one, none_below, each_good, first_bad_is, first_bad_none, first_fault_is, any_none, good_below, bool_apart}
use Rattle.file.proofs.Sizes.{shaped}
use Rattle.file.proofs.Judged.{judged}
use Rattle.told.specs.Passed.{Passed}

-- ---- what is told of places
pub none_some : {A B : Type 0} (a : A) → ◌≡◌ {A = Option A} None (Some a) → B
none_some a e = let y : ◌≡◌ {A = ℕ} 0 1 = cc in absurd (omega arith)

pub equal_true : (a b : ℤ) → equal a b ≡ true → a ≡ b
equal_true a b e = (equal_is a b).0 (true_T (equal a b) e)

pub equal_same : (a b : ℤ) → a ≡ b → equal a b ≡ true
equal_same a b e = T_true (equal a b) ((equal_is a b).1 e)

at_some : {A B : Type 0} (f : A → B) (o : Option A) (y : B) → at f o ≡ Some y → (x : A) × (o ≡ Some x) × (f x ≡ y)
at_some f None y e = none_some y e
at_some f (Some x) y e = (x, refl, some_same (f x) y e)

at_none : {A B : Type 0} (f : A → B) (o : Option A) → at f o ≡ None → o ≡ None
at_none f None e = refl
at_none f (Some x) e = none_some (f x) (sym e)

-- the first bad place is one of the places, and bad
pub bad_at : (good : ℕ → Bool) (a n k : ℕ) → first_bad good a n ≡ Some k → (a ≤ k) × (k < a + n) × (good k ≡ false)
bad_at good a zero k e = none_some k e
bad_at good a (suc n) k e = ⊎_elim
    (λ t. up (bad_at good (suc a) n k (sym (cond-true (good a) (first_bad good (suc a) n) (Some a) t) ∙ e)))
    (λ f. here f (some_same a k (sym (cond-false (good a) (first_bad good (suc a) n) (Some a) f) ∙ e)))
    (cases_Bool (good a))
  where
    up : (suc a ≤ k) × (k < suc a + n) × (good k ≡ false) → (a ≤ k) × (k < a + suc n) × (good k ≡ false)
    up r = let l : suc a ≤ k = r.0 in let h : k < suc a + n = r.1 in (omega arith, omega arith, r.2)

    here : good a ≡ false → a ≡ k → (a ≤ k) × (k < a + suc n) × (good k ≡ false)
    here f q = (omega arith, omega arith, subst (λ m. good m ≡ false) q f)

-- what is told first is told at one of the places
told_at : {F : Type 0} (f : ℕ → Option F) (a n : ℕ) (x : F) → first_from f a n ≡ Some x → (k : ℕ) × (k < a + n) × (f k ≡ Some x)
told_at f a zero x e = none_some x e
told_at f a (suc n) x e = go (f a) refl (told_at f (suc a) n x) e
  where
    up : (k : ℕ) × (k < suc a + n) × (f k ≡ Some x) → (k : ℕ) × (k < a + suc n) × (f k ≡ Some x)
    up r = let l : r.0 < suc a + n = r.1 in (r.0, omega arith, r.2)

    go : (o : Option _) → f a ≡ o → (first_from f (suc a) n ≡ Some x → (k : ℕ) × (k < suc a + n) × (f k ≡ Some x))
        → first_of (o ∷ (first_from f (suc a) n ∷ [])) ≡ Some x → (k : ℕ) × (k < a + suc n) × (f k ≡ Some x)
    go None q rec p = up (rec (sym (last_one (first_from f (suc a) n)) ∙ p))
    go (Some y) q rec p = (a, omega arith, q ∙ p)

-- ---- the home slot of a name
module _ (n : ℕ) (strip : ℕ → Strip) (z : ℤ) where
  -- the test that home-slot puts to a slot, turned
  other : ℕ → ℕ → Bool
  other j i = not (home (strip j) i && equal ((strip j).name i) z)

  -- where it finds strip j's
  found : ℕ → Option Slot
  found j = at (λ i. record { strip = j; slot = i }) (each (strip j).slots (other j))

  abbrev HomeAt : Slot → Type 0
  HomeAt a = (a.strip < n) × (a.slot < (strip a.strip).slots) × (home (strip a.strip) a.slot ≡ true) × ((strip a.strip).name a.slot ≡ z)

  pub at_home : (a : Slot) → home_slot n strip z ≡ Some a
      → (a.strip < n) × (a.slot < (strip a.strip).slots) × (home (strip a.strip) a.slot ≡ true) × ((strip a.strip).name a.slot ≡ z)
  unfolding home_slot found other
  at_home a e =
      let r = told_at found 0 n a e in
      let j = r.0 in
      let s = at_some (λ i. record { strip = j; slot = i }) (each (strip j).slots (other j)) a r.2 in
      let i = s.0 in
      let w = bad_at (other j) 0 (strip j).slots i s.1 in
      let p = and_parts (home (strip j) i) (equal ((strip j).name i) z) (not-false (home (strip j) i && equal ((strip j).name i) z) w.2) in
      let l : j < 0 + n = r.1 in
      let h : i < 0 + (strip j).slots = w.1 in
      subst HomeAt s.2 (omega arith, omega arith, p.0, equal_true ((strip j).name i) z p.1)

  pub no_home : home_slot n strip z ≡ None → (j i : ℕ) → j < n → i < (strip j).slots → home (strip j) i ≡ true → (strip j).name i ≡ z → ⊥
  unfolding home_slot found other
  no_home e j i l h t q =
      let o = at_none (λ k. record { strip = j; slot = k }) (each (strip j).slots (other j)) (none_below found 0 n e j (omega arith) (omega arith)) in
      let g : not (home (strip j) i && equal ((strip j).name i) z) ≡ true = good_below (other j) 0 (strip j).slots o i (omega arith) (omega arith) in
      bool_apart (home (strip j) i && equal ((strip j).name i) z) (and_from (home (strip j) i) (equal ((strip j).name i) z) t (equal_same ((strip j).name i) z q)) (not-true _ g)

  -- a home slot of the name, with none before it, is the one
  first_home : (j i : ℕ) → j < n → i < (strip j).slots → home (strip j) i ≡ true → (strip j).name i ≡ z → ask.home_before strip j i z ≡ false → home_slot n strip z ≡ Some (record { strip = j; slot = i })
  unfolding home_slot found other
  first_home j i l h t q e =
      let p = or_parts (any_below (λ k. home_names (strip k) (strip k).slots z) j) (home_names (strip j) i z) e in
      let here : (home (strip j) i && equal ((strip j).name i) z) ≡ true = and_from (home (strip j) i) (equal ((strip j).name i) z) t (equal_same ((strip j).name i) z q) in
      first_fault_is found n j (record { strip = j; slot = i }) l
      (λ k m. ap (at (λ x. record { strip = k; slot = x }))
      (first_bad_none (other k) (strip k).slots (passed_over k (strip k).slots (any_none (λ x. home_names (strip x) (strip x).slots z) j p.0 k m))))
      (ap (at (λ x. record { strip = j; slot = x })) (first_bad_is (other j) (strip j).slots i h (passed_over j i p.1) (not_from_true _ here)))
    where
      passed_over : (k m : ℕ) → home_names (strip k) m z ≡ false → (x : ℕ) → x < m → not (home (strip k) x && equal ((strip k).name x) z) ≡ true
      passed_over k m f x g = not_from_false _ (any_none (λ y. home (strip k) y && equal ((strip k).name y) z) m f x g)

-- a home slot is the home slot of its name
pub home_is : (b : List ℕ) → Passed b → (j i : ℕ) → j < strips b → i < (strip b j).slots → home (strip b j) i ≡ true
    → home_slot (strips b) (strip b) ((strip b j).name i) ≡ Some (record { strip = j; slot = i })
home_is b p j i l h t = first_home (strips b) (strip b) ((strip b j).name i) j i l h t refl (second (home (strip b j) i) (ask.home_before (strip b) j i ((strip b j).name i)) t (p.home_new j l i h))
  where
    second : (x y : Bool) → x ≡ true → not (x && y) ≡ true → y ≡ false
    second true y e g = not-true y g
    second false y e g = let z : ◌≡◌ {A = ℕ} 0 1 = cc in absurd (omega arith)

-- ---- the questions one by one
once_true : {F : Type 0} (f : ℕ → F) (t : Bool) → at f (once t) ≡ None → t ≡ true
once_true f true e = refl
once_true f false e = none_some (f 0) (sym e)

module _ (b : List ℕ) where
  abbrev FileNone : Type 0
  FileNone = (q1 b ≡ None) × (q2 b ≡ None) × (q3 b ≡ None) × (q4 b ≡ None) × (q5 b ≡ None)

  five_none : file_verdict b ≡ None → FileNone
  unfolding file_verdict
  five_none v =
      let p = both_none (q1 b) (q2 b ∷ q3 b ∷ q4 b ∷ q5 b ∷ []) v in
      let q = both_none (q2 b) (q3 b ∷ q4 b ∷ q5 b ∷ []) p.1 in
      let r = both_none (q3 b) (q4 b ∷ q5 b ∷ []) q.1 in
      let s = both_none (q4 b) (q5 b ∷ []) r.1 in
      (p.0, q.0, r.0, s.0, sym (last_one (q5 b)) ∙ s.1)

  abbrev SeamsNone : Type 0
  SeamsNone = (q13 b ≡ None) × (q14 b ≡ None) × (q15 b ≡ None) × (q16 b ≡ None)

  four_none : seam_verdict b ≡ None → SeamsNone
  unfolding seam_verdict
  four_none v =
      let p = both_none (q13 b) (q14 b ∷ q15 b ∷ q16 b ∷ []) v in
      let q = both_none (q14 b) (q15 b ∷ q16 b ∷ []) p.1 in
      let r = both_none (q15 b) (q16 b ∷ []) q.1 in
      (p.0, q.0, r.0, sym (last_one (q16 b)) ∙ r.1)

  three_none : shape_verdict b ≡ None → (file_verdict b ≡ None) × (strips_verdict b ≡ None) × (seam_verdict b ≡ None)
  unfolding shape_verdict
  three_none v =
      let p = both_none (at of_file (file_verdict b)) (at of_strip (strips_verdict b) ∷ at of_seam (seam_verdict b) ∷ []) v in
      let q = both_none (at of_strip (strips_verdict b)) (at of_seam (seam_verdict b) ∷ []) p.1 in
      (at_none of_file (file_verdict b) p.0, at_none of_strip (strips_verdict b) q.0, at_none of_seam (seam_verdict b) (sym (last_one (at of_seam (seam_verdict b))) ∙ q.1))

  -- a question of the seams, at each slot
  over : (q : SeamQuestion) (good : ℕ → ℕ → Bool) → over_strips q b good ≡ None → (j : ℕ) → j < strips b → (i : ℕ) → i < (strip b j).slots → good j i ≡ true
  over q good e j l = each_good (seam_fault q (j + 1)) (strip b j).slots (good j)
      (none_below (λ k. at (seam_fault q (k + 1)) (each (strip b k).slots (good k))) 0 (strips b) e j (omega arith) (omega arith))

  -- the slots of all strips: question 3 at the last
  in_all : 1 ≤ strips b → ((j : ℕ) → j < strips b → ask.size_good b j ≡ true) → sum_below (slots_in b) (strips b) ≤ max_slots
  in_all some sizes =
      let last : suc (strips b - 1) ≡ strips b = omega arith in
      let two = and_parts (leb (vertices_in b (strips b - 1)) (slots_in b (strips b - 1))) (leb (sum_below (slots_in b) (suc (strips b - 1))) max_slots) (sizes (strips b - 1) (omega arith)) in
      subst (λ k. sum_below (slots_in b) k ≤ max_slots) last (leb-true (sum_below (slots_in b) (suc (strips b - 1))) max_slots two.1)

  pub passed : shape_verdict b ≡ None → Passed b
  unfolding q13 q14 q15 q16
  passed v = record {
    shaped = shaped b (strips b) refl some (leb-true (strips b) max_strips counts.1) (eqb-true (length b) (strip_at b (strips b)) (once_true (λ _. file_fault Length 0 0) (ask.length_right b) file.3)) file.2;
    total = in_all some (each_good (λ j. file_fault SizesFit (j + 1) 0) (strips b) (ask.size_good b) file.2);
    rises = each_good (λ k. file_fault Borders 0 k) (strips b - 1) (ask.border_good b) file.4;
    judged = judged b (strips b) refl parts.1;
    runs_on = over RunsOn (ask.runs_on (strips b) (strip b)) seams.0;
    starts_here = over StartsHere (ask.starts_here (strips b) (strip b)) seams.1;
    home_new = over Homes (ask.home_new (strip b)) seams.2;
    west_first = over WestFirst (λ j. ask.west_first (strip b j)) seams.3;
  }
    where
      parts : (file_verdict b ≡ None) × (strips_verdict b ≡ None) × (seam_verdict b ≡ None)
      parts = three_none v

      file : FileNone
      file = five_none parts.0

      seams : SeamsNone
      seams = four_none parts.2

      counts : (leb 1 (strips b) ≡ true) × (leb (strips b) max_strips ≡ true)
      counts = and_parts (leb 1 (strips b)) (leb (strips b) max_strips)
          (and_parts (leb 2 (length b)) (leb 1 (strips b) && leb (strips b) max_strips) (once_true (λ _. file_fault Count 0 0) (ask.count_good b) file.0)).1

      some : 1 ≤ strips b
      some = leb-true 1 (strips b) counts.0
