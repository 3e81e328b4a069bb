-- The questions of a whole file, asked of bytes that tell sound line work: all are answered yes. Assumes nothing.
use Rattle.std.proofs.Common.{◌≡◌, ℕ, zero, suc, ◌-◌, ◌<◌, ◌≤◌, true, false, cond, ◌&&◌, ◌||◌, eqb, ltb, ◌⊎◌, List, [], ◌∷◌, ◌++◌, length, get_or, ℤ, pos, ◌≤ℤ◌, ◌<ℤ◌, Some, None, sym, refl, ap, ◌∙◌, subst, inl, inr, arith}
use lib.Signed.{lt_z, le_z}
use Rattle.std.proofs.lemmas.List.{ext_get_or, length_push, get_or_push, get_or_append_left}
use Rattle.std.proofs.lemmas.Int.{ints}
use Rattle.std.proofs.lemmas.Bool.{cases_Bool, cases_lt, and_parts, and_from, or_right, ltb-true}
use Rattle.chart.specs.Points.{within}
use Rattle.strips.specs.Borders.{rise_after, rising, strip_count, strip_of}
use Rattle.strips.proofs.Cutting.{rise_parts, strip_is}
use Rattle.file.specs.Questions.{west_of}
use Rattle.told.specs.Tells.{list_below}

-- ---- lists by place
module _ {A : Type 0} (f : ℕ → A) where
  length_below : (n : ℕ) → length (list_below f n) ≡ n
  length_below zero = refl
  length_below (suc n) = let r = length_below n in let e = length_push (list_below f n) (f n) in omega arith

  get_or_below : (n k : ℕ) (d : A) → k < n → get_or (list_below f n) k d ≡ f k
  get_or_below zero k d h = absurd (omega arith)
  get_or_below (suc n) k d h = go (cases_lt k n) (get_or_below n k d)
    where
      go : (k < n) ⊎ (n ≤ k) → (k < n → get_or (list_below f n) k d ≡ f k) → get_or (list_below f n ++ (f n ∷ [])) k d ≡ f k
      go (inl l) rec = let r = length_below n in get_or_append_left (list_below f n) (f n ∷ []) d k (omega arith) ∙ rec l
      go (inr g) rec = let r = length_below n in let e : k ≡ n = omega arith in get_or_push (list_below f n) (f n) d k (r ∙ sym e) ∙ ap f (sym e)

  pub below_is : (xs : List A) (d : A) → ((k : ℕ) → k < length xs → f k ≡ get_or xs k d) → (n : ℕ) → n ≡ length xs → list_below f n ≡ xs
  below_is xs d same n e = let r = length_below n in
      ext_get_or d (list_below f n) xs (r ∙ e) (λ k h. get_or_below n k d (omega arith) ∙ same k (omega arith))

-- ---- borders that rise, by place
after_at : (last : ℤ) (bs : List ℤ) → rise_after last bs ≡ true → (k : ℕ) → k < length bs
    → (within (get_or bs k (pos 0)) ≡ true) × (lt_z (get_or (last ∷ bs) k (pos 0)) (get_or bs k (pos 0)) ≡ true)
after_at last [] r k h = absurd (omega arith)
after_at last (b ∷ bs) r zero h = let p = rise_parts last b bs r in (p.0, p.1)
after_at last (b ∷ bs) r (suc k) h = let p = rise_parts last b bs r in after_at b bs p.2 k (omega arith)

pub rises_at : (bs : List ℤ) → rising bs ≡ true → (k : ℕ) → k < length bs
    → (within (get_or bs k (pos 0)) && (eqb k 0 || lt_z (get_or bs (k - 1) (pos 0)) (get_or bs k (pos 0)))) ≡ true
rises_at [] r k h = absurd (omega arith)
rises_at (b ∷ bs) r zero h = and_from (within b) true (and_parts (within b) (rise_after b bs) r).0 refl
rises_at (b ∷ bs) r (suc k) h =
    let p = after_at b bs (and_parts (within b) (rise_after b bs) r).1 k (omega arith) in
    let place : k ≡ suc k - 1 = omega arith in
    and_from (within (get_or bs k (pos 0))) (eqb (suc k) 0 || lt_z (get_or (b ∷ bs) (suc k - 1) (pos 0)) (get_or bs k (pos 0))) p.0
    (or_right (eqb (suc k) 0) (lt_z (get_or (b ∷ bs) (suc k - 1) (pos 0)) (get_or bs k (pos 0))) (subst (λ m. lt_z (get_or (b ∷ bs) m (pos 0)) (get_or bs k (pos 0)) ≡ true) place p.1))

-- ---- an x of strip j lies between its borders, which f tells
module _ (bs : List ℤ) (rises : rising bs ≡ true) (f : ℕ → ℤ) (told : (k : ℕ) → k < length bs → f k ≡ get_or bs k (pos 0)) (x : ℤ) where
  int_le_is : (a c : ℤ) → a ≡ c → c ≤ℤ x → le_z a x ≡ true
  int_le_is a c e h = subst (λ y. le_z y x ≡ true) (sym e) (grind (arith, ints))

  int_lt_is : (a c : ℤ) → a ≡ c → x <ℤ c → lt_z x a ≡ true
  int_lt_is a c e h = subst (λ y. lt_z x y ≡ true) (sym e) (grind (arith, ints))

  pub past_western : (j : ℕ) → suc (suc j) ≤ strip_count bs → strip_of bs x ≡ suc (suc j) → le_z (f j) x ≡ true
  past_western j h e = go ((strip_is bs rises x (suc (suc j)) (omega arith) h).0 e).0
    where
      go : (suc (suc j) ≡ 1) ⊎ (get_or bs (suc (suc j) - 2) (pos 0) ≤ℤ x) → le_z (f j) x ≡ true
      go (inl q) = absurd (omega arith)
      go (inr q) = let place : j ≡ suc (suc j) - 2 = omega arith in int_le_is (f j) (get_or bs (suc (suc j) - 2) (pos 0)) (told j (omega arith) ∙ ap (λ k. get_or bs k (pos 0)) place) q

  pub before_eastern : (c : ℕ) → c ≡ strip_count bs → (j : ℕ) → j < c → strip_of bs x ≡ suc j → west_of (cond (ltb (suc j) c) (Some (f j)) None) x ≡ true
  before_eastern c count j h e = go (cases_Bool (ltb (suc j) c)) ((strip_is bs rises x (suc j) (omega arith) (omega arith)).0 e).1
    where
      go : (ltb (suc j) c ≡ true) ⊎ (ltb (suc j) c ≡ false) → (suc j ≡ strip_count bs) ⊎ (x <ℤ get_or bs (suc j - 1) (pos 0)) → west_of (cond (ltb (suc j) c) (Some (f j)) None) x ≡ true
      go (inl t) (inl q) = let u = ltb-true (suc j) c t in absurd (omega arith)
      go (inl t) (inr q) =
          let u = ltb-true (suc j) c t in
          let place : j ≡ suc j - 1 = omega arith in
          ap (λ y. west_of (cond y (Some (f j)) None) x) t ∙ int_lt_is (f j) (get_or bs (suc j - 1) (pos 0)) (told j (omega arith) ∙ ap (λ k. get_or bs k (pos 0)) place) q
      go (inr t) q = ap (λ y. west_of (cond y (Some (f j)) None) x) t
