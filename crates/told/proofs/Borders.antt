-- The borders that a file tells, as a list, and the strips between them. Assumes nothing.
use Rattle.std.proofs.Common.{◌≡◌, ℕ, zero, suc, ◌-◌, ◌<◌, ◌≤◌, Bool, true, cond, ◌&&◌, ◌||◌, eqb, ◌⊎◌, List, [], ◌∷◌, length, get_or, ℤ, pos, ◌≤ℤ◌, ◌<ℤ◌, Some, None, sym, refl, ap, ◌∙◌, subst, inl, inr, ⊎_elim, arith}
use lib.Signed.{lt_z, le_z}
use Rattle.std.proofs.lemmas.List.{length-append, get_or_append_left, get_or_push}
use Rattle.std.proofs.lemmas.Int.{ints}
use Rattle.std.proofs.lemmas.Bool.{and_parts, and_from, cases_lt, lt-ltb}
use Rattle.std.proofs.lemmas.Bool.Decides.{eqb_tells}
use Rattle.chart.specs.Points.{within}
use Rattle.strips.specs.Borders.{rise_after, rising, strip_count, strip_of}
use Rattle.strips.proofs.Cutting.{strip_is}
use Rattle.file.specs.Layout.{strips, border, western, eastern}
use Rattle.file.specs.Questions.{border_good, not_west_of, west_of}
use Rattle.told.specs.Tells.{list_below, borders_in}

-- ---- a list by its places
module _ {A : Type 0} (f : ℕ → A) where
  pub below_length : (n : ℕ) → length (list_below f n) ≡ n
  below_length zero = refl
  below_length (suc n) = length-append (list_below f n) (f n ∷ []) ∙ (let e = below_length n in omega arith)

  pub below_at : (n k : ℕ) (d : A) → k < n → get_or (list_below f n) k d ≡ f k
  below_at zero k d h = absurd (omega arith)
  below_at (suc n) k d h = ⊎_elim
      (λ l. get_or_append_left (list_below f n) (f n ∷ []) d k (let e = below_length n in omega arith) ∙ below_at n k d l)
      (λ l. let e : k ≡ n = omega arith in get_or_push (list_below f n) (f n) d k (below_length n ∙ sym e) ∙ ap f (sym e))
      (cases_lt k n)

pub borders_length : (b : List ℕ) → length (borders_in b) ≡ strips b - 1
unfolding borders_in
borders_length b = below_length (border b) (strips b - 1)

pub borders_at : (b : List ℕ) (k : ℕ) → k < strips b - 1 → get_or (borders_in b) k (pos 0) ≡ border b k
unfolding borders_in
borders_at b k h = below_at (border b) (strips b - 1) k (pos 0) h

pub borders_count : (b : List ℕ) → 1 ≤ strips b → strip_count (borders_in b) ≡ strips b
borders_count b h = let e = borders_length b in omega arith

-- ---- borders that rise, by places
abbrev Within : List ℤ → Type 0
Within bs = (k : ℕ) → k < length bs → within (get_or bs k (pos 0)) ≡ true

abbrev Rise : List ℤ → Type 0
Rise bs = (k : ℕ) → suc k < length bs → lt_z (get_or bs k (pos 0)) (get_or bs (suc k) (pos 0)) ≡ true

rise_by : (last : ℤ) (bs : List ℤ) → Within bs → Rise (last ∷ bs) → rise_after last bs ≡ true
rise_by last [] w r = refl
rise_by last (c ∷ bs) w r =
    and_from (within c && lt_z last c) (rise_after c bs) (and_from (within c) (lt_z last c) (w 0 (omega arith)) (r 0 (omega arith)))
    (rise_by c bs (λ k h. w (suc k) (omega arith)) (λ k h. r (suc k) (omega arith)))

pub rising_by : (bs : List ℤ) → Within bs → Rise bs → rising bs ≡ true
rising_by [] w r = refl
rising_by (c ∷ bs) w r = and_from (within c) (rise_after c bs) (w 0 (omega arith)) (rise_by c bs (λ k h. w (suc k) (omega arith)) r)

module _ (b : List ℕ) (some : 1 ≤ strips b) (good : (k : ℕ) → k < strips b - 1 → border_good b k ≡ true) where
  good_within : (k : ℕ) → k < strips b - 1 → within (border b k) ≡ true
  good_within k h = (and_parts (within (border b k)) (eqb k 0 || lt_z (border b (k - 1)) (border b k)) (good k h)).0

  good_above : (k : ℕ) → suc k < strips b - 1 → lt_z (border b k) (border b (suc k)) ≡ true
  good_above k h =
      let place : suc k - 1 ≡ k = omega arith in
      let g = and_parts (within (border b (suc k))) (eqb (suc k) 0 || lt_z (border b (suc k - 1)) (border b (suc k))) (good (suc k) h) in
      later (lt_z (border b k) (border b (suc k))) (subst (λ i. (eqb (suc k) 0 || lt_z (border b i) (border b (suc k))) ≡ true) place g.1)
    where
      later : (x : Bool) → (eqb (suc k) 0 || x) ≡ true → x ≡ true
      later x e = grind (arith, eqb_tells (suc k) 0)

  pub borders_rise : rising (borders_in b) ≡ true
  borders_rise = let n = borders_length b in rising_by (borders_in b)
      (λ k h. subst (λ z. within z ≡ true) (sym (borders_at b k (omega arith))) (good_within k (omega arith)))
      (λ k h. subst (λ z. lt_z z (get_or (borders_in b) (suc k) (pos 0)) ≡ true) (sym (borders_at b k (omega arith)))
      (subst (λ z. lt_z (border b k) z ≡ true) (sym (borders_at b (suc k) (omega arith))) (good_above k (omega arith))))

  -- what lies between the borders of strip j lies in strip j
  pub between_borders : (j : ℕ) → j < strips b → (x : ℤ) → not_west_of (western b j) x ≡ true → west_of (eastern b j) x ≡ true → strip_of (borders_in b) x ≡ suc j
  between_borders j h x w e = let c = borders_count b some in (strip_is (borders_in b) borders_rise x (suc j) (omega arith) (omega arith)).1 (west j h w, east (cases_lt (suc j) (strips b)))
    where
      not_under : (a : ℤ) → le_z a x ≡ true → a ≤ℤ x
      not_under a l = grind (arith, ints)

      under : (a : ℤ) → lt_z x a ≡ true → x <ℤ a
      under a l = grind (arith, ints)

      west : (j : ℕ) → j < strips b → not_west_of (western b j) x ≡ true → (suc j ≡ 1) ⊎ (get_or (borders_in b) (suc j - 2) (pos 0) ≤ℤ x)
      west zero h w = inl refl
      west (suc k) h w =
          let place : k ≡ suc (suc k) - 2 = omega arith in
          inr (subst (λ i. get_or (borders_in b) i (pos 0) ≤ℤ x) place (subst (λ z. z ≤ℤ x) (sym (borders_at b k (omega arith))) (not_under (border b k) w)))

      east : (suc j < strips b) ⊎ (strips b ≤ suc j) → (suc j ≡ strip_count (borders_in b)) ⊎ (x <ℤ get_or (borders_in b) (suc j - 1) (pos 0))
      east (inl l) =
          let place : j ≡ suc j - 1 = omega arith in
          let u = under (border b j) (subst (λ t. west_of (cond t (Some (border b j)) None) x ≡ true) (lt-ltb (suc j) (strips b) l) e) in
          inr (subst (λ i. x <ℤ get_or (borders_in b) i (pos 0)) place (subst (λ z. x <ℤ z) (sym (borders_at b j (omega arith))) u))
      east (inr l) = let c = borders_count b some in inl (omega arith)
