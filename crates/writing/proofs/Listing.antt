-- Places in lists: of a name, of what a test keeps, and of what a function lists. Assumes nothing.
use Rattle.std.proofs.Common.{◌≡◌, ℕ, zero, suc, ◌<◌, ◌≤◌, Bool, true, false, cond, ◌⊎◌, List, [], ◌∷◌, ◌++◌, length, get_or, ℤ, sym, refl, ap, ◌∙◌, subst, inl, inr, ⊎_elim, arith, length-append}
use Rattle.std.proofs.lemmas.List.{get_or_append_left, get_or_push}
use Rattle.std.proofs.lemmas.Bool.{cond-true, cond-false, cases_lt}
use Rattle.flat.specs.Orbits.{◌∈◌, Distinct, filter, indicator}
use Rattle.flat.specs.Whole.{equal}
use Rattle.laws.proofs.Equal.{tell, Tells}
use Rattle.file.specs.Places.{count_below}
use Rattle.told.specs.Tells.{list_below}
use Rattle.writing.specs.Written.{place_in}

module _ {A : Type 0} (d : A) where
  -- what stands at a place
  pub in_at : (xs : List A) (k : ℕ) → k < length xs → get_or xs k d ∈ xs
  in_at [] k l = absurd (omega arith)
  in_at (x ∷ xs) zero l = inl refl
  in_at (x ∷ xs) (suc k) l = inr (in_at xs k (omega arith))

  -- it stands there only
  pub apart_at : (xs : List A) → Distinct xs → (k m : ℕ) → k < length xs → m < length xs → get_or xs k d ≡ get_or xs m d → k ≡ m
  apart_at [] a k m g h e = absurd (omega arith)
  apart_at (x ∷ xs) a zero zero g h e = refl
  apart_at (x ∷ xs) a zero (suc m) g h e = absurd (a.0 (subst (λ z. z ∈ xs) (sym e) (in_at xs m (omega arith))))
  apart_at (x ∷ xs) a (suc k) zero g h e = absurd (a.0 (subst (λ z. z ∈ xs) e (in_at xs k (omega arith))))
  apart_at (x ∷ xs) a (suc k) (suc m) g h e = ap suc (apart_at xs a.1 k m (omega arith) (omega arith) e)

  pub below_length : (f : ℕ → A) (n : ℕ) → length (list_below f n) ≡ n
  below_length f zero = refl
  below_length f (suc n) = omega (arith, length-append (list_below f n) (f n ∷ []), below_length f n)

  pub below_at : (f : ℕ → A) (n k : ℕ) → k < n → get_or (list_below f n) k d ≡ f k
  below_at f zero k l = absurd (omega arith)
  below_at f (suc n) k l = ⊎_elim
      (λ g. get_or_append_left (list_below f n) (f n ∷ []) d k (omega (arith, below_length f n)) ∙ below_at f n k g)
      (λ g. let e : k ≡ n = omega arith in get_or_push (list_below f n) (f n) d k (below_length f n ∙ sym e) ∙ ap f (sym e))
      (cases_lt k n)

-- ---- the place of a name
pub place_is : (xs : List ℤ) (h d : ℤ) → h ∈ xs → (place_in xs h < length xs) × (get_or xs (place_in xs h) d ≡ h)
place_is [] h d m = absurd m
place_is (x ∷ xs) h d m = go (tell x h) m (place_is xs h d)
  where
    go : Tells x h → (h ≡ x) ⊎ (h ∈ xs) → (h ∈ xs → (place_in xs h < length xs) × (get_or xs (place_in xs h) d ≡ h))
        → (place_in (x ∷ xs) h < length (x ∷ xs)) × (get_or (x ∷ xs) (place_in (x ∷ xs) h) d ≡ h)
    go (inl e) m rec =
        let p : place_in (x ∷ xs) h ≡ 0 = cond-true (equal x h) 0 (suc (place_in xs h)) e.0 in
        (omega arith, ap (λ k. get_or (x ∷ xs) k d) p ∙ e.1)
    go (inr e) (inl q) rec = absurd (e.1 (sym q))
    go (inr e) (inr q) rec =
        let p : place_in (x ∷ xs) h ≡ suc (place_in xs h) = cond-false (equal x h) 0 (suc (place_in xs h)) e.0 in
        let r = rec q in
        let l : place_in xs h < length xs = r.0 in
        (omega arith, ap (λ k. get_or (x ∷ xs) k d) p ∙ r.1)

pub place_most : (xs : List ℤ) (h : ℤ) → place_in xs h ≤ length xs
place_most [] h = omega arith
place_most (x ∷ xs) h = go (equal x h) (place_most xs h)
  where
    go : (b : Bool) → place_in xs h ≤ length xs → cond b 0 (suc (place_in xs h)) ≤ length (x ∷ xs)
    go true rec = omega arith
    go false rec = omega arith

-- ---- what a test keeps
module _ {A : Type 0} (p : A → Bool) where
  pub filter_join : (xs ys : List A) → filter p (xs ++ ys) ≡ filter p xs ++ filter p ys
  filter_join [] ys = refl
  filter_join (x ∷ xs) ys = go (p x) (filter_join xs ys)
    where
      go : (b : Bool) → filter p (xs ++ ys) ≡ filter p xs ++ filter p ys → cond b (x ∷ filter p (xs ++ ys)) (filter p (xs ++ ys)) ≡ cond b (x ∷ filter p xs) (filter p xs) ++ filter p ys
      go true rec = ap (λ l. x ∷ l) rec
      go false rec = rec

  pub filter_few : (xs : List A) → length (filter p xs) ≤ length xs
  filter_few [] = omega arith
  filter_few (x ∷ xs) = go (p x) (filter_few xs)
    where
      go : (b : Bool) → length (filter p xs) ≤ length xs → length (cond b (x ∷ filter p xs) (filter p xs)) ≤ length (x ∷ xs)
      go true rec = omega arith
      go false rec = omega arith

-- a place that passes counts
pub count_rises : (passes : ℕ → Bool) (m k : ℕ) → k < m → passes k ≡ true → count_below passes k < count_below passes m
count_rises passes zero k g e = absurd (omega arith)
count_rises passes (suc m) k g e = ⊎_elim (λ u. omega (arith, count_rises passes m k u e))
    (λ u.
    let q : k ≡ m = omega arith in
    let t : indicator (passes m) ≡ 1 = ap indicator (subst (λ j. passes j ≡ true) q e) in
    let c = ap (count_below passes) q in
    omega arith)
    (cases_lt k m)

-- ---- lists that grow at the places below n that pass a test
module _ {A : Type 0} (grown : ℕ → List A) (passes : ℕ → Bool) (value : ℕ → A) (n : ℕ) (first : grown 0 ≡ [])
    (more : (k : ℕ) → k < n → grown (suc k) ≡ grown k ++ cond (passes k) (value k ∷ []) []) (d : A) where
  added_length : (b : Bool) (x : A) → length (cond b (x ∷ []) []) ≡ indicator b
  added_length true x = refl
  added_length false x = refl

  pub grown_length : (k : ℕ) → k ≤ n → length (grown k) ≡ count_below passes k
  grown_length zero l = ap length first
  grown_length (suc k) l =
      omega (arith, ap length (more k (omega arith)), length-append (grown k) (cond (passes k) (value k ∷ []) []), added_length (passes k) (value k), grown_length k (omega arith))

  pub grown_at : (m k : ℕ) → m ≤ n → k < m → passes k ≡ true → get_or (grown m) (count_below passes k) d ≡ value k
  grown_at zero k l h e = absurd (omega arith)
  grown_at (suc m) k l h e = ap (λ xs. get_or xs (count_below passes k) d) (more m (omega arith)) ∙ ⊎_elim
      (λ g.
      get_or_append_left (grown m) (cond (passes m) (value m ∷ []) []) d (count_below passes k) (omega (arith, count_rises passes m k g e, grown_length m (omega arith)))
      ∙ grown_at m k (omega arith) g e)
      (λ g.
      let q : k ≡ m = omega arith in
      let t : passes m ≡ true = subst (λ j. passes j ≡ true) q e in
      ap (λ xs. get_or (grown m ++ xs) (count_below passes k) d) (cond-true (passes m) (value m ∷ []) [] t)
      ∙ get_or_push (grown m) (value m) d (count_below passes k) (grown_length m (omega arith) ∙ ap (count_below passes) (sym q)) ∙ ap value (sym q))
      (cases_lt k m)
