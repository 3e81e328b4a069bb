-- Membership, and the pigeonhole: a list without repetition is no longer than a list that has all its names.
-- Assumes nothing.
use Rattle.std.proofs.Common.{◌≡◌, suc, ◌≤◌, Bool, true, false, ◌||◌, T, ◌⊎◌, ◌↔◌, List, [], ◌∷◌, ◌++◌, length, sym, refl, ap, ◌∙◌, subst, ap₂, inl, inr, arith}
use Rattle.flat.specs.Orbits.{◌∈◌, Distinct, any, contains}

pub or_left : (a b : Bool) → T a → T (a || b)
or_left true b t = tt
or_left false b t = absurd t

pub or_right : (a b : Bool) → T b → T (a || b)
or_right true b t = tt
or_right false b t = t

pub or_cases : (a b : Bool) → T (a || b) → T a ⊎ T b
or_cases true b t = inl tt
or_cases false b t = inr t

pub shuffle : (a b c d : Bool) → ((a || b) || (c || d)) ≡ ((a || c) || (b || d))
shuffle true b c d = refl
shuffle false true true d = refl
shuffle false true false d = refl
shuffle false false c d = refl

pub decided : (b : Bool) → T b ⊎ (¬ T b)
decided true = inl tt
decided false = inr (λ t. t)

pub T_true : (b : Bool) → T b → b ≡ true
T_true true t = refl
T_true false t = absurd t

pub true_T : (b : Bool) → b ≡ true → T b
true_T b e = subst T (sym e) tt

pub not_T_false : (b : Bool) → ¬ T b → b ≡ false
not_T_false true n = absurd (n tt)
not_T_false false n = refl

pub T_same : (a b : Bool) → (T a → T b) → (T b → T a) → a ≡ b
T_same true b f g = sym (T_true b (f tt))
T_same false true f g = absurd (g tt)
T_same false false f g = refl

module _ {A : Type 0} where
  unfoldable pub without : (x : A) (ys : List A) → x ∈ ys → List A
  without x [] m = absurd m
  without x (y ∷ ys) (inl e) = ys
  without x (y ∷ ys) (inr m) = y ∷ without x ys m

  pub length_without : (x : A) (ys : List A) (m : x ∈ ys) → length ys ≡ suc (length (without x ys m))
  unfolding without
  length_without x [] m = absurd m
  length_without x (y ∷ ys) (inl e) = refl
  length_without x (y ∷ ys) (inr m) = ap suc (length_without x ys m)

  in_without : (x : A) (ys : List A) (m : x ∈ ys) (z : A) → z ∈ ys → ¬ (z ≡ x) → z ∈ without x ys m
  unfolding without
  in_without x [] m z k n = absurd m
  in_without x (y ∷ ys) (inl e) z (inl k) n = absurd (n (k ∙ sym e))
  in_without x (y ∷ ys) (inl e) z (inr k) n = k
  in_without x (y ∷ ys) (inr m) z (inl k) n = inl k
  in_without x (y ∷ ys) (inr m) z (inr k) n = inr (in_without x ys m z k n)

  pub pigeon : (xs ys : List A) → Distinct xs → ((z : A) → z ∈ xs → z ∈ ys) → length xs ≤ length ys
  pigeon [] ys d s = omega arith
  pigeon (x ∷ xs) ys d s =
      let m : x ∈ ys = s x (inl refl) in
      let h : length xs ≤ length (without x ys m) =
      pigeon xs (without x ys m) d.1 (λ z k. in_without x ys m z (s z (inr k)) (λ e. d.0 (subst (λ w. w ∈ xs) e k))) in
      omega (arith, length_without x ys m, h)

  -- a list without repetition, as long as one that has all its names, has all of that one's
  pub full : (xs ys : List A) → Distinct xs → ((z : A) → z ∈ xs → z ∈ ys) → length ys ≤ length xs → (y : A) → y ∈ ys → ¬ ¬ (y ∈ xs)
  full xs ys d s l y m n =
      let h : suc (length xs) ≤ length ys = pigeon (y ∷ xs) ys (n, d) go in
      omega arith
    where
      go : (z : A) → (z ≡ y) ⊎ (z ∈ xs) → z ∈ ys
      go z (inl e) = subst (λ w. w ∈ ys) (sym e) m
      go z (inr k) = s z k

  pub any_has : (p : A → Bool) (xs : List A) (x : A) → x ∈ xs → T (p x) → T (any p xs)
  any_has p [] x m t = absurd m
  any_has p (y ∷ ys) x (inl e) t = or_left (p y) (any p ys) (subst (λ w. T (p w)) e t)
  any_has p (y ∷ ys) x (inr m) t = or_right (p y) (any p ys) (any_has p ys x m t)

  pub any_gives : (p : A → Bool) (xs : List A) → T (any p xs) → (x : A) × (x ∈ xs) × T (p x)
  any_gives p [] t = absurd t
  any_gives p (y ∷ ys) t = go (λ h. any_gives p ys h) (or_cases (p y) (any p ys) t)
    where
      go : (T (any p ys) → (x : A) × (x ∈ ys) × T (p x)) → T (p y) ⊎ T (any p ys) → (x : A) × (x ∈ y ∷ ys) × T (p x)
      go r (inl h) = (y, inl refl, h)
      go r (inr h) = ((r h).0, inr (r h).1, (r h).2)

  pub any_same : (p q : A → Bool) (xs : List A) → ((x : A) → x ∈ xs → p x ≡ q x) → any p xs ≡ any q xs
  any_same p q [] h = refl
  any_same p q (x ∷ xs) h = ap₂ ◌||◌ (h x (inl refl)) (any_same p q xs (λ z k. h z (inr k)))

  pub any_or : (p q : A → Bool) (xs : List A) → any (λ x. p x || q x) xs ≡ (any p xs || any q xs)
  any_or p q [] = refl
  any_or p q (x ∷ xs) = ap (λ b. (p x || q x) || b) (any_or p q xs) ∙ shuffle (p x) (q x) (any p xs) (any q xs)

  -- in the joined list
  pub in_left : (x : A) (xs ys : List A) → x ∈ xs → x ∈ xs ++ ys
  in_left x [] ys m = absurd m
  in_left x (y ∷ xs) ys (inl e) = inl e
  in_left x (y ∷ xs) ys (inr m) = inr (in_left x xs ys m)

  pub in_right : (x : A) (xs ys : List A) → x ∈ ys → x ∈ xs ++ ys
  in_right x [] ys m = m
  in_right x (y ∷ xs) ys m = inr (in_right x xs ys m)

  pub in_either : (x : A) (xs ys : List A) → x ∈ xs ++ ys → (x ∈ xs) ⊎ (x ∈ ys)
  in_either x [] ys m = inr m
  in_either x (y ∷ xs) ys (inl e) = inl (inl e)
  in_either x (y ∷ xs) ys (inr m) = go (in_either x xs ys m)
    where
      go : (x ∈ xs) ⊎ (x ∈ ys) → (x ∈ y ∷ xs) ⊎ (x ∈ ys)
      go (inl h) = inl (inr h)
      go (inr h) = inr h

  pub apart_join : (xs ys : List A) → Distinct xs → Distinct ys → ((z : A) → z ∈ xs → z ∈ ys → ⊥) → Distinct (xs ++ ys)
  apart_join [] ys d e h = e
  apart_join (x ∷ xs) ys d e h = ((λ m. go (in_either x xs ys m)), apart_join xs ys d.1 e (λ z m n. h z (inr m) n))
    where
      go : (x ∈ xs) ⊎ (x ∈ ys) → ⊥
      go (inl m) = d.0 m
      go (inr m) = h x (inl refl) m

  module _ (same : A → A → Bool) (same_is : (x y : A) → T (same x y) ↔ (x ≡ y)) where
    pub has_in : (x : A) (xs : List A) → T (contains same x xs) → x ∈ xs
    has_in x xs t =
        let r : (y : A) × (y ∈ xs) × T (same x y) = any_gives (same x) xs t in
        subst (λ w. w ∈ xs) (sym ((same_is x r.0).0 r.2)) r.1

    pub in_has : (x : A) (xs : List A) → x ∈ xs → T (contains same x xs)
    in_has x xs m = any_has (same x) xs x m ((same_is x x).1 refl)

    pub has? : (x : A) (xs : List A) → (x ∈ xs) ⊎ (¬ (x ∈ xs))
    has? x xs = go (decided (contains same x xs))
      where
        go : T (contains same x xs) ⊎ (¬ T (contains same x xs)) → (x ∈ xs) ⊎ (¬ (x ∈ xs))
        go (inl t) = inl (has_in x xs t)
        go (inr n) = inr (λ m. n (in_has x xs m))

    pub same? : (x y : A) → (x ≡ y) ⊎ (¬ (x ≡ y))
    same? x y = go (decided (same x y))
      where
        go : T (same x y) ⊎ (¬ T (same x y)) → (x ≡ y) ⊎ (¬ (x ≡ y))
        go (inl t) = inl ((same_is x y).0 t)
        go (inr n) = inr (λ m. n ((same_is x y).1 m))

    -- what the test of two names tells, for `grind`
    abbrev pub Told : A → A → Type 0
    Told x y = ((same x y ≡ true) × (x ≡ y)) ⊎ ((same x y ≡ false) × (¬ (x ≡ y)))

    pub tell : (x y : A) → Told x y
    tell x y = go (decided (same x y))
      where
        go : T (same x y) ⊎ (¬ T (same x y)) → Told x y
        go (inl t) = inl (T_true (same x y) t, (same_is x y).0 t)
        go (inr n) = inr (not_T_false (same x y) n, λ e. n ((same_is x y).1 e))
