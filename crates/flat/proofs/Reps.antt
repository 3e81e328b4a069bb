-- Representatives: any list of names, no two of one class and one of each class, is as long as the number of classes.
-- Assumes nothing.
use Rattle.std.proofs.Common.{◌≡◌, ◌+◌, ◌≤◌, Bool, true, false, cond, not, T, ◌↔◌, List, [], ◌∷◌, length, sym, refl, ◌∙◌, subst, inl, inr, le_antisymm, arith}
use Rattle.flat.specs.Orbits.{◌∈◌, any, indicator, classes, orbits, Reach, stay, linked, Unrelated}
use Rattle.flat.proofs.Basics.{without, length_without, any_gives, any_has}
use Rattle.flat.proofs.Walks.{follow, walk_back, linked_walk, walk_linked}
use Rattle.flat.proofs.Counts.{Fair}

module _ {A : Type 0} where
  still_without : (x : A) (ys : List A) (m : x ∈ ys) (R : A → Type 0) (nr : ¬ R x) (z : A) → z ∈ ys → R z → z ∈ without x ys m
  unfolding without
  still_without x [] m R nr z k q = absurd m
  still_without x (y ∷ ys) (inl e) R nr z (inl k) q = absurd (nr (subst R (k ∙ sym e) q))
  still_without x (y ∷ ys) (inl e) R nr z (inr k) q = k
  still_without x (y ∷ ys) (inr m) R nr z (inl k) q = inl k
  still_without x (y ∷ ys) (inr m) R nr z (inr k) q = inr (still_without x ys m R nr z k q)

  -- each of xs has one of ys, and no two of xs have the same
  pub relate : (R : A → A → Type 0) (xs ys : List A) → Unrelated R xs
      → ((x y z : A) → x ∈ xs → y ∈ xs → R x z → R y z → R x y)
      → ((x : A) → x ∈ xs → (y : A) × (y ∈ ys) × R x y) → length xs ≤ length ys
  relate R [] ys d h s = omega arith
  relate R (x ∷ xs) ys d h s =
      let o : (y : A) × (y ∈ ys) × R x y = s x (inl refl) in
      let l : length xs ≤ length (without o.0 ys o.1) = relate R xs (without o.0 ys o.1) d.1
      (λ u v w m n p q. h u v w (inr m) (inr n) p q)
      (λ u m. let q : (y : A) × (y ∈ ys) × R u y = s u (inr m) in
      (q.0, still_without o.0 ys o.1 (λ w. R u w) (λ k. d.0 u m (h x u o.0 (inl refl) (inr m) o.2 k)) q.0 q.1 q.2, q.2)) in
      omega (arith, length_without o.0 ys o.1, l)

  reps : (A → A → Bool) → List A → List A
  reps r [] = []
  reps r (x ∷ xs) = cond (any (r x) xs) (reps r xs) (x ∷ reps r xs)

  length_reps : (r : A → A → Bool) (xs : List A) → length (reps r xs) ≡ classes r xs
  unfolding reps classes
  length_reps r [] = refl
  length_reps r (x ∷ xs) = go (any (r x) xs) (length_reps r xs)
    where
      go : (b : Bool) → length (reps r xs) ≡ classes r xs → length (cond b (reps r xs) (x ∷ reps r xs)) ≡ indicator (not b) + classes r xs
      go true e = omega arith
      go false e = omega arith

  reps_in : (r : A → A → Bool) (xs : List A) (z : A) → z ∈ reps r xs → z ∈ xs
  unfolding reps
  reps_in r [] z m = m
  reps_in r (x ∷ xs) z m = go (any (r x) xs) (λ k. reps_in r xs z k) m
    where
      go : (b : Bool) → (z ∈ reps r xs → z ∈ xs) → z ∈ cond b (reps r xs) (x ∷ reps r xs) → z ∈ x ∷ xs
      go true h k = inr (h k)
      go false h (inl e) = inl e
      go false h (inr k) = inr (h k)

  -- r tells, on held, whether two are related by R
  abbrev pub Tells : (A → A → Bool) → (A → A → Type 0) → List A → Type 0
  Tells r R held = (x y : A) → x ∈ held → y ∈ held → T (r x y) ↔ R x y

  module _ (r : A → A → Bool) (R : A → A → Type 0) (held : List A) (tells : Tells r R held)
      (trans : (x y z : A) → R x y → R y z → R x z) (self : (x : A) → x ∈ held → R x x) where
    reps_unrelated : (xs : List A) → ((z : A) → z ∈ xs → z ∈ held) → Unrelated R (reps r xs)
    unfolding reps
    reps_unrelated [] s = tt
    reps_unrelated (x ∷ xs) s = go (any (r x) xs) refl (reps_unrelated xs (λ z m. s z (inr m)))
      where
        go : (b : Bool) → any (r x) xs ≡ b → Unrelated R (reps r xs) → Unrelated R (cond b (reps r xs) (x ∷ reps r xs))
        go true e h = h
        go false e h = ((λ y m k. subst T e (any_has (r x) xs y (reps_in r xs y m) ((tells x y (s x (inl refl)) (s y (inr (reps_in r xs y m)))).1 k))), h)

    reps_cover : (xs : List A) → ((z : A) → z ∈ xs → z ∈ held) → (x : A) → x ∈ xs → (y : A) × (y ∈ reps r xs) × R x y
    unfolding reps
    reps_cover [] s x m = absurd m
    reps_cover (w ∷ xs) s x m = go (any (r w) xs) refl (λ u k. reps_cover xs (λ z n. s z (inr n)) u k) m
      where
        go : (b : Bool) → any (r w) xs ≡ b → ((u : A) → u ∈ xs → (y : A) × (y ∈ reps r xs) × R u y) → x ∈ w ∷ xs
            → (y : A) × (y ∈ cond b (reps r xs) (w ∷ reps r xs)) × R x y
        go true e h (inr k) = h x k
        go true e h (inl k) =
            let o : (y : A) × (y ∈ xs) × T (r w y) = any_gives (r w) xs (subst T (sym e) tt) in
            let q : (y : A) × (y ∈ reps r xs) × R o.0 y = h o.0 o.1 in
            let wm : w ∈ held = s w (inl refl) in
            let om : o.0 ∈ held = s o.0 (inr o.1) in
            (q.0, q.1, subst (λ v. R v q.0) (sym k) (trans w o.0 q.0 ((tells w o.0 wm om).0 o.2) q.2))
        go false e h (inl k) = (w, inl refl, subst (λ v. R v w) (sym k) (self w (s w (inl refl))))
        go false e h (inr k) = let q : (y : A) × (y ∈ reps r xs) × R x y = h x k in (q.0, inr q.1, q.2)

    module _ (turn : (x y : A) → x ∈ held → R x y → R y x) where
      -- any representatives are as many as the classes
      pub counted : (ys : List A) → ((z : A) → z ∈ ys → z ∈ held) → Unrelated R ys → ((x : A) → x ∈ held → (y : A) × (y ∈ ys) × R x y)
          → length ys ≡ classes r held
      counted ys s d h = le_antisymm
          (subst (λ n. length ys ≤ n) (length_reps r held)
          (relate R ys (reps r held) d
          (λ x y z m n p q. trans x z y p (turn y z (s y n) q))
          (λ x m. reps_cover held (λ z k. k) x (s x m))))
          (subst (λ n. n ≤ length ys) (length_reps r held)
          (relate R (reps r held) ys (reps_unrelated held (λ z m. m))
          (λ x y z m n p q. trans x z y p (turn y z (reps_in r held y n) q))
          (λ x m. h x (reps_in r held x m))))

module _ {A : Type 0} (same : A → A → Bool) (same_is : (x y : A) → T (same x y) ↔ (x ≡ y)) (ss : List (A → A)) (held : List A)
    (fair : Fair same same_is ss held) where
  tells : Tells (linked same ss held) (Reach ss) held
  tells x y m n = (linked_walk same same_is ss held fair.0 x y m, walk_linked same same_is ss held fair.0 x y m)

  -- any list of held names, no two of them joined by a walk and every held name by a walk joined to one of them, has `orbits` names
  pub orbits_counted : (ys : List A) → ((z : A) → z ∈ ys → z ∈ held) → Unrelated (Reach ss) ys → ((x : A) → x ∈ held → (y : A) × (y ∈ ys) × Reach ss x y)
      → length ys ≡ orbits same ss held
  unfolding orbits
  orbits_counted = counted (linked same ss held) (Reach ss) held tells (λ x y z p q. follow p q) (λ x m. stay) (λ x y m p. walk_back held fair.0 fair.1 m p)

  -- and there is such a list
  pub some_reps : (ys : List A) × (length ys ≡ orbits same ss held) × ((z : A) → z ∈ ys → z ∈ held) × Unrelated (Reach ss) ys × ((x : A) → x ∈ held → (y : A) × (y ∈ ys) × Reach ss x y)
  unfolding orbits
  some_reps = (
    reps r held,
    length_reps r held,
    reps_in r held,
    reps_unrelated r (Reach ss) held tells (λ x y z p q. follow p q) (λ x m. stay) held (λ z m. m),
    reps_cover r (Reach ss) held tells (λ x y z p q. follow p q) (λ x m. stay) held (λ z m. m),
  )
    where
      r : A → A → Bool
      r = linked same ss held

module _ {A : Type 0} (same : A → A → Bool) (same_is : (x y : A) → T (same x y) ↔ (x ≡ y)) where
  -- the order of the names does not matter, nor how a walk is made of steps
  pub orbits_alike : (ss ss' : List (A → A)) (held held' : List A) → Fair same same_is ss held → Fair same same_is ss' held'
      → ((x : A) → x ∈ held → x ∈ held') → ((x : A) → x ∈ held' → x ∈ held)
      → ((x y : A) → x ∈ held → Reach ss x y → Reach ss' x y) → ((x y : A) → x ∈ held → Reach ss' x y → Reach ss x y)
      → orbits same ss held ≡ orbits same ss' held'
  orbits_alike ss ss' held held' f f' to from h h' =
      let o : (ys : List A) × (length ys ≡ orbits same ss held) × ((z : A) → z ∈ ys → z ∈ held) × Unrelated (Reach ss) ys × ((x : A) → x ∈ held → (y : A) × (y ∈ ys) × Reach ss x y)
      = some_reps same same_is ss held f in
      sym o.1 ∙ orbits_counted same same_is ss' held' f' o.0 (λ z m. to z (o.2 z m)) (still o.0 o.2 o.3)
      (λ x m. let q : (y : A) × (y ∈ o.0) × Reach ss x y = o.4 x (from x m) in (q.0, q.1, h x q.0 (from x m) q.2))
    where
      still : (ys : List A) → ((z : A) → z ∈ ys → z ∈ held) → Unrelated (Reach ss) ys → Unrelated (Reach ss') ys
      still [] s d = tt
      still (y ∷ ys) s d = ((λ z m p. d.0 z m (h' y z (s y (inl refl)) p)), still ys (λ z m. s z (inr m)) d.1)
