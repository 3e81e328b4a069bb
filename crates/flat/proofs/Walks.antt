-- Walks: the test `linked` answers whether there is one, and a walk by steps that can be undone can be walked back.
-- Assumes nothing.
use Rattle.std.proofs.Common.{◌≡◌, ℕ, zero, suc, ◌+◌, ◌≤◌, Bool, cond, T, ◌⊎◌, ◌↔◌, List, [], ◌∷◌, length, sym, refl, ap, ◌∙◌, subst, inl, inr, arith}
use mathlib.Core.Option.{Option, none, some}
use Rattle.flat.specs.Orbits.{◌∈◌, Distinct, contains, ends, Reach, stay, walk, fresh, frontier, closure, linked, ClosedUnder, Reversible}
use Rattle.flat.proofs.Basics.{full, has_in, in_has, has?, in_left, in_right, in_either, decided, T_true, not_T_false}

module _ {A : Type 0} where
  pub follow : {ss : List (A → A)} {x y z : A} → Reach ss x y → Reach ss y z → Reach ss x z
  follow stay q = q
  follow (walk m p) q = walk m (follow p q)

  pub one : {ss : List (A → A)} {x y : A} → y ∈ ends ss x → Reach ss x y
  one m = walk m stay

  pub stays : {ss : List (A → A)} (xs : List A) {x y : A} → ClosedUnder ss xs → x ∈ xs → Reach ss x y → y ∈ xs
  stays xs k m stay = m
  stays xs k m (walk {x = x} {y = y} s p) = stays xs k (k x y m s) p

  pub walk_back : {ss : List (A → A)} (xs : List A) {x y : A} → ClosedUnder ss xs → Reversible ss xs → x ∈ xs → Reach ss x y → Reach ss y x
  walk_back xs k b m stay = stay
  walk_back xs k b m (walk {x = x} {y = y} s p) = follow (walk_back xs k b (k x y m s) p) (b x y m s)

  -- where the first step agrees, so do the ends
  pub ends_same : (f h : A → A) (ss : List (A → A)) (x : A) → f x ≡ h x → (y : A) → (y ∈ ends (f ∷ ss) x) ↔ (y ∈ ends (h ∷ ss) x)
  ends_same f h ss x e y = (subst (λ w. y ∈ w ∷ ends ss x) e, subst (λ w. y ∈ w ∷ ends ss x) (sym e))

  in_front : (ss : List (A → A)) (xs : List A) (x y : A) → x ∈ xs → y ∈ ends ss x → y ∈ frontier ss xs
  in_front ss [] x y m s = absurd m
  in_front ss (z ∷ xs) x y (inl e) s = in_left y (ends ss z) (frontier ss xs) (subst (λ w. y ∈ ends ss w) e s)
  in_front ss (z ∷ xs) x y (inr m) s = in_right y (ends ss z) (frontier ss xs) (in_front ss xs x y m s)

  front_from : (ss : List (A → A)) (xs : List A) (y : A) → y ∈ frontier ss xs → (x : A) × (x ∈ xs) × (y ∈ ends ss x)
  front_from ss [] y m = absurd m
  front_from ss (z ∷ xs) y m = go (λ h. front_from ss xs y h) (in_either y (ends ss z) (frontier ss xs) m)
    where
      go : (y ∈ frontier ss xs → (x : A) × (x ∈ xs) × (y ∈ ends ss x)) → (y ∈ ends ss z) ⊎ (y ∈ frontier ss xs) → (x : A) × (x ∈ z ∷ xs) × (y ∈ ends ss x)
      go r (inl h) = (z, inl refl, h)
      go r (inr h) = ((r h).0, inr (r h).1, (r h).2)

  unfoldable pub images : (A → A) → List A → List A
  images f [] = []
  images f (x ∷ xs) = f x ∷ images f xs

  pub in_images : (f : A → A) (xs : List A) (y : A) → y ∈ images f xs → (x : A) × (x ∈ xs) × (y ≡ f x)
  unfolding images
  in_images f [] y m = absurd m
  in_images f (x ∷ xs) y (inl e) = (x, inl refl, e)
  in_images f (x ∷ xs) y (inr m) = let r : (x : A) × (x ∈ xs) × (y ≡ f x) = in_images f xs y m in (r.0, inr r.1, r.2)

  pub images_in : (f : A → A) (xs : List A) (x : A) → x ∈ xs → f x ∈ images f xs
  unfolding images
  images_in f [] x m = absurd m
  images_in f (y ∷ xs) x (inl e) = inl (ap f e)
  images_in f (y ∷ xs) x (inr m) = inr (images_in f xs x m)

  pub length_images : (f : A → A) (xs : List A) → length (images f xs) ≡ length xs
  unfolding images
  length_images f [] = refl
  length_images f (x ∷ xs) = ap suc (length_images f xs)

  -- f takes different names of the list to different names
  abbrev pub Injective : (A → A) → List A → Type 0
  Injective f xs = (x y : A) → x ∈ xs → y ∈ xs → f x ≡ f y → x ≡ y

  pub apart_images : (f : A → A) (xs : List A) → Distinct xs → Injective f xs → Distinct (images f xs)
  unfolding images
  apart_images f [] d i = tt
  apart_images f (x ∷ xs) d i = (
    λ m. let r : (z : A) × (z ∈ xs) × (f x ≡ f z) = in_images f xs (f x) m in
        d.0 (subst (λ w. w ∈ xs) (sym (i x r.0 (inl refl) (inr r.1) r.2)) r.1),
    apart_images f xs d.1 (λ u v m n e. i u v (inr m) (inr n) e),
  )

  module _ (same : A → A → Bool) (same_is : (x y : A) → T (same x y) ↔ (x ≡ y)) where
    Fresh : List A → List A → Type 0
    Fresh xs cs =
        ((fresh same xs cs ≡ none) × ((c : A) → c ∈ cs → c ∈ xs)) ⊎
        ((y : A) × (fresh same xs cs ≡ some y) × (y ∈ cs) × (¬ (y ∈ xs)))

    fresh_view : (xs cs : List A) → Fresh xs cs
    unfolding Fresh
    fresh_view xs [] = inl (refl, λ c m. absurd m)
    fresh_view xs (c ∷ cs) = go (fresh_view xs cs) (decided (contains same c xs))
      where
        go : Fresh xs cs → T (contains same c xs) ⊎ (¬ T (contains same c xs)) → Fresh xs (c ∷ cs)
        go r (inr n) = inr (c, ap (λ b. cond b (fresh same xs cs) (some c)) (not_T_false (contains same c xs) n), inl refl, λ m. n (in_has same same_is c xs m))
        go (inl r) (inl t) = inl (ap (λ b. cond b (fresh same xs cs) (some c)) (T_true (contains same c xs) t) ∙ r.0, all)
          where
            all : (d : A) → (d ≡ c) ⊎ (d ∈ cs) → d ∈ xs
            all d (inl e) = subst (λ w. w ∈ xs) (sym e) (has_in same same_is c xs t)
            all d (inr m) = r.1 d m
        go (inr r) (inl t) = inr (r.0, ap (λ b. cond b (fresh same xs cs) (some c)) (T_true (contains same c xs) t) ∙ r.1, inr r.2, r.3)

    -- S is the names of xs and all that can be reached from them
    Closure : (ss : List (A → A)) → List A → List A → Type 0
    Closure ss xs S =
        Distinct S × ((z : A) → z ∈ xs → z ∈ S) × ClosedUnder ss S × ((z : A) → z ∈ S → (x : A) × (x ∈ xs) × Reach ss x z)

    closure_good : (ss : List (A → A)) (held : List A) → ClosedUnder ss held → (n : ℕ) (xs : List A) → Distinct xs
        → ((z : A) → z ∈ xs → z ∈ held) → length held ≤ n + length xs → Closure ss xs (closure same n ss xs)
    unfolding Closure Fresh closure
    closure_good ss held k zero xs d s l = (d, (λ z m. m), closed, λ z m. (z, m, stay))
      where
        closed : ClosedUnder ss xs
        closed x y m e = go (has? same same_is y xs)
          where
            go : (y ∈ xs) ⊎ (¬ (y ∈ xs)) → y ∈ xs
            go (inl h) = h
            go (inr h) = absurd (full xs held d s (omega arith) y (k x y (s x m) e) h)
    closure_good ss held k (suc n) xs d s l = go (λ ys. closure_good ss held k n ys) (fresh_view xs (frontier ss xs))
      where
        grown : Option A → List A
        grown = elim [ none ↦ xs | some y ↦ closure same n ss (y ∷ xs) ]

        go : ((ys : List A) → Distinct ys → ((z : A) → z ∈ ys → z ∈ held) → length held ≤ n + length ys → Closure ss ys (closure same n ss ys))
            → Fresh xs (frontier ss xs) → Closure ss xs (closure same (suc n) ss xs)
        go rec (inl f) = subst (λ S. Closure ss xs S) (sym (ap grown f.0))
            (d, (λ z m. m), (λ x y m e. f.1 y (in_front ss xs x y m e)), λ z m. (z, m, stay))
        go rec (inr f) = subst (λ S. Closure ss xs S) (sym (ap grown f.1))
            (r.0, (λ z m. r.1 z (inr m)), r.2, λ z m. from z (r.3 z m))
          where
            y : A
            y = f.0

            o : (x : A) × (x ∈ xs) × (y ∈ ends ss x)
            o = front_from ss xs y f.2

            sub : (z : A) → (z ≡ y) ⊎ (z ∈ xs) → z ∈ held
            sub z (inl e) = subst (λ w. w ∈ held) (sym e) (k o.0 y (s o.0 o.1) o.2)
            sub z (inr m) = s z m

            r : Closure ss (y ∷ xs) (closure same n ss (y ∷ xs))
            r = rec (y ∷ xs) (f.3, d) sub (omega arith)

            from : (z : A) → (x : A) × (x ∈ y ∷ xs) × Reach ss x z → (x : A) × (x ∈ xs) × Reach ss x z
            from z (x, inr m, p) = (x, m, p)
            from z (x, inl e, p) = (o.0, o.1, walk o.2 (subst (λ w. Reach ss w z) e p))

    reached_good : (ss : List (A → A)) (held : List A) → ClosedUnder ss held → (x : A) → x ∈ held
        → Closure ss (x ∷ []) (closure same (length held) ss (x ∷ []))
    reached_good ss held k x m = closure_good ss held k (length held) (x ∷ []) ((λ h. h), tt) sub (omega arith)
      where
        sub : (z : A) → (z ≡ x) ⊎ ⊥ → z ∈ held
        sub z (inl e) = subst (λ w. w ∈ held) (sym e) m
        sub z (inr e) = absurd e

    -- the test answers whether there is a walk
    pub linked_walk : (ss : List (A → A)) (held : List A) → ClosedUnder ss held → (x y : A) → x ∈ held → T (linked same ss held x y) → Reach ss x y
    unfolding Closure linked
    linked_walk ss held k x y m t = go ((reached_good ss held k x m).3 y (has_in same same_is y (closure same (length held) ss (x ∷ [])) t))
      where
        go : (z : A) × (z ∈ x ∷ []) × Reach ss z y → Reach ss x y
        go (z, inl e, p) = subst (λ w. Reach ss w y) e p
        go (z, inr e, p) = absurd e

    pub walk_linked : (ss : List (A → A)) (held : List A) → ClosedUnder ss held → (x y : A) → x ∈ held → Reach ss x y → T (linked same ss held x y)
    unfolding Closure linked
    walk_linked ss held k x y m p =
        let r : Closure ss (x ∷ []) (closure same (length held) ss (x ∷ [])) = reached_good ss held k x m in
        in_has same same_is y (closure same (length held) ss (x ∷ [])) (stays (closure same (length held) ss (x ∷ [])) r.2 (r.1 x (inl refl)) p)

    -- a walk exists or does not
    pub walk? : (ss : List (A → A)) (held : List A) → ClosedUnder ss held → (x y : A) → x ∈ held → Reach ss x y ⊎ (¬ Reach ss x y)
    walk? ss held k x y m = go (decided (linked same ss held x y))
      where
        go : T (linked same ss held x y) ⊎ (¬ T (linked same ss held x y)) → Reach ss x y ⊎ (¬ Reach ss x y)
        go (inl t) = inl (linked_walk ss held k x y m t)
        go (inr n) = inr (λ p. n (walk_linked ss held k x y m p))

    -- from where a one-to-one step leads, a walk leads back
    pub returns : (f : A → A) (held : List A) → ClosedUnder (f ∷ []) held → Injective f held → (x : A) → x ∈ held → Reach (f ∷ []) (f x) x
    unfolding Closure images
    returns f held k i x m = go (has? same same_is (f x) (images f S))
      where
        fm : f x ∈ held
        fm = k x (f x) m (inl refl)

        S : List A
        S = closure same (length held) (f ∷ []) (f x ∷ [])

        r : Closure (f ∷ []) (f x ∷ []) S
        r = reached_good (f ∷ []) held k (f x) fm

        way : (z : A) → z ∈ S → Reach (f ∷ []) (f x) z
        way z h = from (r.3 z h)
          where
            from : (w : A) × (w ∈ f x ∷ []) × Reach (f ∷ []) w z → Reach (f ∷ []) (f x) z
            from (w, inl e, p) = subst (λ v. Reach (f ∷ []) v z) e p
            from (w, inr e, p) = absurd e

        inside : (z : A) → z ∈ S → z ∈ held
        inside z h = stays held k fm (way z h)

        sub : (z : A) → z ∈ images f S → z ∈ S
        sub z h = let o : (u : A) × (u ∈ S) × (z ≡ f u) = in_images f S z h in
            subst (λ w. w ∈ S) (sym o.2) (r.2 o.0 (f o.0) o.1 (inl refl))

        go : (f x ∈ images f S) ⊎ (¬ (f x ∈ images f S)) → Reach (f ∷ []) (f x) x
        go (inl h) = let o : (u : A) × (u ∈ S) × (f x ≡ f u) = in_images f S (f x) h in
            subst (λ w. Reach (f ∷ []) (f x) w) (sym (i x o.0 m (inside o.0 o.1) o.2)) (way o.0 o.1)
        go (inr h) = absurd (full (images f S) S (apart_images f S r.0 (λ u v a b e. i u v (inside u a) (inside v b) e)) sub
            (omega (arith, length_images f S)) (f x) (r.1 (f x) (inl refl)) h)
