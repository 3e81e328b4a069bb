-- Walks step by step, as code takes them.
-- Assumes nothing.
use Rattle.std.proofs.Common.{◌≡◌, ℕ, zero, suc, ◌<◌, ◌≤◌, Bool, cond, T, ◌⊎◌, ◌↔◌, List, [], ◌∷◌, length, sym, refl, ap, ◌∙◌, subst, inl, inr, arith}
use Rattle.std.proofs.lemmas.Bool.{cases_lt, cases_eq}
use Rattle.flat.specs.Orbits.{◌∈◌, Distinct, Reach, stay, walk, ClosedUnder, iterate, trail, filter}
use Rattle.flat.proofs.Basics.{pigeon, decided, T_true, not_T_false}
use Rattle.flat.proofs.Walks.{follow, one, stays, Injective}

module _ {A : Type 0} where
  times_in : (f : A → A) (held : List A) → ((x : A) → x ∈ held → f x ∈ held) → (x : A) → x ∈ held → (k : ℕ) → iterate k f x ∈ held
  times_in f held h x m zero = m
  times_in f held h x m (suc k) = h (iterate k f x) (times_in f held h x m k)

  -- what stands on the trail, by its number
  on_trail : (f : A → A) (x y : A) (k : ℕ) → y ∈ trail k f x → (j : ℕ) × (j ≤ k) × (y ≡ iterate j f x)
  on_trail f x y zero (inl e) = (0, omega arith, e)
  on_trail f x y zero (inr e) = absurd e
  on_trail f x y (suc k) (inl e) = (suc k, omega arith, e)
  on_trail f x y (suc k) (inr m) =
      let r : (j : ℕ) × (j ≤ k) × (y ≡ iterate j f x) = on_trail f x y k m in
      let l : r.0 ≤ k = r.1 in
      (r.0, omega arith, r.2)

  at_trail : (f : A → A) (x : A) (k j : ℕ) → j ≤ k → iterate j f x ∈ trail k f x
  at_trail f x zero zero l = inl refl
  at_trail f x zero (suc j) l = absurd (omega arith)
  at_trail f x (suc k) zero l = inr (at_trail f x k zero (omega arith))
  at_trail f x (suc k) (suc j) l = go (at_trail f x k) (cases_eq j k)
    where
      go : ((j : ℕ) → j ≤ k → iterate j f x ∈ trail k f x) → (j ≡ k) ⊎ (¬ (j ≡ k)) → iterate (suc j) f x ∈ trail (suc k) f x
      go rec (inl e) = inl (ap (λ i. iterate (suc i) f x) e)
      go rec (inr n) = inr (rec (suc j) (omega arith))

  module _ (f : A → A) (held : List A) (h : (x : A) → x ∈ held → f x ∈ held) (i : Injective f held) (x : A) (m : x ∈ held) where
    distinct : (k j : ℕ) → j < k → ((l : ℕ) → 1 ≤ l → l ≤ k → ¬ (iterate l f x ≡ x)) → ¬ (iterate k f x ≡ iterate j f x)
    distinct zero j l n = absurd (omega arith)
    distinct (suc k) zero l n = n (suc k) (omega arith) (omega arith)
    distinct (suc k) (suc j) l n = λ e. distinct k j (omega arith) (λ q p r. n q p (omega arith))
        (i (iterate k f x) (iterate j f x) (times_in f held h x m k) (times_in f held h x m j) e)

    apart_trail : (k : ℕ) → ((j : ℕ) → 1 ≤ j → j ≤ k → ¬ (iterate j f x ≡ x)) → Distinct (trail k f x)
    apart_trail zero n = ((λ e. e), tt)
    apart_trail (suc k) n = ((λ p. go (on_trail f x (iterate (suc k) f x) k p)), apart_trail k (λ j p r. n j p (omega arith)))
      where
        go : (j : ℕ) × (j ≤ k) × (iterate (suc k) f x ≡ iterate j f x) → ⊥
        go r = let l : r.0 ≤ k = r.1 in distinct (suc k) r.0 (omega arith) n r.2

    length_trail : (k : ℕ) → length (trail k f x) ≡ suc k
    length_trail zero = refl
    length_trail (suc k) = ap suc (length_trail k)

    pub trail_apart : (k : ℕ) → ((j : ℕ) → 1 ≤ j → j ≤ k → ¬ (iterate j f x ≡ x)) → Distinct (trail k f x) × (k < length held)
    trail_apart k n = (apart_trail k n, omega (arith, length_trail k, pigeon (trail k f x) held (apart_trail k n) inside))
      where
        inside : (z : A) → z ∈ trail k f x → z ∈ held
        inside z p = let r : (j : ℕ) × (j ≤ k) × (z ≡ iterate j f x) = on_trail f x z k p in
            subst (λ w. w ∈ held) (sym r.2) (times_in f held h x m r.0)

  -- ---- a walk by one step, as a number of steps
  pub reach_times : (f : A → A) (x : A) (k : ℕ) → Reach (f ∷ []) x (iterate k f x)
  reach_times f x zero = stay
  reach_times f x (suc k) = follow (reach_times f x k) (one (inl refl))

  pub iterate_shift : (f : A → A) (x : A) (k : ℕ) → iterate (suc k) f x ≡ iterate k f (f x)
  iterate_shift f x zero = refl
  iterate_shift f x (suc k) = ap f (iterate_shift f x k)

  pub reach_steps : (f : A → A) (x y : A) → Reach (f ∷ []) x y → (k : ℕ) × (iterate k f x ≡ y)
  reach_steps f x y stay = (0, refl)
  reach_steps f x y (walk {y = z} (inl e) r) =
      let s : (k : ℕ) × (iterate k f z ≡ y) = reach_steps f z y r in
      (suc s.0, iterate_shift f x s.0 ∙ ap (iterate s.0 f) (sym e) ∙ s.1)
  reach_steps f x y (walk (inr e) r) = absurd e

  pub trail_whole : (f : A → A) (x : A) (k : ℕ) → f (iterate k f x) ≡ x → (y : A) → (y ∈ trail k f x) ↔ Reach (f ∷ []) x y
  trail_whole f x k back y = (there, λ p. stays (trail k f x) keeps (at_trail f x k 0 (omega arith)) p)
    where
      there : y ∈ trail k f x → Reach (f ∷ []) x y
      there p = let r : (j : ℕ) × (j ≤ k) × (y ≡ iterate j f x) = on_trail f x y k p in
          subst (λ w. Reach (f ∷ []) x w) (sym r.2) (reach_times f x r.0)

      keeps : (z w : A) → z ∈ trail k f x → (w ≡ f z) ⊎ ⊥ → w ∈ trail k f x
      keeps z w p (inr e) = absurd e
      keeps z w p (inl e) = go (on_trail f x z k p)
        where
          go : (j : ℕ) × (j ≤ k) × (z ≡ iterate j f x) → w ∈ trail k f x
          go r = turn (cases_lt r.0 k)
            where
              l : r.0 ≤ k
              l = r.1

              turn : (r.0 < k) ⊎ (k ≤ r.0) → w ∈ trail k f x
              turn (inl q) = subst (λ v. v ∈ trail k f x) (sym (e ∙ ap f r.2)) (at_trail f x k (suc r.0) q)
              turn (inr q) = subst (λ v. v ∈ trail k f x) (sym (e ∙ ap f (r.2 ∙ ap (λ i. iterate i f x) same_number) ∙ back)) (at_trail f x k 0 (omega arith))
                where
                  same_number : r.0 ≡ k
                  same_number = omega (arith, l, q)

  pub closed_is_reach : (ss : List (A → A)) (xs : List A) (x : A) → x ∈ xs → ClosedUnder ss xs → ((z : A) → z ∈ xs → Reach ss x z) → (y : A) → (y ∈ xs) ↔ Reach ss x y
  closed_is_reach ss xs x m k r y = (r y, λ p. stays xs k m p)

  filter_cons : (p : A → Bool) (x : A) (xs : List A) (P : List A → Type 0) → (T (p x) → P (x ∷ filter p xs)) → (¬ T (p x) → P (filter p xs)) → P (filter p (x ∷ xs))
  filter_cons p x xs P q r = go (decided (p x))
    where
      pick : Bool → List A
      pick b = cond b (x ∷ filter p xs) (filter p xs)

      go : T (p x) ⊎ (¬ T (p x)) → P (pick (p x))
      go (inl t) = subst (λ b. P (pick b)) (sym (T_true (p x) t)) (q t)
      go (inr t) = subst (λ b. P (pick b)) (sym (not_T_false (p x) t)) (r t)

  filter_in : (p : A → Bool) (xs : List A) (z : A) → z ∈ filter p xs → (z ∈ xs) × T (p z)
  filter_in p [] z m = absurd m
  filter_in p (x ∷ xs) z m = filter_cons p x xs (λ l. z ∈ l → (z ∈ x ∷ xs) × T (p z)) (λ t k. go (filter_in p xs z) t k)
      (λ _ k. (inr (filter_in p xs z k).0, (filter_in p xs z k).1)) m
    where
      go : (z ∈ filter p xs → (z ∈ xs) × T (p z)) → T (p x) → (z ≡ x) ⊎ (z ∈ filter p xs) → (z ∈ x ∷ xs) × T (p z)
      go rec t (inl e) = (inl e, subst (λ w. T (p w)) (sym e) t)
      go rec t (inr k) = (inr (rec k).0, (rec k).1)

  in_filter : (p : A → Bool) (xs : List A) (z : A) → z ∈ xs → T (p z) → z ∈ filter p xs
  in_filter p [] z m t = m
  in_filter p (x ∷ xs) z (inl e) t = filter_cons p x xs (λ l. z ∈ l) (λ _. inl e) (λ n. absurd (n (subst (λ w. T (p w)) e t)))
  in_filter p (x ∷ xs) z (inr m) t = filter_cons p x xs (λ l. z ∈ l) (λ _. inr (in_filter p xs z m t)) (λ _. in_filter p xs z m t)

  filter_apart : (p : A → Bool) (xs : List A) → Distinct xs → Distinct (filter p xs)
  filter_apart p [] d = tt
  filter_apart p (x ∷ xs) d = filter_cons p x xs Distinct (λ _. ((λ m. d.0 (filter_in p xs x m).0), filter_apart p xs d.1)) (λ _. filter_apart p xs d.1)

  pub filter_is : (p : A → Bool) (xs : List A) → (Distinct xs → Distinct (filter p xs)) × ((x : A) → (x ∈ filter p xs) ↔ ((x ∈ xs) × T (p x)))
  filter_is p xs = (filter_apart p xs, λ x. (filter_in p xs x, λ q. in_filter p xs x q.0 q.1))
