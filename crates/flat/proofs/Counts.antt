-- How the number of classes changes: two classes joined are one less, and a finer test has no fewer.
-- Assumes nothing.
use Rattle.std.proofs.Common.{◌≡◌, ℕ, suc, ◌+◌, ◌≤◌, Bool, true, false, not, ◌&&◌, ◌||◌, T, ◌⊎◌, ◌↔◌, List, [], ◌∷◌, refl, ◌∙◌, subst, ap₂, inl, inr, le_antisymm, arith}
use Rattle.flat.specs.Orbits.{◌∈◌, any, Reach, stay, linked, indicator, classes, orbits, ClosedUnder, Reversible}
use Rattle.flat.proofs.Basics.{decided, T_true, not_T_false, T_same, any_same, any_or, any_has, any_gives, or_left, or_right, or_cases}
use Rattle.flat.proofs.Walks.{follow, walk_back, linked_walk, walk_linked}

-- one name more: α and β tell whether the classes of a and b are met later, u and v whether the name is of them
step_a : (α β p p' u v : Bool) (c c' : ℕ) → u ≡ true → v ≡ false → p ≡ α → p' ≡ (α || β) → c' + indicator (α && β) ≡ c
    → (indicator (not p') + c') + indicator ((u || α) && (v || β)) ≡ indicator (not p) + c
step_a α β p p' u v c c' e₁ e₂ e₃ e₄ h = grind arith

step_b : (α β p p' u v : Bool) (c c' : ℕ) → u ≡ false → v ≡ true → p ≡ β → p' ≡ (α || β) → c' + indicator (α && β) ≡ c
    → (indicator (not p') + c') + indicator ((u || α) && (v || β)) ≡ indicator (not p) + c
step_b α β p p' u v c c' e₁ e₂ e₃ e₄ h = grind arith

step_n : (α β p p' u v : Bool) (c c' : ℕ) → u ≡ false → v ≡ false → p' ≡ p → c' + indicator (α && β) ≡ c
    → (indicator (not p') + c') + indicator ((u || α) && (v || β)) ≡ indicator (not p) + c
step_n α β p p' u v c c' e₁ e₂ e₄ h = grind arith

step_f : (p p' : Bool) (c c' : ℕ) → (T p' → T p) → c ≤ c' → indicator (not p) + c ≤ indicator (not p') + c'
step_f true true c c' f h = omega arith
step_f true false c c' f h = omega arith
step_f false true c c' f h = absurd (f tt)
step_f false false c c' f h = omega arith

module _ {A : Type 0} (held : List A) (r r' : A → A → Bool) where
  pub finer : ((x y : A) → x ∈ held → y ∈ held → T (r' x y) → T (r x y)) → (xs : List A) → ((z : A) → z ∈ xs → z ∈ held)
      → classes r xs ≤ classes r' xs
  unfolding classes
  finer h [] s = omega arith
  finer h (x ∷ xs) s = step_f (any (r x) xs) (any (r' x) xs) (classes r xs) (classes r' xs) go (finer h xs (λ z m. s z (inr m)))
    where
      go : T (any (r' x) xs) → T (any (r x) xs)
      go t = let o : (y : A) × (y ∈ xs) × T (r' x y) = any_gives (r' x) xs t in
          any_has (r x) xs o.0 o.1 (h x o.0 (s x (inl refl)) (s o.0 (inr o.1)) o.2)

  -- r' is r with the classes of a and b joined
  Merges : A → A → Type 0
  Merges a b =
      ((y : A) → y ∈ held → T (r a y) → T (r b y) → ⊥)
      × ((y z : A) → y ∈ held → z ∈ held → T (r a y) → r y z ≡ r a z)
      × ((y z : A) → y ∈ held → z ∈ held → T (r b y) → r y z ≡ r b z)
      × ((y z : A) → y ∈ held → z ∈ held → T (r a y) ⊎ T (r b y) → r' y z ≡ (r a z || r b z))
      × ((y z : A) → y ∈ held → z ∈ held → ¬ T (r a y) → ¬ T (r b y) → r' y z ≡ r y z)

  merged : (a b : A) → Merges a b → (xs : List A) → ((z : A) → z ∈ xs → z ∈ held)
      → classes r' xs + indicator (any (r a) xs && any (r b) xs) ≡ classes r xs
  unfolding Merges classes
  merged a b h [] s = refl
  merged a b h (y ∷ ys) s = go (merged a b h ys (λ z m. s z (inr m))) (decided (r a y)) (decided (r b y))
    where
      α : Bool
      α = any (r a) ys

      β : Bool
      β = any (r b) ys

      ym : y ∈ held
      ym = s y (inl refl)

      both : T (r a y) ⊎ T (r b y) → any (r' y) ys ≡ (α || β)
      both o = any_same (r' y) (λ z. r a z || r b z) ys (λ z m. h.3 y z ym (s z (inr m)) o) ∙ any_or (r a) (r b) ys

      go : classes r' ys + indicator (α && β) ≡ classes r ys → T (r a y) ⊎ (¬ T (r a y)) → T (r b y) ⊎ (¬ T (r b y))
          → classes r' (y ∷ ys) + indicator (any (r a) (y ∷ ys) && any (r b) (y ∷ ys)) ≡ classes r (y ∷ ys)
      go e (inl t) (inl u) = absurd (h.0 y ym t u)
      go e (inl t) (inr u) = step_a α β (any (r y) ys) (any (r' y) ys) (r a y) (r b y) (classes r ys) (classes r' ys)
          (T_true (r a y) t) (not_T_false (r b y) u) (any_same (r y) (r a) ys (λ z m. h.1 y z ym (s z (inr m)) t)) (both (inl t)) e
      go e (inr t) (inl u) = step_b α β (any (r y) ys) (any (r' y) ys) (r a y) (r b y) (classes r ys) (classes r' ys)
          (not_T_false (r a y) t) (T_true (r b y) u) (any_same (r y) (r b) ys (λ z m. h.2 y z ym (s z (inr m)) u)) (both (inr u)) e
      go e (inr t) (inr u) = step_n α β (any (r y) ys) (any (r' y) ys) (r a y) (r b y) (classes r ys) (classes r' ys)
          (not_T_false (r a y) t) (not_T_false (r b y) u) (any_same (r' y) (r y) ys (λ z m. h.4 y z ym (s z (inr m)) t u)) e

  merge : (a b : A) → a ∈ held → b ∈ held → T (r a a) → T (r b b) → Merges a b → suc (classes r' held) ≡ classes r held
  merge a b am bm aa bb h =
      let e : classes r' held + indicator (any (r a) held && any (r b) held) ≡ classes r held = merged a b h held (λ z m. m) in
      let u : any (r a) held ≡ true = T_true (any (r a) held) (any_has (r a) held a am aa) in
      let v : any (r b) held ≡ true = T_true (any (r b) held) (any_has (r b) held b bm bb) in
      let k : classes r' held + 1 ≡ classes r held =
      subst (λ w. classes r' held + indicator w ≡ classes r held) (ap₂ ◌&&◌ u v) e in
      omega arith

module _ {A : Type 0} (same : A → A → Bool) (same_is : (x y : A) → T (same x y) ↔ (x ≡ y)) where
  -- the steps keep to the list, and each can be walked back
  abbrev pub Fair : List (A → A) → List A → Type 0
  Fair ss held = ClosedUnder ss held × Reversible ss held

  pub orbits_finer : (held : List A) (ss ss' : List (A → A)) → ClosedUnder ss held → ClosedUnder ss' held
      → ((x y : A) → x ∈ held → Reach ss' x y → Reach ss x y) → orbits same ss held ≤ orbits same ss' held
  unfolding orbits
  orbits_finer held ss ss' k k' h = finer held (linked same ss held) (linked same ss' held)
      (λ x y m n t. walk_linked same same_is ss held k x y m (h x y m (linked_walk same same_is ss' held k' x y m t))) held (λ z m. m)

  pub orbits_same : (held : List A) (ss ss' : List (A → A)) → ClosedUnder ss held → ClosedUnder ss' held
      → ((x y : A) → x ∈ held → Reach ss' x y → Reach ss x y) → ((x y : A) → x ∈ held → Reach ss x y → Reach ss' x y)
      → orbits same ss held ≡ orbits same ss' held
  orbits_same held ss ss' k k' h g = le_antisymm (orbits_finer held ss ss' k k' h) (orbits_finer held ss' ss k' k g)

  -- x and y are joined by a walk, or by one once a and b are joined
  abbrev pub Joined : List (A → A) → A → A → A → A → Type 0
  Joined ss a b x y = Reach ss x y ⊎ ((Reach ss a x × Reach ss b y) ⊎ (Reach ss b x × Reach ss a y))

  pub orbits_merge : (held : List A) (ss ss' : List (A → A)) → Fair ss held → Fair ss' held → (a b : A) → a ∈ held → b ∈ held
      → ¬ Reach ss a b
      → ((x y : A) → x ∈ held → Reach ss' x y → Joined ss a b x y)
      → ((x y : A) → x ∈ held → Reach ss x y → Reach ss' x y)
      → Reach ss' a b
      → suc (orbits same ss' held) ≡ orbits same ss held
  unfolding Merges orbits
  orbits_merge held ss ss' f f' a b am bm n h g j =
      merge held r r' a b am bm (to a a am stay) (to b b bm stay)
      (alone, (λ y z ym zm t. class a am y z ym t), (λ y z ym zm t. class b bm y z ym t), both, off)
    where
      r : A → A → Bool
      r = linked same ss held

      r' : A → A → Bool
      r' = linked same ss' held

      to : (x y : A) → x ∈ held → Reach ss x y → T (r x y)
      to = walk_linked same same_is ss held f.0

      from : (x y : A) → x ∈ held → T (r x y) → Reach ss x y
      from = linked_walk same same_is ss held f.0

      to' : (x y : A) → x ∈ held → Reach ss' x y → T (r' x y)
      to' = walk_linked same same_is ss' held f'.0

      from' : (x y : A) → x ∈ held → T (r' x y) → Reach ss' x y
      from' = linked_walk same same_is ss' held f'.0

      back : (x y : A) → x ∈ held → Reach ss x y → Reach ss y x
      back x y m p = walk_back held f.0 f.1 m p

      back' : (x y : A) → x ∈ held → Reach ss' x y → Reach ss' y x
      back' x y m p = walk_back held f'.0 f'.1 m p

      alone : (y : A) → y ∈ held → T (r a y) → T (r b y) → ⊥
      alone y ym t u = n (follow (from a y am t) (back b y bm (from b y bm u)))

      class : (c : A) → c ∈ held → (y z : A) → y ∈ held → T (r c y) → r y z ≡ r c z
      class c cm y z ym t = T_same (r y z) (r c z)
          (λ u. to c z cm (follow (from c y cm t) (from y z ym u)))
          (λ u. to y z ym (follow (back c y cm (from c y cm t)) (from c z cm u)))

      both : (y z : A) → y ∈ held → z ∈ held → T (r a y) ⊎ T (r b y) → r' y z ≡ (r a z || r b z)
      both y z ym zm o = T_same (r' y z) (r a z || r b z) (λ t. there o (h y z ym (from' y z ym t))) (λ t. to' y z ym (here o (or_cases (r a z) (r b z) t)))
        where
          there : T (r a y) ⊎ T (r b y) → Joined ss a b y z → T (r a z || r b z)
          there (inl t) (inl p) = or_left (r a z) (r b z) (to a z am (follow (from a y am t) p))
          there (inr t) (inl p) = or_right (r a z) (r b z) (to b z bm (follow (from b y bm t) p))
          there _ (inr (inl p)) = or_right (r a z) (r b z) (to b z bm p.1)
          there _ (inr (inr p)) = or_left (r a z) (r b z) (to a z am p.1)

          here : T (r a y) ⊎ T (r b y) → T (r a z) ⊎ T (r b z) → Reach ss' y z
          here (inl t) (inl u) = g y z ym (follow (back a y am (from a y am t)) (from a z am u))
          here (inr t) (inr u) = g y z ym (follow (back b y bm (from b y bm t)) (from b z bm u))
          here (inl t) (inr u) = follow (g y a ym (back a y am (from a y am t))) (follow j (g b z bm (from b z bm u)))
          here (inr t) (inl u) = follow (g y b ym (back b y bm (from b y bm t))) (follow (back' a b am j) (g a z am (from a z am u)))

      off : (y z : A) → y ∈ held → z ∈ held → ¬ T (r a y) → ¬ T (r b y) → r' y z ≡ r y z
      off y z ym zm na nb = T_same (r' y z) (r y z) (λ t. to y z ym (there (h y z ym (from' y z ym t)))) (λ t. to' y z ym (g y z ym (from y z ym t)))
        where
          there : Joined ss a b y z → Reach ss y z
          there (inl p) = p
          there (inr (inl p)) = absurd (na (to a y am p.0))
          there (inr (inr p)) = absurd (nb (to b y bm p.0))
