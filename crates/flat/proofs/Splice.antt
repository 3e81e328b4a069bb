-- A splice swaps the images of two names under a one-to-one step. It joins their orbits where they lie on two, and parts their orbit where
-- they lie on one.
-- Assumes nothing.
use Rattle.std.proofs.Common.{◌≡◌, suc, Bool, T, ◌⊎◌, ◌↔◌, List, [], ◌∷◌, sym, refl, ap, ◌∙◌, subst, inl, inr, arith}
use Rattle.flat.specs.Orbits.{◌∈◌, ends, Reach, stay, walk, orbits, swapped, ClosedUnder, Reversible}
use Rattle.flat.proofs.Basics.{Told, tell, same?}
use Rattle.flat.proofs.Walks.{Injective, follow, one, walk_back, returns}
use Rattle.flat.proofs.Counts.{Fair, Joined, orbits_same, orbits_merge}

-- a walk by f through names that pass N, up to its end
data Way {A : Type 0} (f : A → A) (N : A → Type 0) : A → A → Type 0 where
  done : {x : A} → Way f N x x
  more : {x y : A} → N x → Way f N (f x) y → Way f N x y

-- a walk by f that comes back to b and never passes a
circle : {A : Type 0} (f : A → A) (N : A → Type 0) (a b : A) → ¬ (a ≡ b) → ((x : A) → N x → ¬ (x ≡ a)) → Way f N (f b) b
    → {z y w : A} → Way f N z y → y ≡ b → Reach (f ∷ []) z w → w ≡ a → ⊥
circle f N a b n h c (done) e stay e' = n (sym e' ∙ e)
circle f N a b n h c (more {x = x} k v) e stay e' = h x k e'
circle f N a b n h c (done {x = x}) e (walk (inl s) p) e' =
    circle f N a b n h c (subst (λ u. Way f N u b) (sym (s ∙ ap f e)) c) refl p e'
circle f N a b n h c (more {y = y} k v) e (walk (inl s) p) e' = circle f N a b n h c (subst (λ u. Way f N u y) (sym s) v) e p e'
circle f N a b n h c v e (walk (inr s) p) e' = absurd s

module _ {A : Type 0} (same : A → A → Bool) (same_is : (x y : A) → T (same x y) ↔ (x ≡ y)) where
  -- ---- the swap of two names
  tl : (x y : A) → Told same same_is x y
  tl = tell same same_is

  pub swapped_a : (a b : A) → swapped same a b a ≡ b
  swapped_a a b = grind (arith, tl a a)

  pub swapped_b : (a b : A) → swapped same a b b ≡ a
  swapped_b a b = grind (arith, tl b a, tl b b)

  pub swapped_else : (a b x : A) → ¬ (x ≡ a) → ¬ (x ≡ b) → swapped same a b x ≡ x
  swapped_else a b x n m = grind (arith, tl x a, tl x b)

  -- x is a, or b, or neither
  Place : A → A → A → Type 0
  Place a b x = (x ≡ a) ⊎ ((x ≡ b) ⊎ ((¬ (x ≡ a)) × (¬ (x ≡ b))))

  place : (a b x : A) → Place a b x
  unfolding Place
  place a b x = go (same? same same_is x a) (same? same same_is x b)
    where
      go : (x ≡ a) ⊎ (¬ (x ≡ a)) → (x ≡ b) ⊎ (¬ (x ≡ b)) → (x ≡ a) ⊎ ((x ≡ b) ⊎ ((¬ (x ≡ a)) × (¬ (x ≡ b))))
      go (inl e) _ = inl e
      go (inr n) (inl e) = inr (inl e)
      go (inr n) (inr m) = inr (inr (n, m))

  pub swapped_twice : (a b x : A) → swapped same a b (swapped same a b x) ≡ x
  swapped_twice a b x = grind (arith, tl x a, tl x b, tl a a, tl a b, tl b a, tl b b)

  pub swapped_in : (held : List A) (a b x : A) → a ∈ held → b ∈ held → x ∈ held → swapped same a b x ∈ held
  unfolding Place
  swapped_in held a b x am bm m = go (place a b x)
    where
      go : Place a b x → swapped same a b x ∈ held
      go (inl e) = subst (λ c. swapped same a b c ∈ held) (sym e) (subst (λ c. c ∈ held) (sym (swapped_a a b)) bm)
      go (inr (inl e)) = subst (λ c. swapped same a b c ∈ held) (sym e) (subst (λ c. c ∈ held) (sym (swapped_b a b)) am)
      go (inr (inr n)) = subst (λ c. c ∈ held) (sym (swapped_else a b x n.0 n.1)) m

  -- ---- a step that is one to one on the list
  abbrev pub Perm : (A → A) → List A → Type 0
  Perm f held = ((x : A) → x ∈ held → f x ∈ held) × Injective f held

  pub perm_keeps : (f : A → A) (held : List A) → Perm f held → ClosedUnder (f ∷ []) held
  perm_keeps f held p x y m (inl e) = subst (λ w. w ∈ held) (sym e) (p.0 x m)
  perm_keeps f held p x y m (inr e) = absurd e

  pub perm_fair : (f : A → A) (held : List A) → Perm f held → Fair same same_is (f ∷ []) held
  perm_fair f held p = (perm_keeps f held p, back)
    where
      back : Reversible (f ∷ []) held
      back x y m (inl e) = subst (λ w. Reach (f ∷ []) w x) (sym e) (returns same same_is f held (perm_keeps f held p) p.1 x m)
      back x y m (inr e) = absurd e

  pub widen : (f : A → A) (ss : List (A → A)) {x y : A} → Reach (f ∷ []) x y → Reach (f ∷ ss) x y
  widen f ss stay = stay
  widen f ss (walk (inl e) p) = walk (inl e) (widen f ss p)
  widen f ss (walk (inr e) p) = absurd e

  -- f' is f spliced at a and b, as far as the list goes
  abbrev pub Splice : List A → (A → A) → (A → A) → A → A → Type 0
  Splice held f f' a b = (x : A) → x ∈ held → f' x ≡ f (swapped same a b x)

  module _ (held : List A) (a b : A) (am : a ∈ held) (bm : b ∈ held) where
    pub splice_sym : (f f' : A → A) → Splice held f f' a b → Splice held f' f a b
    splice_sym f f' s x m = ap f (sym (swapped_twice a b x)) ∙ sym (s (swapped same a b x) (swapped_in held a b x am bm m))

    pub splice_perm : (f f' : A → A) → Splice held f f' a b → Perm f held → Perm f' held
    splice_perm f f' s p = (
      (λ x m. subst (λ w. w ∈ held) (sym (s x m)) (p.0 (swapped same a b x) (swapped_in held a b x am bm m))),
      λ x y m n e. sym (swapped_twice a b x)
          ∙ ap (swapped same a b) (p.1 (swapped same a b x) (swapped same a b y) (swapped_in held a b x am bm m) (swapped_in held a b y am bm n) (sym (s x m) ∙ e ∙ s y n))
          ∙ swapped_twice a b y,
    )

    at_a : (f f' : A → A) → Splice held f f' a b → f' a ≡ f b
    at_a f f' s = s a am ∙ ap f (swapped_a a b)

    at_b : (f f' : A → A) → Splice held f f' a b → f' b ≡ f a
    at_b f f' s = s b bm ∙ ap f (swapped_b a b)

    at_else : (f f' : A → A) → Splice held f f' a b → (x : A) → x ∈ held → (¬ (x ≡ a)) × (¬ (x ≡ b)) → f' x ≡ f x
    at_else f f' s x m n = s x m ∙ ap f (swapped_else a b x n.0 n.1)

    -- ---- any list of steps of which the first is spliced
    module _ (f f' : A → A) (ss : List (A → A)) (s : Splice held f f' a b) where
      joined_follow : Fair same same_is (f ∷ ss) held → {x y z : A} → x ∈ held → y ∈ held → Joined same same_is (f ∷ ss) a b x y → Joined same same_is (f ∷ ss) a b y z
          → Joined same same_is (f ∷ ss) a b x z
      joined_follow fair {x} {y} {z} xm ym = go
        where
          back : {u v : A} → u ∈ held → Reach (f ∷ ss) u v → Reach (f ∷ ss) v u
          back m p = walk_back held fair.0 fair.1 m p

          go : Joined same same_is (f ∷ ss) a b x y → Joined same same_is (f ∷ ss) a b y z → Joined same same_is (f ∷ ss) a b x z
          go (inl p) (inl q) = inl (follow p q)
          go (inl p) (inr (inl q)) = inr (inl (follow q.0 (back xm p), q.1))
          go (inl p) (inr (inr q)) = inr (inr (follow q.0 (back xm p), q.1))
          go (inr (inl p)) (inl q) = inr (inl (p.0, follow p.1 q))
          go (inr (inr p)) (inl q) = inr (inr (p.0, follow p.1 q))
          go (inr (inl p)) (inr (inl q)) = inl (follow (back am p.0) (follow q.0 (follow (back bm p.1) q.1)))
          go (inr (inl p)) (inr (inr q)) = inl (follow (back am p.0) q.1)
          go (inr (inr p)) (inr (inl q)) = inl (follow (back bm p.0) q.1)
          go (inr (inr p)) (inr (inr q)) = inl (follow (back bm p.0) (follow q.0 (follow (back am p.1) q.1)))

      -- a walk after the splice stays within the orbits before it, those of a and b joined
      pub within : Fair same same_is (f ∷ ss) held → ClosedUnder (f' ∷ ss) held → {x y : A} → x ∈ held → Reach (f' ∷ ss) x y → Joined same same_is (f ∷ ss) a b x y
      unfolding Place
      within fair k m stay = inl stay
      within fair k m (walk {x = x} {y = y} e p) = joined_follow fair m (k x y m e) (step e) (within fair k (k x y m e) p)
        where
          step : (y ≡ f' x) ⊎ (y ∈ ends ss x) → Joined same same_is (f ∷ ss) a b x y
          step (inr h) = inl (one (inr h))
          step (inl h) = go (place a b x)
            where
              go : Place a b x → Joined same same_is (f ∷ ss) a b x y
              go (inl u) = inr (inl (subst (λ w. Reach (f ∷ ss) a w) (sym u) stay, one (inl (h ∙ ap f' u ∙ at_a f f' s))))
              go (inr (inl u)) = inr (inr (subst (λ w. Reach (f ∷ ss) b w) (sym u) stay, one (inl (h ∙ ap f' u ∙ at_b f f' s))))
              go (inr (inr n)) = inl (one (inl (h ∙ at_else f f' s x m n)))

      -- where a walk still leads from a to b, no walk is lost
      pub kept : Fair same same_is (f' ∷ ss) held → ClosedUnder (f ∷ ss) held → Reach (f' ∷ ss) a b → {x y : A} → x ∈ held → Reach (f ∷ ss) x y → Reach (f' ∷ ss) x y
      unfolding Place
      kept fair k j m stay = stay
      kept fair k j m (walk {x = x} {y = y} e p) = follow (step e) (kept fair k j (k x y m e) p)
        where
          step : (y ≡ f x) ⊎ (y ∈ ends ss x) → Reach (f' ∷ ss) x y
          step (inr h) = one (inr h)
          step (inl h) = go (place a b x)
            where
              go : Place a b x → Reach (f' ∷ ss) x y
              go (inl u) = subst (λ w. Reach (f' ∷ ss) w y) (sym u) (follow j (one (inl (h ∙ ap f u ∙ sym (at_b f f' s)))))
              go (inr (inl u)) = subst (λ w. Reach (f' ∷ ss) w y) (sym u)
                  (follow (walk_back held fair.0 fair.1 am j) (one (inl (h ∙ ap f u ∙ sym (at_a f f' s)))))
              go (inr (inr n)) = one (inl (h ∙ sym (at_else f f' s x m n)))

      -- the number of orbits
      pub splice_joins : Fair same same_is (f ∷ ss) held → Fair same same_is (f' ∷ ss) held → ¬ Reach (f ∷ ss) a b → Reach (f' ∷ ss) a b
          → suc (orbits same (f' ∷ ss) held) ≡ orbits same (f ∷ ss) held
      splice_joins fair fair' n j = orbits_merge same same_is held (f ∷ ss) (f' ∷ ss) fair fair' a b am bm n
          (λ x y m p. within fair fair'.0 m p) (λ x y m p. kept fair' fair.0 j m p) j

      pub coarser : Fair same same_is (f ∷ ss) held → ClosedUnder (f' ∷ ss) held → Reach (f ∷ ss) a b → (x y : A) → x ∈ held → Reach (f' ∷ ss) x y → Reach (f ∷ ss) x y
      coarser fair k j x y m p = go (within fair k m p)
        where
          back : {u v : A} → u ∈ held → Reach (f ∷ ss) u v → Reach (f ∷ ss) v u
          back m p = walk_back held fair.0 fair.1 m p

          go : Joined same same_is (f ∷ ss) a b x y → Reach (f ∷ ss) x y
          go (inl q) = q
          go (inr (inl q)) = follow (back am q.0) (follow j q.1)
          go (inr (inr q)) = follow (back bm q.0) (follow (back am j) q.1)

      pub splice_same : Fair same same_is (f ∷ ss) held → Fair same same_is (f' ∷ ss) held → Reach (f ∷ ss) a b → Reach (f' ∷ ss) a b
          → orbits same (f ∷ ss) held ≡ orbits same (f' ∷ ss) held
      splice_same fair fair' j j' = orbits_same same same_is held (f ∷ ss) (f' ∷ ss) fair.0 fair'.0
          (coarser fair fair'.0 j) (λ x y m p. kept fair' fair.0 j' m p)

    -- ---- one step
    module _ (f f' : A → A) (s : Splice held f f' a b) (p : Perm f held) where
      -- two orbits become one
      pub apart_joined : ¬ Reach (f ∷ []) a b → Reach (f' ∷ []) a b
      unfolding Place
      apart_joined n = walk (inl (sym (at_a f f' s))) (go (p.0 b bm) refl (returns same same_is f held (perm_keeps f held p) p.1 b bm))
        where
          go : {z y : A} → z ∈ held → y ≡ b → Reach (f ∷ []) z y → Reach (f' ∷ []) z y
          go m e stay = stay
          go {y = t} m e (walk {x = x} {y = y} (inl h) q) = turn (go (subst (λ w. w ∈ held) (sym h) (p.0 x m)) e q) (place a b x)
            where
              turn : Reach (f' ∷ []) y t → Place a b x → Reach (f' ∷ []) x t
              turn r (inl u) = absurd (n (subst (λ w. Reach (f ∷ []) w b) u (subst (λ w. Reach (f ∷ []) x w) e (walk (inl h) q))))
              turn r (inr (inl u)) = subst (λ w. Reach (f' ∷ []) x w) (u ∙ sym e) stay
              turn r (inr (inr k)) = walk (inl (h ∙ sym (at_else f f' s x m k))) r
          go m e (walk (inr h) q) = absurd h

      Off : A → Type 0
      Off x = (x ∈ held) × (¬ (x ≡ a)) × (¬ (x ≡ b))

      -- a walk goes on to the first of a and b
      first : {x y : A} → x ∈ held → (y ≡ a) ⊎ (y ≡ b) → Reach (f ∷ []) x y → (c : A) × ((c ≡ a) ⊎ (c ≡ b)) × Way f Off x c
      unfolding Place Off
      first {x = x} m o stay = (x, o, done)
      first m o (walk (inr h) q) = absurd h
      first {y = t} m o (walk {x = x} {y = y} (inl h) q) = turn (first (subst (λ w. w ∈ held) (sym h) (p.0 x m)) o q) (place a b x)
        where
          turn : (c : A) × ((c ≡ a) ⊎ (c ≡ b)) × Way f Off y c → Place a b x → (c : A) × ((c ≡ a) ⊎ (c ≡ b)) × Way f Off x c
          turn r (inl u) = (x, inl u, done)
          turn r (inr (inl u)) = (x, inr u, done)
          turn r (inr (inr k)) = (r.0, r.1, more (m, k.0, k.1) (subst (λ w. Way f Off w r.0) h r.2))

      carried : {x y : A} → Way f Off x y → Way f' Off x y
      unfolding Off
      carried done = done
      carried (more {x = x} {y = y} k w) = more k (subst (λ u. Way f' Off u y) (sym (at_else f f' s x k.0 (k.1, k.2))) (carried w))

      -- one orbit becomes two
      pub one_parted : ¬ (a ≡ b) → Reach (f ∷ []) a b → ¬ Reach (f' ∷ []) a b
      unfolding Off
      one_parted d j j' = go (first (p.0 b bm) (inr refl) (returns same same_is f held (perm_keeps f held p) p.1 b bm))
        where
          fair : Fair same same_is (f ∷ []) held
          fair = perm_fair f held p

          go : (c : A) × ((c ≡ a) ⊎ (c ≡ b)) × Way f Off (f b) c → ⊥
          go (c, inr e, w) = circle f Off a b d (λ x k. k.1) (subst (λ u. Way f Off (f b) u) e w) (done {x = b}) refl
              (walk_back held fair.0 fair.1 am j) refl
          go (c, inl e, w) = circle f' Off b a (λ h. d (sym h)) (λ x k. k.2)
              (subst (λ u. Way f' Off u a) (sym (at_a f f' s)) (carried (subst (λ u. Way f Off (f b) u) e w))) (done {x = a}) refl j' refl

      -- the number of orbits of f
      pub orbits_joined : ¬ Reach (f ∷ []) a b → suc (orbits same (f' ∷ []) held) ≡ orbits same (f ∷ []) held
      orbits_joined n = splice_joins f f' [] s (perm_fair f held p) (perm_fair f' held (splice_perm f f' s p)) n (apart_joined n)

    module _ (f f' : A → A) (s : Splice held f f' a b) (p : Perm f held) where
      pub orbits_parted : ¬ (a ≡ b) → Reach (f ∷ []) a b → orbits same (f' ∷ []) held ≡ suc (orbits same (f ∷ []) held)
      orbits_parted d j = sym (orbits_joined f' f (splice_sym f f' s) (splice_perm f f' s p) (one_parted f f' s p d j))
