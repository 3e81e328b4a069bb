-- Euler's inequality: rounds and loops are together at most the edges and twice the pieces.
-- Assumes nothing.
use Rattle.std.proofs.Common.{◌≡◌, suc, ◌+◌, ◌*◌, ◌≤◌, Bool, true, false, not, T, ◌⊎◌, ◌↔◌, List, [], ◌∷◌, ◌++◌, length, sym, refl, ap, ◌∙◌, subst, inl, inr, arith, length-append}
use Rattle.flat.specs.Orbits.{◌∈◌, Distinct, ends, any, indicator, classes, orbits, Reach, stay, walk, linked, ClosedUnder, Unrelated}
use Rattle.flat.specs.Turnings.{Turning, Lawful, next, SameRound, rounds, loops, pieces, edges, Effect, isolated}
use Rattle.flat.proofs.Basics.{apart_join, pigeon, has?, same?, in_left, in_right, in_either}
use Rattle.flat.proofs.Walks.{follow, one, images, in_images, images_in, length_images, apart_images}
use Rattle.flat.proofs.Counts.{orbits_finer}
use Rattle.flat.proofs.Splice.{perm_keeps, perm_fair, Splice, splice_sym, swapped_b, swapped_else}
use Rattle.flat.proofs.Reps.{some_reps}
use Rattle.flat.proofs.Turns.{round_back, perm_next, perm_neg, fair_pieces, splice_lawful, rounds_joined, effect}

at_most : {A : Type 0} (r : A → A → Bool) (xs : List A) → classes r xs ≤ length xs
unfolding classes
at_most r [] = omega arith
at_most r (x ∷ xs) = go (any (r x) xs) (at_most r xs)
  where
    go : (b : Bool) → classes r xs ≤ length xs → indicator (not b) + classes r xs ≤ suc (length xs)
    go true h = omega arith
    go false h = omega arith

unrelated_apart : {A : Type 0} (R : A → A → Type 0) → ((x : A) → R x x) → (xs : List A) → Unrelated R xs → Distinct xs
unrelated_apart R s [] d = tt
unrelated_apart R s (x ∷ xs) d = ((λ m. d.0 x m (s x)), unrelated_apart R s xs d.1)

unrelated_same : {A : Type 0} (R : A → A → Type 0) (xs : List A) → Unrelated R xs → (u v : A) → u ∈ xs → v ∈ xs → R u v → R v u → u ≡ v
unrelated_same R [] d u v m n p q = absurd m
unrelated_same R (x ∷ xs) d u v (inl m) (inl n) p q = m ∙ sym n
unrelated_same R (x ∷ xs) d u v (inl m) (inr n) p q = absurd (d.0 v n (subst (λ w. R w v) m p))
unrelated_same R (x ∷ xs) d u v (inr m) (inl n) p q = absurd (d.0 u m (subst (λ w. R w u) n q))
unrelated_same R (x ∷ xs) d u v (inr m) (inr n) p q = unrelated_same R xs d.1 u v m n p q

-- where each step of one list of steps is a walk of the other, so is each walk
pub stepwise : {A : Type 0} (ss ss' : List (A → A)) (held : List A) → ClosedUnder ss held → ((x y : A) → x ∈ held → y ∈ ends ss x → Reach ss' x y)
    → {x y : A} → x ∈ held → Reach ss x y → Reach ss' x y
stepwise ss ss' held k h m stay = stay
stepwise ss ss' held k h m (walk {x = x} {y = y} e p) = follow (h x y m e) (stepwise ss ss' held k h (k x y m e) p)

-- from a name that is its own image no walk leads away
pub alone : {A : Type 0} (f : A → A) (x : A) → f x ≡ x → {y z : A} → y ≡ x → Reach (f ∷ []) y z → z ≡ x
alone f x e h stay = h
alone f x e h (walk (inl u) p) = alone f x e (u ∙ ap f h ∙ e) p
alone f x e h (walk (inr u) p) = absurd u

module _ {A : Type 0} (same : A → A → Bool) (same_is : (x y : A) → T (same x y) ↔ (x ≡ y)) (neg : A → A) where
  -- an edge has two names
  two_ends : (t : Turning A) → Lawful neg t → (x : A) → x ∈ t.held → {w y : A} → (w ≡ x) ⊎ (w ≡ neg x) → Reach (neg ∷ []) w y → (y ≡ x) ⊎ (y ≡ neg x)
  two_ends t law x m o stay = o
  two_ends t law x m o (walk (inr u) p) = absurd u
  two_ends t law x m (inl e) (walk (inl u) p) = two_ends t law x m (inr (u ∙ ap neg e)) p
  two_ends t law x m (inr e) (walk (inl u) p) = two_ends t law x m (inl (u ∙ ap neg e ∙ law.twice x m)) p

  -- the edges are half the names
  pub twice_edges : (t : Turning A) → Lawful neg t → 2 * edges neg same t ≡ length t.held
  twice_edges t law =
      omega (arith, pigeon t.held both law.apart cover, pigeon both t.held apart inside, length-append ys (images neg ys), length_images neg ys, o.1)
    where
      o : (ys : List A) × (length ys ≡ edges neg same t) × ((z : A) → z ∈ ys → z ∈ t.held) × Unrelated (Reach (neg ∷ [])) ys
          × ((x : A) → x ∈ t.held → (y : A) × (y ∈ ys) × Reach (neg ∷ []) x y)
      o = some_reps same same_is (neg ∷ []) t.held (perm_fair same same_is neg t.held (perm_neg same same_is neg t law))

      ys : List A
      ys = o.0

      both : List A
      both = ys ++ images neg ys

      cover : (z : A) → z ∈ t.held → z ∈ both
      cover z m = go (o.4 z m)
        where
          go : (y : A) × (y ∈ ys) × Reach (neg ∷ []) z y → z ∈ both
          go (y, k, p) = turn (two_ends t law z m (inl refl) p)
            where
              turn : (y ≡ z) ⊎ (y ≡ neg z) → z ∈ both
              turn (inl e) = in_left z ys (images neg ys) (subst (λ w. w ∈ ys) e k)
              turn (inr e) = in_right z ys (images neg ys) (subst (λ w. w ∈ images neg ys) (ap neg e ∙ law.twice z m) (images_in neg ys y k))

      inside : (z : A) → z ∈ both → z ∈ t.held
      inside z m = go (in_either z ys (images neg ys) m)
        where
          go : (z ∈ ys) ⊎ (z ∈ images neg ys) → z ∈ t.held
          go (inl k) = o.2 z k
          go (inr k) = let q : (x : A) × (x ∈ ys) × (z ≡ neg x) = in_images neg ys z k in
              subst (λ w. w ∈ t.held) (sym q.2) (law.paired q.0 (o.2 q.0 q.1))

      apart : Distinct both
      apart = apart_join ys (images neg ys) (unrelated_apart (Reach (neg ∷ [])) (λ x. stay) ys o.3)
          (apart_images neg ys (unrelated_apart (Reach (neg ∷ [])) (λ x. stay) ys o.3) (λ x y m n e. (perm_neg same same_is neg t law).1 x y (o.2 x m) (o.2 y n) e)) clash
        where
          clash : (z : A) → z ∈ ys → z ∈ images neg ys → ⊥
          clash z m k =
              let q : (x : A) × (x ∈ ys) × (z ≡ neg x) = in_images neg ys z k in
              let xm : q.0 ∈ t.held = o.2 q.0 q.1 in
              let e : q.0 ≡ z = unrelated_same (Reach (neg ∷ [])) ys o.3 q.0 z q.1 m (one (inl q.2)) (one (inl (sym (law.twice q.0 xm) ∙ ap neg (sym q.2)))) in
              law.proper q.0 xm (sym q.2 ∙ sym e)

  -- ---- the inequality
  abbrev Bounded : Turning A → Type 0
  Bounded t = rounds neg same t + loops neg same t ≤ edges neg same t + 2 * pieces neg same t

  -- where every name is alone in its round
  euler_single : (t : Turning A) → Lawful neg t → ((x : A) → x ∈ t.held → t.follower x ≡ x) → Bounded t
  unfolding orbits
  euler_single t law h = omega (arith, at_most (linked same (t.follower ∷ []) t.held) t.held, twice_edges t law, few, many)
    where
      kn : ClosedUnder (neg ∷ []) t.held
      kn = perm_keeps same same_is neg t.held (perm_neg same same_is neg t law)

      kp : ClosedUnder (t.follower ∷ neg ∷ []) t.held
      kp = (fair_pieces same same_is neg t law).0

      few : loops neg same t ≤ edges neg same t
      few = orbits_finer same same_is t.held (next neg t ∷ []) (neg ∷ []) (perm_keeps same same_is (next neg t) t.held (perm_next same same_is neg t law)) kn
          (λ x y m p. stepwise (neg ∷ []) (next neg t ∷ []) t.held kn step m p)
        where
          step : (x y : A) → x ∈ t.held → (y ≡ neg x) ⊎ ⊥ → Reach (next neg t ∷ []) x y
          step x y m (inl e) = one (inl (e ∙ sym (ap t.predecessor (sym (h (neg x) (law.paired x m))) ∙ law.undone (neg x) (law.paired x m))))
          step x y m (inr e) = absurd e

      many : edges neg same t ≤ pieces neg same t
      many = orbits_finer same same_is t.held (neg ∷ []) (t.follower ∷ neg ∷ []) kn kp (λ x y m p. stepwise (t.follower ∷ neg ∷ []) (neg ∷ []) t.held kp step m p)
        where
          step : (x y : A) → x ∈ t.held → (y ≡ t.follower x) ⊎ ((y ≡ neg x) ⊎ ⊥) → Reach (neg ∷ []) x y
          step x y m (inl e) = subst (λ w. Reach (neg ∷ []) x w) (sym (e ∙ h x m)) stay
          step x y m (inr e) = one e

  -- ---- one name set apart from its round
  module _ (t : Turning A) (law : Lawful neg t) (y : A) (ym : y ∈ t.held) where
    pub isolate_lawful : Lawful neg (isolated neg same y t)
    isolate_lawful = splice_lawful same same_is neg t law (t.predecessor y) y (law.behind y ym) ym

    pub isolate_fixed : (isolated neg same y t).follower y ≡ y
    isolate_fixed = ap t.follower (swapped_b same same_is (t.predecessor y) y) ∙ law.redone y ym

  module _ (t : Turning A) (law : Lawful neg t) (y : A) (ym : y ∈ t.held) (moved : ¬ (t.follower y ≡ y)) where
    abbrev u : Turning A
    u = isolated neg same y t

    law' : Lawful neg u
    law' = isolate_lawful t law y ym

    isolated_apart : ¬ SameRound neg u (t.predecessor y) y
    isolated_apart p =
        let e : t.predecessor y ≡ y = alone u.follower y (isolate_fixed t law y ym) refl (round_back same same_is neg u law' (law.behind y ym) p) in
        moved (ap t.follower (sym e) ∙ law.redone y ym)

    back_splice : Splice same same_is t.held u.follower t.follower (t.predecessor y) y
    back_splice = splice_sym same same_is t.held (t.predecessor y) y (law.behind y ym) ym t.follower u.follower (λ x m. refl)

    pub isolated_rounds : suc (rounds neg same t) ≡ rounds neg same u
    isolated_rounds = rounds_joined same same_is neg u t.follower t.predecessor law' law
        (t.predecessor y) y (law.behind y ym) ym back_splice isolated_apart

    -- what the turning is to the one with y set apart
    pub isolated_effect : Effect neg same u t (t.predecessor y) y
    isolated_effect = effect same same_is neg u t.follower t.predecessor law' law
        (t.predecessor y) y (law.behind y ym) ym back_splice isolated_apart

    isolated_euler : Bounded u → Bounded t
    isolated_euler h = let r = isolated_rounds in go isolated_effect r
      where
        go : Effect neg same u t (t.predecessor y) y → suc (rounds neg same t) ≡ rounds neg same u → Bounded t
        go (inl e) r = omega arith
        go (inr (inl e)) r = omega arith
        go (inr (inr e)) r = omega arith

  -- it holds where all names that are not alone stand in the list
  abbrev BoundedBy : List A → Type 0
  BoundedBy xs = (t : Turning A) → Lawful neg t → ((x : A) → x ∈ t.held → ¬ (t.follower x ≡ x) → x ∈ xs) → Bounded t

  euler_on : (xs : List A) → BoundedBy xs
  euler_on [] t law h = euler_single t law fixed
    where
      fixed : (x : A) → x ∈ t.held → t.follower x ≡ x
      fixed x m = go (same? same same_is (t.follower x) x)
        where
          go : (t.follower x ≡ x) ⊎ (¬ (t.follower x ≡ x)) → t.follower x ≡ x
          go (inl e) = e
          go (inr n) = absurd (h x m n)
  euler_on (y ∷ ys) t law h = go (has? same same_is y t.held) (same? same same_is (t.follower y) y) (euler_on ys)
    where
      tail : {x : A} → ¬ (x ≡ y) → (x ≡ y) ⊎ (x ∈ ys) → x ∈ ys
      tail n (inl e) = absurd (n e)
      tail n (inr k) = k

      go : (y ∈ t.held) ⊎ (¬ (y ∈ t.held)) → (t.follower y ≡ y) ⊎ (¬ (t.follower y ≡ y)) → BoundedBy ys → Bounded t
      go (inr n) _ rest = rest t law (λ x m k. tail (λ e. n (subst (λ w. w ∈ t.held) e m)) (h x m k))
      go (inl ym) (inl e) rest = rest t law (λ x m k. tail (λ d. k (ap t.follower d ∙ e ∙ sym d)) (h x m k))
      go (inl ym) (inr n) rest = isolated_euler t law y ym n (rest (isolated neg same y t) (isolate_lawful t law y ym) left)
        where
          left : (x : A) → x ∈ t.held → ¬ ((isolated neg same y t).follower x ≡ x) → x ∈ ys
          left x m k = turn (same? same same_is x y) (same? same same_is (t.follower x) x)
            where
              turn : (x ≡ y) ⊎ (¬ (x ≡ y)) → (t.follower x ≡ x) ⊎ (¬ (t.follower x ≡ x)) → x ∈ ys
              turn (inl e) _ = absurd (k (subst (λ w. (isolated neg same y t).follower w ≡ w) (sym e) (isolate_fixed t law y ym)))
              turn (inr d) (inl e) = absurd (k (ap t.follower (swapped_else same same_is (t.predecessor y) y x (λ i. d (sym e ∙ ap t.follower i ∙ law.redone y ym)) d) ∙ e))
              turn (inr d) (inr e) = tail d (h x m e)

  pub euler : (t : Turning A) → Lawful neg t → rounds neg same t + loops neg same t ≤ edges neg same t + 2 * pieces neg same t
  euler t law = euler_on t.held t law (λ x m k. m)
