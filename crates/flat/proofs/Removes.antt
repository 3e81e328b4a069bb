-- An edge taken off: the law, and that flat stays flat.
-- Assumes nothing.
use Rattle.std.proofs.Common.{◌≡◌, Bool, not, T, ◌⊎◌, ◌↔◌, List, [], ◌∷◌, sym, refl, ap, ◌∙◌, subst, inl, inr, T_not}
use Rattle.flat.specs.Orbits.{◌∈◌, Distinct, contains}
use Rattle.flat.specs.Turnings.{Turning, turning, Lawful, Flat, isolated, others, removed}
use Rattle.flat.proofs.Basics.{true_T, not_T_false, has_in, in_has, same?}
use Rattle.flat.proofs.Trails.{filter_is}
use Rattle.flat.proofs.Splice.{swapped_else}
use Rattle.flat.proofs.Alike.{alike_flat}
use Rattle.flat.proofs.Beside.{Beside, beside_flat}
use Rattle.flat.proofs.Flats.{isolate_lawful, isolate_fixed, isolate_flat}

module _ {A : Type 0} (same : A → A → Bool) (same_is : (x y : A) → T (same x y) ↔ (x ≡ y)) (neg : A → A) where
  -- ---- the names other than e and neg e
  pub others_in : (e : A) (xs : List A) (z : A) → z ∈ others neg same e xs → (z ∈ xs) × (¬ (z ∈ e ∷ neg e ∷ []))
  others_in e xs z m =
      let o : (z ∈ xs) × T (not (contains same z (e ∷ neg e ∷ []))) = ((filter_is (λ x. not (contains same x (e ∷ neg e ∷ []))) xs).1 z).0 m in
      (o.0, λ k. T_not (contains same z (e ∷ neg e ∷ [])) o.1 (in_has same same_is z (e ∷ neg e ∷ []) k))

  pub in_others : (e : A) (xs : List A) (z : A) → z ∈ xs → ¬ (z ∈ e ∷ neg e ∷ []) → z ∈ others neg same e xs
  in_others e xs z m n = ((filter_is (λ x. not (contains same x (e ∷ neg e ∷ []))) xs).1 z).1
      (m, true_T _ (ap not (not_T_false (contains same z (e ∷ neg e ∷ [])) (λ t. n (has_in same same_is z (e ∷ neg e ∷ []) t)))))

  others_apart : (e : A) (xs : List A) → Distinct xs → Distinct (others neg same e xs)
  others_apart e xs d = (filter_is (λ x. not (contains same x (e ∷ neg e ∷ []))) xs).0 d

  -- the same names in another order
  regrouped : (t : Turning A) → Lawful neg t → (held' : List A) → Distinct held' → ((x : A) → x ∈ held' → x ∈ t.held) → ((x : A) → x ∈ t.held → x ∈ held')
      → Lawful neg (turning held' t.follower t.predecessor)
  regrouped t law held' d to from = record {
    apart = d;
    paired = λ x m. from (neg x) (law.paired x (to x m));
    twice = λ x m. law.twice x (to x m);
    proper = λ x m. law.proper x (to x m);
    ahead = λ x m. from (t.follower x) (law.ahead x (to x m));
    behind = λ x m. from (t.predecessor x) (law.behind x (to x m));
    undone = λ x m. law.undone x (to x m);
    redone = λ x m. law.redone x (to x m);
  }

  -- ---- an edge whose two names are each alone, dropped
  module _ (u : Turning A) (law : Lawful neg u) (e : A) (em : e ∈ u.held) (fe : u.follower e ≡ e) (fn : u.follower (neg e) ≡ neg e) where
    abbrev r : Turning A
    r = turning (others neg same e u.held) u.follower u.predecessor

    abbrev pair : List A
    pair = e ∷ neg e ∷ []

    nm : neg e ∈ u.held
    nm = law.paired e em

    off : (h : A → A) → ((x : A) → x ∈ u.held → h x ∈ u.held) → ((x : A) → x ∈ u.held → h x ∈ pair → x ∈ pair) → (x : A) → x ∈ r.held → h x ∈ r.held
    off h k p x m =
        let o : (x ∈ u.held) × (¬ (x ∈ pair)) = others_in e u.held x m in
        in_others e u.held (h x) (k x o.0) (λ q. o.1 (p x o.0 q))

    neg_pair : (x : A) → x ∈ u.held → neg x ∈ pair → x ∈ pair
    neg_pair x m (inl q) = inr (inl (sym (law.twice x m) ∙ ap neg q))
    neg_pair x m (inr (inl q)) = inl (sym (law.twice x m) ∙ ap neg q ∙ law.twice e em)
    neg_pair x m (inr (inr q)) = absurd q

    ahead_pair : (x : A) → x ∈ u.held → u.follower x ∈ pair → x ∈ pair
    ahead_pair x m (inl q) = inl (sym (law.undone x m) ∙ ap u.predecessor (q ∙ sym fe) ∙ law.undone e em)
    ahead_pair x m (inr (inl q)) = inr (inl (sym (law.undone x m) ∙ ap u.predecessor (q ∙ sym fn) ∙ law.undone (neg e) nm))
    ahead_pair x m (inr (inr q)) = absurd q

    behind_pair : (x : A) → x ∈ u.held → u.predecessor x ∈ pair → x ∈ pair
    behind_pair x m (inl q) = inl (sym (law.redone x m) ∙ ap u.follower q ∙ fe)
    behind_pair x m (inr (inl q)) = inr (inl (sym (law.redone x m) ∙ ap u.follower q ∙ fn))
    behind_pair x m (inr (inr q)) = absurd q

    dropped_lawful : Lawful neg r
    dropped_lawful = record {
      apart = others_apart e u.held law.apart;
      paired = off neg law.paired neg_pair;
      twice = λ x m. law.twice x (others_in e u.held x m).0;
      proper = λ x m. law.proper x (others_in e u.held x m).0;
      ahead = off u.follower law.ahead ahead_pair;
      behind = off u.predecessor law.behind behind_pair;
      undone = λ x m. law.undone x (others_in e u.held x m).0;
      redone = λ x m. law.redone x (others_in e u.held x m).0;
    }

    abbrev b : Turning A
    b = Beside same same_is neg r e u.follower u.predecessor

    to : (x : A) → x ∈ b.held → x ∈ u.held
    to x (inl q) = subst (λ w. w ∈ u.held) (sym q) em
    to x (inr (inl q)) = subst (λ w. w ∈ u.held) (sym q) nm
    to x (inr (inr m)) = (others_in e u.held x m).0

    from : (x : A) → x ∈ u.held → x ∈ b.held
    from x m = go (same? same same_is x e) (same? same same_is x (neg e))
      where
        go : (x ≡ e) ⊎ (¬ (x ≡ e)) → (x ≡ neg e) ⊎ (¬ (x ≡ neg e)) → x ∈ b.held
        go (inl q) _ = inl q
        go (inr _) (inl q) = inr (inl q)
        go (inr p) (inr q) = inr (inr (in_others e u.held x m no))
          where
            no : (x ≡ e) ⊎ ((x ≡ neg e) ⊎ ⊥) → ⊥
            no (inl k) = p k
            no (inr (inl k)) = q k
            no (inr (inr k)) = k

    b_lawful : Lawful neg b
    b_lawful = regrouped u law (e ∷ neg e ∷ others neg same e u.held)
        ((λ m. no m), ((λ m. (others_in e u.held (neg e) m).1 (inr (inl refl))), others_apart e u.held law.apart)) to from
      where
        no : (e ≡ neg e) ⊎ (e ∈ others neg same e u.held) → ⊥
        no (inl q) = law.proper e em (sym q)
        no (inr m) = (others_in e u.held e m).1 (inl refl)

    dropped_flat : Flat neg same u → Flat neg same r
    dropped_flat h = (beside_flat same same_is neg r dropped_lawful e u.follower u.predecessor b_lawful fe fn (λ x m. refl)).1
        (alike_flat same same_is neg u b law b_lawful from to (λ x m. refl) h)

  -- ---- any edge
  module _ (t : Turning A) (law : Lawful neg t) (e : A) (em : e ∈ t.held) where
    abbrev u₁ : Turning A
    u₁ = isolated neg same e t

    abbrev u₂ : Turning A
    u₂ = isolated neg same (neg e) u₁

    n_held : neg e ∈ t.held
    n_held = law.paired e em

    l₁ : Lawful neg u₁
    l₁ = isolate_lawful same same_is neg t law e em

    l₂ : Lawful neg u₂
    l₂ = isolate_lawful same same_is neg u₁ l₁ (neg e) n_held

    e_fixed : u₁.follower e ≡ e
    e_fixed = isolate_fixed same same_is neg t law e em

    e_fixed₂ : u₂.follower e ≡ e
    e_fixed₂ = ap u₁.follower (swapped_else same same_is (u₁.predecessor (neg e)) (neg e) e
        (λ q. law.proper e em (sym (l₁.redone (neg e) n_held) ∙ ap u₁.follower (sym q) ∙ e_fixed)) (λ q. law.proper e em (sym q))) ∙ e_fixed

    n_fixed₂ : u₂.follower (neg e) ≡ neg e
    n_fixed₂ = isolate_fixed same same_is neg u₁ l₁ (neg e) n_held

    pub removed_lawful : Lawful neg (removed neg same e t)
    removed_lawful = dropped_lawful u₂ l₂ e em e_fixed₂ n_fixed₂

    pub removed_flat : Flat neg same t → Flat neg same (removed neg same e t)
    removed_flat h = dropped_flat u₂ l₂ e em e_fixed₂ n_fixed₂
        (isolate_flat same same_is neg u₁ l₁ (neg e) n_held (isolate_flat same same_is neg t law e em h))
