-- How the changes of a turning change its counts: each is the theory's change of the list of the names that are held.
-- Assumes nothing.
use Rattle.std.proofs.Common.{◌≡◌, ℕ, ◌+◌, true, false, ◌⊎◌, ◌∷◌, ℤ, pos, neg_ℤ, Some, None, Option, sym, refl, ap, ◌∙◌, inl, inr, arith}
use mathlib.Core.Option.{none, some}
use mathlib.Core.Option as flat
use lib.IntN.{neg_ℤ-neg_ℤ}
use Rattle.std.proofs.lemmas.Bool.{both_ways}
use Rattle.flat.specs.Orbits.{◌∈◌}
use Rattle.flat.specs.Turnings as figure
use Rattle.flat.specs.Whole.{equal}
use Rattle.flat.proofs.Whole.{equal_is}
use Rattle.flat.proofs.Proved.{any_hanging_counts, any_lifting, any_cleaving_counts}
use Rattle.turning.specs.Turn.{Turn, Lawful}
use Rattle.turning.specs.Counts.{holding, listed, rounds, loops, edges, pieces, Flat}
use Rattle.turning.proofs.Listed.{in_holding, holding_held, listed_lawful}
use Rattle.turning.proofs.Tests.{loops_listed, flat_listed}
use Rattle.chart.specs.Changes.{at, put, drawn, turned}
use Rattle.laws.specs.Laws.{Counts, HangChanges}
use Rattle.laws.proofs.Equal.{tell, Tells}

-- a corner of the store as a corner of the theory
abbrev pub of : Option ℤ → flat.Option ℤ
of None = none
of (Some c) = some c

-- a corner, if there is one, is held
abbrev pub CornerHeld : Turn → Option ℤ → Type 0
CornerHeld t None = Unit {0}
CornerHeld t (Some c) = t.held c ≡ true

-- two corners are two names
abbrev pub Two : Option ℤ → Option ℤ → Type 0
Two None d = Unit {0}
Two (Some c) None = Unit {0}
Two (Some c) (Some d) = ¬ (c ≡ d)

-- ---- a turning has the counts of its list
pub counts_listed : (n : ℕ) (t : Turn) → Lawful n t → figure.Counts neg_ℤ equal (listed n t) (rounds n t) (loops n t) (edges n t) (pieces n t)
unfolding rounds edges pieces
counts_listed n t law = (refl, sym (loops_listed n t law), refl, refl)

module _ (n : ℕ) (t t' : Turn) (law : Lawful n t) (law' : Lawful n t') where
  pub changes_listed : (o p : Option ℤ) → figure.HangChanges neg_ℤ equal (listed n t) (listed n t') (of o) (of p) → HangChanges n t t' o p
  changes_listed o p = let a = counts_listed n t law in let b = counts_listed n t' law' in go o p a b
    where
      go : (o p : Option ℤ) → figure.Counts neg_ℤ equal (listed n t) (rounds n t) (loops n t) (edges n t) (pieces n t)
          → figure.Counts neg_ℤ equal (listed n t') (rounds n t') (loops n t') (edges n t') (pieces n t')
          → figure.HangChanges neg_ℤ equal (listed n t) (listed n t') (of o) (of p) → HangChanges n t t' o p
      go None None a b k = (omega arith, omega arith, omega arith, omega arith)
      go (Some c) None a b k = (omega arith, omega arith, omega arith, omega arith)
      go None (Some d) a b k = (omega arith, omega arith, omega arith, omega arith)
      go (Some c) (Some d) a b k = (
        omega arith,
        omega arith,
        (λ p. let m = k.2 p in (omega arith, omega arith)),
        (λ l. let m = k.3 l in (omega arith, omega arith)),
        λ p l. let m = k.4 p l in (omega arith, omega arith),
      )

  -- a list with the names of one edge more
  with_edge : (k : ℤ) → ((x : ℤ) → t'.held x ≡ at (neg_ℤ k) true (at k true t.held) x) → figure.With neg_ℤ equal k (listed n t) (listed n t')
  with_edge k e x = (there, back)
    where
      there : x ∈ holding n t' → x ∈ k ∷ (neg_ℤ k ∷ holding n t)
      there m = go (tell x k) (tell x (neg_ℤ k))
        where
          h : at (neg_ℤ k) true (at k true t.held) x ≡ true
          h = sym (e x) ∙ holding_held n t' law' x m

          go : Tells x k → Tells x (neg_ℤ k) → x ∈ k ∷ (neg_ℤ k ∷ holding n t)
          go (inl a) _ = inl a.1
          go (inr a) (inl b) = inr (inl b.1)
          go (inr a) (inr b) = inr (inr (in_holding n t law x (grind (arith, h, a, b))))

      back : x ∈ k ∷ (neg_ℤ k ∷ holding n t) → x ∈ holding n t'
      back m = in_holding n t' law' x (e x ∙ go m)
        where
          go : (x ≡ k) ⊎ ((x ≡ neg_ℤ k) ⊎ (x ∈ holding n t)) → at (neg_ℤ k) true (at k true t.held) x ≡ true
          go (inl a) = grind (arith, tell x k, tell x (neg_ℤ k))
          go (inr (inl a)) = grind (arith, tell x (neg_ℤ k))
          go (inr (inr a)) = let h = holding_held n t law x a in grind (arith, tell x k, tell x (neg_ℤ k))

module _ (n : ℕ) (t : Turn) (law : Lawful n t) where
  pub corner_in : (o : Option ℤ) → CornerHeld t o → figure.Corner neg_ℤ equal (listed n t) (of o)
  corner_in None h = tt
  corner_in (Some c) h = in_holding n t law c h

  -- ---- hang
  module _ (k : ℤ) (first : ¬ (neg_ℤ k ≡ k)) (unused : t.held k ≡ false) where
    not_k : (c : ℤ) → t.held c ≡ true → ¬ (c ≡ k)
    not_k c h q = both_ways _ unused (ap t.held (sym q) ∙ h)

    not_m : (c : ℤ) → t.held c ≡ true → ¬ (c ≡ neg_ℤ k)
    not_m c h q = both_ways _ unused (ap t.held (sym (ap neg_ℤ q ∙ neg_ℤ-neg_ℤ k)) ∙ law.closed c h)

    free : figure.Free neg_ℤ equal k (listed n t)
    free = record {
      unheld = λ m. not_k k (holding_held n t law k m) refl;
      unheld_neg = λ m. not_m (neg_ℤ k) (holding_held n t law (neg_ℤ k) m) refl;
      two = first;
      again = neg_ℤ-neg_ℤ k;
    }

    abbrev both : Option ℤ → Option ℤ → Turn
    both o p = put p (neg_ℤ k) (put o k t)

    held_both : (o p : Option ℤ) (x : ℤ) → (both o p).held x ≡ at (neg_ℤ k) true (at k true t.held) x
    held_both None None x = refl
    held_both None (Some d) x = refl
    held_both (Some c) None x = refl
    held_both (Some c) (Some d) x = refl

    leads : (o p : Option ℤ) → CornerHeld t o → CornerHeld t p → Two o p → (x : ℤ) → (both o p).follower x ≡ figure.after_hang neg_ℤ equal k (of o) (of p) t.follower x
    leads None None co cp d x = grind (arith, tell x k, tell x (neg_ℤ k), first)
    leads (Some c) None co cp d x = grind (arith, tell x k, tell x (neg_ℤ k), tell x c, first)
    leads None (Some d) co cp _ x = grind (arith, tell x k, tell x (neg_ℤ k), tell x d, tell d k, first, not_k d cp)
    leads (Some c) (Some d) co cp cd x = grind (arith, tell x k, tell x (neg_ℤ k), tell x c, tell x d, tell d k, tell d c, first, not_k d cp, not_m d cp, not_k c co)

    apart_two : (o p : Option ℤ) → Two o p → figure.TwoCorners neg_ℤ equal (of o) (of p)
    apart_two None p d = tt
    apart_two (Some c) None d = tt
    apart_two (Some c) (Some e) d = d

    pub put_counts : (o p : Option ℤ) → Lawful n (put p (neg_ℤ k) (put o k t)) → CornerHeld t o → CornerHeld t p → Two o p
        → figure.HangChanges neg_ℤ equal (listed n t) (listed n (put p (neg_ℤ k) (put o k t))) (of o) (of p)
    put_counts o p law' co cp d =
        any_hanging_counts ℤ equal neg_ℤ equal_is (listed n t) (listed n (both o p)) (listed_lawful n t law) (listed_lawful n (both o p) law') k free (of o) (of p)
        (corner_in o co) (corner_in p cp) (apart_two o p d) (with_edge n t (both o p) law law' k (held_both o p)) (λ x m. leads o p co cp d x)

  -- ---- lift
  module _ (k : ℤ) (first : ¬ (neg_ℤ k ≡ k)) (held : t.held k ≡ true) where
    abbrev off : Turn
    off = drawn (neg_ℤ k) (drawn k t)

    off_held : (x : ℤ) → off.held x ≡ true → (t.held x ≡ true) × (¬ (x ≡ k)) × (¬ (x ≡ neg_ℤ k))
    off_held x h = (grind (arith, tell x k, tell x (neg_ℤ k)), (λ a. grind (arith, tell x k, tell x (neg_ℤ k))), λ b. grind (arith, tell x k, tell x (neg_ℤ k)))

    abbrev m : ℤ
    m = neg_ℤ k

    abbrev f : ℤ → ℤ
    f = t.follower

    abbrev g : ℤ → ℤ
    g = t.predecessor

    facts : (f (g k) ≡ k) × (g (f k) ≡ k) × (f (g m) ≡ m) × (g (f m) ≡ m)
    facts = (law.redone k held, law.undone k held, law.redone m (law.closed k held), law.undone m (law.closed k held))

    off_leads : (x : ℤ) → t.held x ≡ true → ¬ (x ≡ k) → ¬ (x ≡ m) → off.follower x ≡ figure.after_lift neg_ℤ equal k t.follower x
    off_leads x h a b =
        let u = law.undone x h in
        grind (arith, facts, tell x k, tell x m, tell m k, tell m (f k), tell (f k) m, tell x (g k), tell x (g m), tell m (g k), tell (f x) k, tell (f x) m, tell (f m) k)

    pub drawn_flat : Lawful n (drawn (neg_ℤ k) (drawn k t)) → Flat n t → Flat n (drawn (neg_ℤ k) (drawn k t))
    drawn_flat law' h = (flat_listed n off law').1 (any_lifting ℤ equal neg_ℤ equal_is (listed n t) (listed n off) (listed_lawful n t law) (listed_lawful n off law') k (in_holding n t law k held)
        (λ x. (
          (λ m. let r = off_held x (holding_held n off law' x m) in (in_holding n t law x r.0, r.1, r.2)),
          λ r. in_holding n off law' x (let h = holding_held n t law x r.0 in grind (arith, tell x k, tell x (neg_ℤ k), r.1, r.2)),
        ))
        (λ x m. let r = off_held x (holding_held n off law' x m) in off_leads x r.0 r.1 r.2) ((flat_listed n t law).0 h))

  -- ---- cleave
  module _ (e k : ℕ) (held : t.held (pos e) ≡ true) (first : ¬ (neg_ℤ (pos k) ≡ pos k)) (unused : t.held (pos k) ≡ false) where
    abbrev parted : Turn
    parted = record {
      held = at (pos k) true (at (neg_ℤ (pos k)) true t.held);
      follower = turned e k t.follower;
      predecessor = turned e k t.predecessor;
    }

    pub parted_counts : Lawful n parted → Counts n parted (rounds n t + 1) (loops n t) (edges n t + 1) (pieces n t)
    parted_counts law' =
        let a = counts_listed n t law in
        let b = counts_listed n parted law' in
        let c = any_cleaving_counts ℤ equal neg_ℤ equal_is (listed n t) (listed n parted) (listed_lawful n t law) (listed_lawful n parted law')
        (pos e) (in_holding n t law (pos e) held) (pos k) (free (pos k) first unused)
        (with_edge n t parted law law' (pos k) (λ x. grind (arith, tell x (pos k), tell x (neg_ℤ (pos k))))) (λ x m. refl) in
        (omega arith, omega arith, omega arith, omega arith)
