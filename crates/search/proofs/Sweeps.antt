-- A sweep over the names: each name that is new stands for all that steps lead to from it, so there is one for each class.
-- Assumes nothing.
use Rattle.std.proofs.Common.{◌≡◌, ℕ, zero, suc, ◌+◌, ◌*◌, ◌<◌, ◌≤◌, true, false, not, T, ◌⊎◌, ◌↔◌, List, [], ◌∷◌, length, ℤ, pos, negsuc, neg_ℤ, sym, refl, ap, ◌∙◌, subst, inl, inr, arith}
use Rattle.std.proofs.lemmas.Bool.{cases_eq, and_parts, and_cases, not-true, not-false, both_ways}
use Rattle.flat.specs.Orbits.{◌∈◌, Reach, stay, Unrelated, orbits}
use Rattle.flat.specs.Whole.{equal}
use Rattle.flat.proofs.Basics.{T_true}
use Rattle.flat.proofs.Counts.{Fair}
use Rattle.flat.proofs.Reps.{orbits_counted}
use Rattle.flat.proofs.Walks.{walk_back, follow, one}
use Rattle.flat.proofs.Whole.{equal_is}
use Rattle.turning.specs.Turn.{Turn, Lawful}
use Rattle.turning.specs.Counts.{holding}
use Rattle.search.specs.Marks.{marked, Clean, Closed, Spreads, Visited}
use Rattle.turning.proofs.Listed.{Named, true_T, in_holding, holding_held, held_named}
use Rattle.search.proofs.Marking.{unmarked_clean}

-- z is the name of an edge below e
abbrev pub Below : ℕ → ℤ → Type 0
Below e (pos k) = k < e
Below e (negsuc k) = suc k < e

pub below_more : (e : ℕ) (z : ℤ) → Below (e + 1) z → Below e z ⊎ ((z ≡ pos e) ⊎ (z ≡ neg_ℤ (pos e)))
below_more e (pos k) l = go (cases_eq k e)
  where
    go : (k ≡ e) ⊎ (k ≡ e → ⊥) → (k < e) ⊎ ((pos k ≡ pos e) ⊎ (pos k ≡ neg_ℤ (pos e)))
    go (inl s) = inr (inl (ap pos s))
    go (inr d) = inl (omega arith)
below_more zero (negsuc k) l = absurd (omega arith)
below_more (suc e) (negsuc k) l = go (cases_eq k e)
  where
    go : (k ≡ e) ⊎ (k ≡ e → ⊥) → (suc k < suc e) ⊎ ((negsuc k ≡ pos (suc e)) ⊎ (negsuc k ≡ negsuc e))
    go (inl s) = inr (inr (ap negsuc s))
    go (inr d) = inl (omega arith)

pub visited_few : (n : ℕ) (t : Turn) (ss : List (ℤ → ℤ)) (h : ℤ) (m m' : List ℕ) (r : ℕ) → Visited n t ss h m m' r → r ≤ 1
visited_few n t ss h m m' r (inl v) = let e = v.1 in omega arith
visited_few n t ss h m m' r (inr v) = let e = v.1 in omega arith

module _ (n : ℕ) (t : Turn) (law : Lawful n t) (ss : List (ℤ → ℤ)) (fair : Fair equal equal_is ss (holding n t)) where
  -- ys has one of each class that is marked
  pub record Swept (m : List ℕ) (ys : List ℤ) : Type 0 where
    pub there : (z : ℤ) → z ∈ ys → z ∈ holding n t
    pub strange : Unrelated (Reach ss) ys
    pub marks : (z : ℤ) → t.held z ≡ true → T (marked n m z) ↔ ((y : ℤ) × (y ∈ ys) × Reach ss y z)

  swept_none : (m : List ℕ) → Clean m → Swept m []
  swept_none m c = record { there = λ z k. absurd k; strange = tt; marks = λ z e. ((λ p. absurd (unmarked_clean n m z c p)), λ p. absurd p.1) }

  swept_more : (m m' : List ℕ) (ys : List ℤ) (h : ℤ) → Swept m ys → t.held h ≡ true → ¬ T (marked n m h) → Spreads n t ss h m m' → Swept m' (h ∷ ys)
  swept_more m m' ys h s e d sp = record { there = there; strange = (apart, s.strange); marks = λ z k. (to z k, from z k) }
    where
      hm : h ∈ holding n t
      hm = in_holding n t law h e

      there : (z : ℤ) → (z ≡ h) ⊎ (z ∈ ys) → z ∈ holding n t
      there z (inl q) = subst (λ w. w ∈ holding n t) (sym q) hm
      there z (inr k) = s.there z k

      apart : (y : ℤ) → y ∈ ys → ¬ Reach ss h y
      apart y k p = d ((s.marks h e).1 (y, k, walk_back (holding n t) fair.0 fair.1 hm p))

      to : (z : ℤ) → t.held z ≡ true → T (marked n m' z) → (y : ℤ) × (y ∈ h ∷ ys) × Reach ss y z
      to z k p = go ((sp z k).0 p)
        where
          go : T (marked n m z) ⊎ Reach ss h z → (y : ℤ) × (y ∈ h ∷ ys) × Reach ss y z
          go (inl q) = let r : (y : ℤ) × (y ∈ ys) × Reach ss y z = (s.marks z k).0 q in (r.0, inr r.1, r.2)
          go (inr q) = (h, inl refl, q)

      from : (z : ℤ) → t.held z ≡ true → (y : ℤ) × (y ∈ h ∷ ys) × Reach ss y z → T (marked n m' z)
      from z k (y, inl q, p) = (sp z k).1 (inr (subst (λ w. Reach ss w z) q p))
      from z k (y, inr q, p) = (sp z k).1 (inl ((s.marks z k).1 (y, q, p)))

  -- marks that a sweep leaves are closed
  pub swept_closed : (m : List ℕ) (ys : List ℤ) → Swept m ys → Closed n t ss m
  swept_closed m ys s z y e p k = (s.marks y (holding_held n t law y (fair.0 z y (in_holding n t law z e) k))).1 (more ((s.marks z e).0 p))
    where
      more : (x : ℤ) × (x ∈ ys) × Reach ss x z → (x : ℤ) × (x ∈ ys) × Reach ss x y
      more (x, q, r) = (x, q, follow r (one k))

  swept_all : (m : List ℕ) (ys : List ℤ) → Swept m ys → ((z : ℤ) → t.held z ≡ true → T (marked n m z)) → length ys ≡ orbits equal ss (holding n t)
  swept_all m ys s all = orbits_counted equal equal_is ss (holding n t) fair ys s.there s.strange
      (λ x k. let e : t.held x ≡ true = holding_held n t law x k in
      let r : (y : ℤ) × (y ∈ ys) × Reach ss y x = (s.marks x e).0 (all x e) in
      (r.0, r.1, walk_back (holding n t) fair.0 fair.1 (s.there r.0 r.1) r.2))

  -- the sweep so far: the names of the edges below e are done, and count is how many classes they meet
  pub record Sweep (m : List ℕ) (count e : ℕ) : Type 0 where
    pub ones : List ℤ
    pub swept : Swept m ones
    pub counted : count ≡ length ones
    pub few : count + 2 ≤ 2 * e
    pub done : (z : ℤ) → t.held z ≡ true → Below e z → T (marked n m z)

  pub sweep_closed : (m : List ℕ) (count e : ℕ) → Sweep m count e → Closed n t ss m
  sweep_closed m count e s = swept_closed m s.ones s.swept

  -- a visit: what was marked stays so, h is marked if it is held, and the count is right
  Step : (m m' : List ℕ) (ys : List ℤ) (h : ℤ) (r : ℕ) → Type 0
  Step m m' ys h r =
      (zs : List ℤ) × Swept m' zs × (length zs ≡ length ys + r) × (r ≤ 1)
      × ((z : ℤ) → t.held z ≡ true → T (marked n m z) → T (marked n m' z)) × (t.held h ≡ true → T (marked n m' h))

  step : (m m' : List ℕ) (ys : List ℤ) (h : ℤ) (r : ℕ) → Swept m ys → Visited n t ss h m m' r → Step m m' ys h r
  unfolding Step
  step m m' ys h r s (inl (old, zero_is, same)) =
      (ys, subst (λ l. Swept l ys) (sym same) s, omega arith, omega arith, (λ z e p. subst (λ l. T (marked n l z)) (sym same) p), λ e. subst (λ l. T (marked n l h)) (sym same) (go e (and_cases (t.held h) (not (marked n m h)) old)))
    where
      go : t.held h ≡ true → (t.held h ≡ false) ⊎ (not (marked n m h) ≡ false) → T (marked n m h)
      go e (inl d) = absurd (both_ways (t.held h) d e)
      go e (inr d) = true_T (marked n m h) (not-false (marked n m h) d)
  step m m' ys h r s (inr (is-new, one-is, sp)) =
      (h ∷ ys, swept_more m m' ys h s p.0 unmarked sp, omega arith, omega arith, (λ z e q. (sp z e).1 (inl q)), λ e. (sp h e).1 (inr stay))
    where
      p : (t.held h ≡ true) × (not (marked n m h) ≡ true)
      p = and_parts (t.held h) (not (marked n m h)) is-new

      unmarked : ¬ T (marked n m h)
      unmarked q = both_ways (marked n m h) (not-true (marked n m h) p.1) (T_true (marked n m h) q)

  -- and between the two names of an edge
  pub visited_closed : (m m' : List ℕ) (count e r : ℕ) (h : ℤ) → Sweep m count e → Visited n t ss h m m' r → Closed n t ss m'
  unfolding Step
  visited_closed m m' count e r h s v = let q : Step m m' s.ones h r = step m m' s.ones h r s.swept v in swept_closed m' q.0 q.1

  pub sweep_none : (m : List ℕ) → Clean m → Sweep m 0 1
  sweep_none m c = record { ones = []; swept = swept_none m c; counted = refl; few = omega arith; done = λ z e b. absurd (nothing z e b) }
    where
      nothing : (z : ℤ) → t.held z ≡ true → Below 1 z → ⊥
      nothing (pos zero) e b = both_ways (t.held (pos 0)) law.no_zero e
      nothing (pos (suc k)) e b = omega arith
      nothing (negsuc k) e b = omega arith

  -- the two names of one more edge
  pub sweep_more : (m m' m'' : List ℕ) (count e a b : ℕ) → Sweep m count e → Visited n t ss (pos e) m m' a → Visited n t ss (neg_ℤ (pos e)) m' m'' b
      → Sweep m'' (count + a + b) (e + 1)
  unfolding Step
  sweep_more m m' m'' count e a b s u v = record { ones = r.0; swept = r.1; counted = counted; few = few; done = λ z k l. done z k (below_more e z l) }
    where
      q : Step m m' s.ones (pos e) a
      q = step m m' s.ones (pos e) a s.swept u

      r : Step m' m'' q.0 (neg_ℤ (pos e)) b
      r = step m' m'' q.0 (neg_ℤ (pos e)) b q.1 v

      counted : count + a + b ≡ length r.0
      counted = let x = s.counted in let y = q.2 in let z = r.2 in omega arith

      few : count + a + b + 2 ≤ 2 * (e + 1)
      few = let x = s.few in let y = q.3 in let z = r.3 in omega arith

      done : (z : ℤ) → t.held z ≡ true → Below e z ⊎ ((z ≡ pos e) ⊎ (z ≡ neg_ℤ (pos e))) → T (marked n m'' z)
      done z k (inl l) = r.4 z k (q.4 z k (s.done z k l))
      done z k (inr (inl d)) = r.4 z k (subst (λ w. t.held w ≡ true → T (marked n m' w)) (sym d) q.5 k)
      done z k (inr (inr d)) = subst (λ w. t.held w ≡ true → T (marked n m'' w)) (sym d) r.5 k

  pub sweep_all : (m : List ℕ) (count : ℕ) → Sweep m count (n + 1) → count ≡ orbits equal ss (holding n t)
  sweep_all m count s = s.counted ∙ swept_all m s.ones s.swept (λ z e. s.done z e (below z (held_named n t law z e)))
    where
      below : (z : ℤ) → Named n z → Below (n + 1) z
      below (pos k) p = omega arith
      below (negsuc k) p = omega arith
