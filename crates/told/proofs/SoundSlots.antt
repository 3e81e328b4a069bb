-- One strip whose followers are right: the slot before each home slot, and what the vertices of its slots tell. Assumes nothing.
use Rattle.std.proofs.Common.{◌≡◌, ℕ, zero, suc, ◌-◌, ◌<◌, ◌≤◌, Bool, true, not, eqb, Some, None, Option, sym, refl, ap, ◌∙◌, subst, ⊎_elim, arith}
use Rattle.std.proofs.lemmas.Bool.{cases_order, eq-eqb, eqb-true, ne_eqb, not-false, not-true, not_from_false, and_from}
use Rattle.flat.specs.Orbits.{iterate, indicator}
use Rattle.file.specs.Places.{count_below, each}
use Rattle.file.specs.Strips.{none, Strip, home, low, opens, rounds, vertex, Turned}
use Rattle.file.proofs.Places.{good_below, bool_apart}
use Rattle.file.proofs.Walking.{home_at, back, low_is, low_same, low_slot, return}
use Rattle.told.proofs.Homes.{bad_at}

-- ---- counts
count_mono : (p : ℕ → Bool) (i n : ℕ) → i ≤ n → count_below p i ≤ count_below p n
count_mono p i zero h = let e : i ≡ 0 = omega arith in subst (λ k. count_below p k ≤ 0) (sym e) (omega arith)
count_mono p i (suc n) h = ⊎_elim
    (λ e. subst (λ k. count_below p k ≤ count_below p (suc n)) (sym e) (omega arith))
    (⊎_elim (λ l. let r = count_mono p i n (omega arith) in omega arith) (λ l. absurd (omega arith)))
    (cases_order i (suc n))

-- a place that passes is counted above it
count_rises : (p : ℕ → Bool) (i n : ℕ) → i < n → p i ≡ true → count_below p i < count_below p n
count_rises p i n h e =
    let c = count_mono p (suc i) n h in
    let one : indicator (p i) ≡ 1 = ap indicator e in
    omega arith

module _ (s : Strip) (t : Turned s) where
  -- ---- the slot before
  reached : (i : ℕ) → i < s.slots → home s i ≡ true → (k : ℕ) × (k < s.slots) × (home s k ≡ true) × (s.follower k ≡ i)
  reached i h e =
      let r = back s t i h e in
      let some : 1 ≤ r.0 = r.1 in
      let more : suc (r.0 - 1) ≡ r.0 = omega arith in
      let o = home_at s t i h e (r.0 - 1) in
      (iterate (r.0 - 1) s.follower i, o.0, o.1, ap (λ n. iterate n s.follower i) more ∙ r.3)

  -- the first slot that a home slot follows: it is home
  pub before : s.slots ≤ none → (i : ℕ) → i < s.slots → home s i ≡ true
      → (k : ℕ) × (k < s.slots) × (home s k ≡ true) × (s.follower k ≡ i) × (each s.slots (λ m. not (eqb (s.follower m) i)) ≡ Some k)
  before small i h e = go (each s.slots (λ m. not (eqb (s.follower m) i))) refl
    where
      go : (o : Option ℕ) → each s.slots (λ m. not (eqb (s.follower m) i)) ≡ o
          → (k : ℕ) × (k < s.slots) × (home s k ≡ true) × (s.follower k ≡ i) × (each s.slots (λ m. not (eqb (s.follower m) i)) ≡ Some k)
      go None q =
          let r = reached i h e in
          let l : r.0 < s.slots = r.1 in
          let g = good_below (λ m. not (eqb (s.follower m) i)) 0 s.slots q r.0 (omega arith) (omega arith) in
          absurd (bool_apart (eqb (s.follower r.0) i) (eq-eqb (s.follower r.0) i r.3) (not-true (eqb (s.follower r.0) i) g))
      go (Some k) q =
          let w = bad_at (λ m. not (eqb (s.follower m) i)) 0 s.slots k q in
          let f : s.follower k ≡ i = eqb-true (s.follower k) i (not-false (eqb (s.follower k) i) w.2) in
          let l : k < s.slots = omega (arith, w.1) in
          (k, l, not_from_false (eqb (s.follower k) none) (ne_eqb (s.follower k) none (λ n. omega arith)), f, q)

  -- ---- vertices
  pub vertex_alike : (i : ℕ) → i < s.slots → home s i ≡ true → vertex s (s.follower i) ≡ vertex s i
  unfolding vertex
  vertex_alike i h e = ap (count_below (opens s)) (low_same s t i h e 1)

  opens_low : (i : ℕ) → i < s.slots → home s i ≡ true → opens s (low s i) ≡ true
  opens_low i h e = let r = low_slot s t i h e in and_from (home s (low s i)) (eqb (low s (low s i)) (low s i)) r.1 (eq-eqb (low s (low s i)) (low s i) r.2)

  pub vertex_small : rounds s ≡ s.vertices → (i : ℕ) → i < s.slots → home s i ≡ true → vertex s i < s.vertices
  unfolding vertex rounds
  vertex_small r i h e = let c = count_rises (opens s) (low s i) s.slots (low_slot s t i h e).0 (opens_low i h e) in omega arith

  low_apart : (i k : ℕ) → i < s.slots → k < s.slots → home s i ≡ true → home s k ≡ true → vertex s i ≡ vertex s k → low s i ≡ low s k
  unfolding vertex
  low_apart i k h g d e q = ⊎_elim (λ p. p)
      (⊎_elim
      (λ l. let c = count_rises (opens s) (low s i) (low s k) l (opens_low i h d) in absurd (omega arith))
      (λ l. let c = count_rises (opens s) (low s k) (low s i) l (opens_low k g e) in absurd (omega arith)))
      (cases_order (low s i) (low s k))

  -- follower leads between slots of one vertex: to the lowest of the round, and on
  pub one_vertex : (i k : ℕ) → i < s.slots → k < s.slots → home s i ≡ true → home s k ≡ true → vertex s i ≡ vertex s k
      → (m n : ℕ) × (iterate n s.follower (iterate m s.follower i) ≡ k)
  one_vertex i k h g d e q =
      let a = low_is s t i in
      let c = low_is s t k in
      let r = return s t k g e c.0 in
      (a.0, r.0, ap (iterate r.0 s.follower) (sym a.2 ∙ low_apart i k h g d e q ∙ c.2) ∙ r.1)
