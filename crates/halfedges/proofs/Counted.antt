-- How a count changes with one answer, and how many rows are used. Assumes nothing.
use Rattle.std.proofs.Common.{◌≡◌, ℕ, zero, suc, ◌+◌, ◌-◌, ◌<◌, ◌≤◌, Bool, true, false, not, ◌&&◌, eqb, ◌⊎◌, ℤ, pos, sym, refl, ap, ◌∙◌, subst, ap₂, inl, inr, arith}
use Rattle.std.proofs.lemmas.Bool.{cases_eq, cond-true, cond-false, eq-eqb, ne_eqb}
use Rattle.flat.specs.Orbits.{indicator}
use Rattle.flat.specs.Whole.{equal}
use Rattle.laws.proofs.Equal.{tell, Tells}
use Rattle.halfedges.specs.declared.halfedge.Halfedge.{Halfedge}
use Rattle.halfedges.specs.View.{View, written}
use Rattle.halfedges.specs.Rows.{count, taken_row, Packed, used, same_place, row_in, slot_count}

pub count_same : (n : ℕ) (p q : ℕ → Bool) → ((i : ℕ) → 1 ≤ i → i ≤ n → p i ≡ q i) → count n p ≡ count n q
count_same zero p q e = refl
count_same (suc n) p q e = ap₂ (λ b m. indicator b + m) (e (suc n) (omega arith) (omega arith)) (count_same n p q (λ i l u. e i l (omega arith)))

pub count_none : (n : ℕ) (p : ℕ → Bool) → ((i : ℕ) → 1 ≤ i → i ≤ n → p i ≡ false) → count n p ≡ 0
count_none zero p e = refl
count_none (suc n) p e =
    let a = ap indicator (e (suc n) (omega arith) (omega arith)) in
    let b = count_none n p (λ i l u. e i l (omega arith)) in
    omega arith

pub count_all : (n : ℕ) (p : ℕ → Bool) → ((i : ℕ) → 1 ≤ i → i ≤ n → p i ≡ true) → count n p ≡ n
count_all zero p e = refl
count_all (suc n) p e =
    let a = ap indicator (e (suc n) (omega arith) (omega arith)) in
    let b = count_all n p (λ i l u. e i l (omega arith)) in
    omega arith

-- where two tests differ at k alone, so do their counts
pub count_more : (n : ℕ) (p q : ℕ → Bool) (k : ℕ) → 1 ≤ k → k ≤ n → p k ≡ false → q k ≡ true → ((i : ℕ) → (i ≡ k → ⊥) → q i ≡ p i) → count n q ≡ suc (count n p)
count_more zero p q k l u f t o = absurd (omega arith)
count_more (suc n) p q k l u f t o = go (cases_eq (suc n) k) (count_more n p q k l)
  where
    go : (suc n ≡ k) ⊎ (suc n ≡ k → ⊥) → (k ≤ n → p k ≡ false → q k ≡ true → ((i : ℕ) → (i ≡ k → ⊥) → q i ≡ p i) → count n q ≡ suc (count n p)) → count (suc n) q ≡ suc (count (suc n) p)
    go (inl e) rec =
        let a : indicator (q (suc n)) ≡ 1 = ap (λ i. indicator (q i)) e ∙ ap indicator t in
        let b : indicator (p (suc n)) ≡ 0 = ap (λ i. indicator (p i)) e ∙ ap indicator f in
        let c = count_same n q p (λ i x y. o i (λ z. omega arith)) in
        omega arith
    go (inr d) rec =
        let a = ap indicator (o (suc n) d) in
        let b = rec (omega arith) f t o in
        omega arith

-- where every row is used, none is left
pub full : (cap : ℕ) (v : View) → ((k : ℕ) → k < cap → taken_row v (suc k) ≡ true) → used cap v < cap → ⊥
unfolding used
full cap v all l =
    let e = count_all cap (taken_row v) (λ i a b. let s : suc (i - 1) ≡ i = omega arith in subst (λ j. taken_row v j ≡ true) s (all (i - 1) (omega arith))) in
    omega arith

-- ---- slots that are all used
pub packed_none : (v : View) → Packed 0 v
packed_none v k l = absurd (omega arith)

-- the slot after them gets a name
pub packed_more : (s : ℕ) (r : Halfedge) (v : View) → Packed (s - 1) v → (r.name ≡ pos 0 → ⊥) → Packed s (written s r v)
packed_more s r v past some k l = go (cases_eq (suc k) s)
  where
    named : not (equal r.name (pos 0)) ≡ true
    named = grind (arith, tell r.name (pos 0), some)

    go : (suc k ≡ s) ⊎ (suc k ≡ s → ⊥) → taken_row (written s r v) (suc k) ≡ true
    go (inl e) = ap (λ x. not (equal x.name (pos 0))) (cond-true (eqb (suc k) s) r (v.row (suc k)) (eq-eqb (suc k) s e)) ∙ named
    go (inr d) = ap (λ x. not (equal x.name (pos 0))) (cond-false (eqb (suc k) s) r (v.row (suc k)) (ne_eqb (suc k) s d)) ∙ past k (omega arith)

-- where two tests agree off k, their counts differ as they do at k
pub count_swap : (n : ℕ) (p q : ℕ → Bool) (k : ℕ) → 1 ≤ k → k ≤ n → ((i : ℕ) → (i ≡ k → ⊥) → q i ≡ p i) → count n q + indicator (p k) ≡ count n p + indicator (q k)
count_swap zero p q k l u o = absurd (omega arith)
count_swap (suc n) p q k l u o = go (cases_eq (suc n) k) (count_swap n p q k l)
  where
    go : (suc n ≡ k) ⊎ (suc n ≡ k → ⊥) → (k ≤ n → ((i : ℕ) → (i ≡ k → ⊥) → q i ≡ p i) → count n q + indicator (p k) ≡ count n p + indicator (q k)) → count (suc n) q + indicator (p k) ≡ count (suc n) p + indicator (q k)
    go (inl e) rec =
        let a : indicator (q (suc n)) ≡ indicator (q k) = ap (λ i. indicator (q i)) e in
        let b : indicator (p (suc n)) ≡ indicator (p k) = ap (λ i. indicator (p i)) e in
        let c = count_same n q p (λ i x y. o i (λ z. omega arith)) in
        omega arith
    go (inr d) rec =
        let a = ap indicator (o (suc n) d) in
        let b = rec (omega arith) o in
        omega arith

-- a name that is not 0 has no slot where the name is 0
pub off_zero : (strip : ℕ) (i : ℕ) (h : ℤ) → (h ≡ pos 0 → ⊥) → same_place strip (pos 0) i h ≡ false
off_zero strip i h some = go (tell (pos 0) h)
  where
    go : Tells (pos 0) h → same_place strip (pos 0) i h ≡ false
    go (inl e) = absurd (some (sym e.1))
    go (inr e) = ap (λ b. b && eqb strip i) e.0

-- one row changes
module _ (cap : ℕ) (v v' : View) (s : ℕ) (low : 1 ≤ s) (high : s ≤ cap) (same : (j : ℕ) → (j ≡ s → ⊥) → ((v'.row j).name ≡ (v.row j).name) × ((v'.row j).strip ≡ (v.row j).strip)) where
  pub slot_swap : (i : ℕ) (h : ℤ) → slot_count cap v' i h + indicator (row_in v i h s) ≡ slot_count cap v i h + indicator (row_in v' i h s)
  unfolding slot_count
  slot_swap i h = count_swap cap (row_in v i h) (row_in v' i h) s low high (λ j d. ap₂ (λ k t. same_place t k i h) (same j d).0 (same j d).1)

  pub used_swap : used cap v' + indicator (taken_row v s) ≡ used cap v + indicator (taken_row v' s)
  unfolding used
  used_swap = count_swap cap (taken_row v) (taken_row v') s low high (λ j d. ap (λ k. not (equal k (pos 0))) (same j d).0)

  -- a name has come to a row that had none
  pub slot_gain : (v.row s).name ≡ pos 0 → (i : ℕ) (h : ℤ) → (h ≡ pos 0 → ⊥) → slot_count cap v' i h ≡ indicator (row_in v' i h s) + slot_count cap v i h
  slot_gain free i h some =
      let a = slot_swap i h in
      let b : indicator (row_in v i h s) ≡ 0 = ap indicator (ap (λ k. same_place (v.row s).strip k i h) free ∙ off_zero (v.row s).strip i h some) in
      sum (slot_count cap v i h) (slot_count cap v' i h) (indicator (row_in v i h s)) (indicator (row_in v' i h s)) a b
    where
      sum : (x y p q : ℕ) → y + p ≡ x + q → p ≡ 0 → y ≡ q + x
      sum x y p q a b = omega arith

  -- and so has gone from one
  pub slot_loss : (v'.row s).name ≡ pos 0 → (i : ℕ) (h : ℤ) → (h ≡ pos 0 → ⊥) → slot_count cap v i h ≡ indicator (row_in v i h s) + slot_count cap v' i h
  slot_loss free i h some =
      let a = slot_swap i h in
      let b : indicator (row_in v' i h s) ≡ 0 = ap indicator (ap (λ k. same_place (v'.row s).strip k i h) free ∙ off_zero (v'.row s).strip i h some) in
      sum (slot_count cap v i h) (slot_count cap v' i h) (indicator (row_in v i h s)) (indicator (row_in v' i h s)) a b
    where
      sum : (x y p q : ℕ) → y + p ≡ x + q → q ≡ 0 → x ≡ p + y
      sum x y p q a b = omega arith

count_within : (n : ℕ) (p : ℕ → Bool) → count n p ≤ n
count_within zero p = omega arith
count_within (suc n) p = go (p (suc n)) (count_within n p)
  where
    go : (b : Bool) → count n p ≤ n → indicator b + count n p ≤ suc n
    go true rec = omega arith
    go false rec = omega arith

-- no more slots are used than there are
pub used_within : (cap : ℕ) (v : View) → used cap v ≤ cap
unfolding used
used_within cap v = count_within cap (taken_row v)

pub used_start : (v : View) → used 0 v ≡ 0
unfolding used
used_start v = refl

pub used_more : (i : ℕ) (v : View) → used (suc i) v ≡ indicator (taken_row v (suc i)) + used i v
unfolding used
used_more i v = refl
