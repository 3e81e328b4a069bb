-- Sums over the places below a number: one by one, two at once, in either order, and the places of a span. Assumes nothing.
use Rattle.std.proofs.Common.{◌≡◌, ℕ, zero, suc, ◌+◌, ◌-◌, ◌<◌, ◌≤◌, Bool, true, false, ◌&&◌, eqb, leb, ◌⊎◌, sym, refl, ap, ◌∙◌, ap₂, inl, inr, arith}
use Rattle.std.proofs.lemmas.Bool.{cases_eq, eq-eqb, ne_eqb}
use Rattle.std.proofs.lemmas.Bool.Decides.{leb_tells}
use Rattle.flat.specs.Orbits.{indicator}
use Rattle.file.specs.Places.{sum_below}

pub sum_same : (f g : ℕ → ℕ) (n : ℕ) → ((i : ℕ) → i < n → f i ≡ g i) → sum_below f n ≡ sum_below g n
sum_same f g zero e = refl
sum_same f g (suc n) e = ap₂ (λ a b. a + b) (sum_same f g n (λ i l. e i (omega arith))) (e n (omega arith))

pub sum_none : (f : ℕ → ℕ) (n : ℕ) → ((i : ℕ) → i < n → f i ≡ 0) → sum_below f n ≡ 0
sum_none f zero e = refl
sum_none f (suc n) e =
    let a = sum_none f n (λ i l. e i (omega arith)) in
    let b = e n (omega arith) in
    omega arith

pub sum_both : (f g : ℕ → ℕ) (n : ℕ) → sum_below (λ i. f i + g i) n ≡ sum_below f n + sum_below g n
sum_both f g zero = refl
sum_both f g (suc n) = let a = sum_both f g n in omega arith

-- a table summed by its rows and by its columns
pub sum_swap : (f : ℕ → ℕ → ℕ) (m n : ℕ) → sum_below (λ j. sum_below (f j) n) m ≡ sum_below (λ i. sum_below (λ j. f j i) m) n
sum_swap f zero n = sym (sum_none (λ i. 0) n (λ i l. refl))
sum_swap f (suc m) n = ap (λ a. a + sum_below (f m) n) (sum_swap f m n) ∙ sym (sum_both (λ i. sum_below (λ j. f j i) m) (f m) n)

-- one place is k
pub sum_at : (k n : ℕ) → k < n → sum_below (λ i. indicator (eqb k i)) n ≡ 1
sum_at k zero l = absurd (omega arith)
sum_at k (suc n) l = go (cases_eq k n) (sum_at k n)
  where
    go : (k ≡ n) ⊎ (k ≡ n → ⊥) → (k < n → sum_below (λ i. indicator (eqb k i)) n ≡ 1) → sum_below (λ i. indicator (eqb k i)) n + indicator (eqb k n) ≡ 1
    go (inl e) rec =
        let a = sum_none (λ i. indicator (eqb k i)) n (λ i u. ap indicator (ne_eqb k i (λ z. omega arith))) in
        let b = ap indicator (eq-eqb k n e) in
        omega arith
    go (inr d) rec =
        let a = rec (omega arith) in
        let b = ap indicator (ne_eqb k n d) in
        omega arith

-- of the strips 1 to n, those from a to b
span_below : (a b : ℕ) → 1 ≤ a → a ≤ b → (n : ℕ) → sum_below (λ j. indicator (leb a (suc j) && leb (suc j) b)) n ≡ (suc n - a) - (n - b)
span_below a b one up zero = omega arith
span_below a b one up (suc n) = step (leb a (suc n)) (leb (suc n) b) (leb_tells a (suc n)) (leb_tells (suc n) b) (span_below a b one up n)
  where
    step : (p q : Bool) → ((p ≡ true) × (a ≤ suc n)) ⊎ ((p ≡ false) × (suc n < a)) → ((q ≡ true) × (suc n ≤ b)) ⊎ ((q ≡ false) × (b < suc n))
        → sum_below (λ j. indicator (leb a (suc j) && leb (suc j) b)) n ≡ (suc n - a) - (n - b)
        → sum_below (λ j. indicator (leb a (suc j) && leb (suc j) b)) n + indicator (p && q) ≡ (suc (suc n) - a) - (suc n - b)
    step p q (inl s) (inl t) rec = let e = ap₂ (λ x y. indicator (x && y)) s.0 t.0 in let u = s.1 in let v = t.1 in omega arith
    step p q (inl s) (inr t) rec = let e = ap₂ (λ x y. indicator (x && y)) s.0 t.0 in let u = s.1 in let v = t.1 in omega arith
    step p q (inr s) t rec = let e = ap (λ x. indicator (x && q)) s.0 in let u = s.1 in omega arith

pub sum_span : (a b n : ℕ) → 1 ≤ a → a ≤ b → b ≤ n → sum_below (λ j. indicator (leb a (suc j) && leb (suc j) b)) n ≡ suc (b - a)
sum_span a b n one up high = let e = span_below a b one up n in omega arith
