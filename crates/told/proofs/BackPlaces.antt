-- Tests of names and points, and counts of the places that pass a test. Assumes nothing.
use Rattle.std.proofs.Common.{◌≡◌, ℕ, zero, suc, ◌+◌, ◌<◌, ◌≤◌, Bool, true, false, ◌⊎◌, ℤ, sym, refl, ap, subst, ap₂, inl, inr, arith}
use Rattle.std.proofs.lemmas.Bool.{cases_Bool, cases_lt, cases_eq, and_parts}
use Rattle.flat.specs.Orbits.{indicator}
use Rattle.flat.specs.Whole.{equal}
use Rattle.flat.proofs.Basics.{T_true, true_T}
use Rattle.flat.proofs.Whole.{equal_is}
use Rattle.chart.specs.declared.point.Point.{Point}
use Rattle.chart.specs.Points.{same_point}
use Rattle.file.specs.Places.{count_below}

-- ---- names and points
pub equal_same : (a b : ℤ) → a ≡ b → equal a b ≡ true
equal_same a b e = T_true (equal a b) ((equal_is a b).1 e)

pub equal_true : (a b : ℤ) → equal a b ≡ true → a ≡ b
equal_true a b e = (equal_is a b).0 (true_T (equal a b) e)

pub point_true : (p q : Point) → same_point p q ≡ true → p ≡ q
point_true p q e =
    let r = and_parts (equal p.x q.x) (equal p.y q.y) e in
    ap₂ (λ (x y : ℤ). record { x = x; y = y }) (equal_true p.x q.x r.0) (equal_true p.y q.y r.1)

-- what cannot be yes is no
pub refuted : (b : Bool) → (b ≡ true → ⊥) → b ≡ false
refuted true d = absurd (d refl)
refuted false d = refl

-- ---- counts
pub count_none : (p : ℕ → Bool) (n : ℕ) → ((k : ℕ) → k < n → p k ≡ false) → count_below p n ≡ 0
count_none p zero none = refl
count_none p (suc n) none = let e : indicator (p n) ≡ 0 = ap indicator (none n (omega arith)) in let r = count_none p n (λ k h. none k (omega arith)) in omega arith

-- one place and no other passes
pub count_once : (p : ℕ → Bool) (m n : ℕ) → m < n → p m ≡ true → ((k : ℕ) → k < n → p k ≡ true → k ≡ m) → count_below p n ≡ 1
count_once p m zero h e one = absurd (omega arith)
count_once p m (suc n) h e one = go (cases_eq m n) (count_once p m n)
  where
    go : (m ≡ n) ⊎ (m ≡ n → ⊥) → (m < n → p m ≡ true → ((k : ℕ) → k < n → p k ≡ true → k ≡ m) → count_below p n ≡ 1) → indicator (p n) + count_below p n ≡ 1
    go (inl q) rec =
        let a : indicator (p n) ≡ 1 = ap indicator (subst (λ k. p k ≡ true) q e) in
        let b = count_none p n (λ k l. refuted (p k) (λ t. let s = one k (omega arith) t in omega arith)) in
        omega arith
    go (inr d) rec =
        let a : indicator (p n) ≡ 0 = ap indicator (refuted (p n) (λ t. d (sym (one n (omega arith) t)))) in
        let b = rec (omega arith) e (λ k l t. one k (omega arith) t) in
        omega arith

pub count_most : (p : ℕ → Bool) (n : ℕ) → count_below p n ≤ n
count_most p zero = omega arith
count_most p (suc n) = let r = count_most p n in let s = most (p n) in omega arith
  where
    most : (b : Bool) → indicator b ≤ 1
    most true = omega arith
    most false = omega arith

-- the place that passes with k passing before it
pub counted : (p : ℕ → Bool) (n k : ℕ) → k < count_below p n → (i : ℕ) × (i < n) × (p i ≡ true) × (count_below p i ≡ k)
counted p zero k h = absurd (omega arith)
counted p (suc n) k h = go (cases_lt k (count_below p n)) (counted p n k) (cases_Bool (p n))
  where
    go : (k < count_below p n) ⊎ (count_below p n ≤ k) → (k < count_below p n → (i : ℕ) × (i < n) × (p i ≡ true) × (count_below p i ≡ k))
        → (p n ≡ true) ⊎ (p n ≡ false) → (i : ℕ) × (i < suc n) × (p i ≡ true) × (count_below p i ≡ k)
    go (inl l) rec c = let r = rec l in let u : r.0 < n = r.1 in (r.0, omega arith, r.2, r.3)
    go (inr g) rec (inl t) = let a : indicator (p n) ≡ 1 = ap indicator t in (n, omega arith, t, omega arith)
    go (inr g) rec (inr f) = let a : indicator (p n) ≡ 0 = ap indicator f in absurd (omega arith)
