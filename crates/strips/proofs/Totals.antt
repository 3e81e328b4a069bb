-- How the slots taken change with one edge. Assumes nothing.
use Rattle.std.proofs.Common.{◌≡◌, ℕ, zero, suc, ◌+◌, ◌≤◌, ◌⊎◌, List, ℤ, sym, refl, ap, ◌∙◌, ap₂, inl, inr, arith}
use Rattle.std.proofs.lemmas.Bool.{cases_eq}
use Rattle.chart.specs.Linework.{Linework}
use Rattle.strips.specs.Borders.{slots_of, slots_taken}

-- the sum over 1 to n
total : ℕ → (ℕ → ℕ) → ℕ
total zero g = 0
total (suc n) g = g (suc n) + total n g

taken_is : (bs : List ℤ) (l : Linework) (n : ℕ) → slots_taken bs l n ≡ total n (slots_of bs l)
unfolding slots_taken total
taken_is bs l zero = refl
taken_is bs l (suc n) = ap (λ m. slots_of bs l (suc n) + m) (taken_is bs l n)

total_same : (n : ℕ) (g f : ℕ → ℕ) → ((k : ℕ) → 1 ≤ k → k ≤ n → f k ≡ g k) → total n f ≡ total n g
unfolding total
total_same zero g f e = refl
total_same (suc n) g f e = ap₂ (λ a b. a + b) (e (suc n) (omega arith) (omega arith)) (total_same n g f (λ k l u. e k l (omega arith)))

total_swap : (n : ℕ) (g f : ℕ → ℕ) (e : ℕ) → 1 ≤ e → e ≤ n → ((k : ℕ) → (k ≡ e → ⊥) → f k ≡ g k) → total n f + g e ≡ total n g + f e
unfolding total
total_swap zero g f e l u o = absurd (omega arith)
total_swap (suc n) g f e l u o = go (cases_eq (suc n) e) (total_swap n g f e l)
  where
    go : (suc n ≡ e) ⊎ (suc n ≡ e → ⊥) → (e ≤ n → ((k : ℕ) → (k ≡ e → ⊥) → f k ≡ g k) → total n f + g e ≡ total n g + f e) → (f (suc n) + total n f) + g e ≡ (g (suc n) + total n g) + f e
    go (inl z) rec =
        let a = ap f z in
        let b = ap g z in
        let c = total_same n g f (λ k x y. o k (λ w. omega arith)) in
        omega arith
    go (inr d) rec =
        let a = o (suc n) d in
        let b = rec (omega arith) o in
        omega arith

-- one edge differs
pub taken_swap : (bs : List ℤ) (n : ℕ) (l l' : Linework) (e : ℕ) → 1 ≤ e → e ≤ n → ((k : ℕ) → (k ≡ e → ⊥) → slots_of bs l' k ≡ slots_of bs l k)
    → slots_taken bs l' n + slots_of bs l e ≡ slots_taken bs l n + slots_of bs l' e
taken_swap bs n l l' e low high same =
    ap (λ m. m + slots_of bs l e) (taken_is bs l' n) ∙ total_swap n (slots_of bs l) (slots_of bs l') e low high same ∙ ap (λ m. m + slots_of bs l' e) (sym (taken_is bs l n))
