-- How far a name is from another, and how many lie together.
-- Assumes nothing.
use Rattle.std.specs.Prelude.{◌≡◌, ℕ, ◌≤◌, [], ◌∷◌, ℤ, Some, None, Option}
use Rattle.flat.specs.Orbits.{Reach, iterate}

-- x is where f leads from h in n steps, with no return to h on the way
pub record Walked (f : ℤ → ℤ) (h x : ℤ) (n : ℕ) : Type 0 where
  pub at : x ≡ iterate n f h
  pub fresh : (j : ℕ) → 1 ≤ j → j ≤ n → ¬ (iterate j f h ≡ h)

-- how many steps of f lead from h to k, if they do
abbrev pub Steps : (ℤ → ℤ) → ℤ → ℤ → Option ℕ → Type 0
Steps f h k (Some n) = Walked f h k n
Steps f h k None = ¬ Reach (f ∷ []) h k
