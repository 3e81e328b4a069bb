-- The test of two names for being equal, points that are told, and tests in a row. Assumes nothing.
use Rattle.std.proofs.Common.{◌≡◌, Bool, true, false, ◌&&◌, ◌⊎◌, ℤ, Some, Option, arith}
use Rattle.flat.specs.Whole.{equal}
use Rattle.flat.proofs.Basics as names
use Rattle.flat.proofs.Whole.{equal_is}

-- what the test tells, for `grind`
abbrev pub Tells : ℤ → ℤ → Type 0
Tells a b = ((equal a b ≡ true) × (a ≡ b)) ⊎ ((equal a b ≡ false) × (a ≡ b → ⊥))

pub tell : (a b : ℤ) → ((equal a b ≡ true) × (a ≡ b)) ⊎ ((equal a b ≡ false) × (a ≡ b → ⊥))
tell = names.tell equal equal_is

-- what is told twice is the same
pub some_same : {A : Type 0} (a b : A) → ◌≡◌ {A = Option A} (Some a) (Some b) → a ≡ b
some_same a b z = cc

-- eight tests that all pass
pub eight : (a b c d e f g h : Bool) → (a && b && c && d && e && f && g && h) ≡ true
    → (a ≡ true) × (b ≡ true) × (c ≡ true) × (d ≡ true) × (e ≡ true) × (f ≡ true) × (g ≡ true) × (h ≡ true)
eight a b c d e f g h all = (grind arith, grind arith, grind arith, grind arith, grind arith, grind arith, grind arith, grind arith)
