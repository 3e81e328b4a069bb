-- Places 0, 1, 2 ..: sums and counts over them, and the first that fails a test.
-- Assumes nothing.
use Rattle.std.specs.Prelude.{ℕ, zero, suc, ◌+◌, Bool, false, cond, ◌||◌, List, [], ◌∷◌, Some, None, Ok, Err, Option, Result}
use Rattle.flat.specs.Orbits.{indicator}

-- the sum of f at the places below n
abbrev pub sum_below : (ℕ → ℕ) → ℕ → ℕ
sum_below f zero = 0
sum_below f (suc n) = sum_below f n + f n

-- how many places below n pass the test
abbrev pub count_below : (ℕ → Bool) → ℕ → ℕ
count_below p zero = 0
count_below p (suc n) = indicator (p n) + count_below p n

-- some place below n passes the test
abbrev pub any_below : (ℕ → Bool) → ℕ → Bool
any_below p zero = false
any_below p (suc n) = p n || any_below p n

-- the first of n places, from k on, that fails the test
abbrev pub first_bad : (ℕ → Bool) → ℕ → ℕ → Option ℕ
first_bad good k zero = None
first_bad good k (suc n) = cond (good k) (first_bad good (suc k) n) (Some k)

-- a question asked of n places: the first where the answer is no
abbrev pub each : ℕ → (ℕ → Bool) → Option ℕ
each n good = first_bad good 0 n

-- a question asked once: place 0 where the answer is no
abbrev pub once : Bool → Option ℕ
once good = cond good None (Some 0)

-- what f makes of a place, where there is one
abbrev pub at : {A B : Type 0} → (A → B) → Option A → Option B
at f None = None
at f (Some k) = Some (f k)

-- the first of several, in order
abbrev pub first_of : {F : Type 0} → List (Option F) → Option F
first_of [] = None
first_of (None ∷ rest) = first_of rest
first_of (Some f ∷ rest) = Some f

-- the first that f tells at n places, from k on
abbrev pub first_from : {F : Type 0} → (ℕ → Option F) → ℕ → ℕ → Option F
first_from f k zero = None
first_from f k (suc n) = first_of (f k ∷ (first_from f (suc k) n ∷ []))

-- the fault, or else the value
abbrev pub answered : {F A : Type 0} → Option F → A → Result A F
answered None v = Ok v
answered (Some f) v = Err f
