-- The working buffers of a search: how long they must be, and how they are given back.
-- Assumes nothing.
use Rattle.std.specs.Prelude.{ℕ, Bool, cond, ◌&&◌, List, ◌++◌, length, drop, replicate, ℤ, nat_le}
use Rattle.turning.specs.Limits.{marks_for, line_for}

-- the first n are z, the others are left
unfoldable pub wiped : {A : Type 0} → ℕ → A → List A → List A
wiped n z xs = replicate n z ++ drop n xs

-- the marks are long enough
abbrev pub enough_marks : ℕ → List ℕ → Bool
enough_marks n m = nat_le (marks_for n) (length m)

-- both buffers are long enough
abbrev pub enough : ℕ → List ℕ → List ℤ → Bool
enough n m l = enough_marks n m && nat_le (line_for n) (length l)

-- a lent buffer as it is given back: its first n zero, or untouched where the buffers are short
abbrev pub given_back : {A : Type 0} → Bool → ℕ → A → List A → List A
given_back answer n z xs = cond answer (wiped n z xs) xs
