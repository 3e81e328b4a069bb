-- Counts that stop at 2.
-- Assumes nothing.
use Rattle.std.specs.Prelude.{ℕ, ◌+◌, cond, nat_lt}

-- n, or 2 where n is more
abbrev pub capped : ℕ → ℕ
capped n = cond (nat_lt n 2) n 2

-- one more, up to 2
abbrev pub one_more : ℕ → ℕ
one_more n = cond (nat_lt n 2) (n + 1) n
