-- What a contract sees of borders, and how they lie in their places. Assumes nothing.
use Rattle.std.specs.Prelude.{◌≡◌, ℕ, ◌-◌, ◌≤◌, List, ◌++◌, length, take, replicate, ℤ, pos}

-- borders, from west to east
pub record BorderList : Type 0 where
  pub items : List ℤ

-- a list in 31 places: the places past its end are 0
abbrev pub padded : List ℤ → List ℤ
padded bs = bs ++ replicate (31 - length bs) (pos 0)

-- the first `count` of the places hold a list, and the others are 0
abbrev pub Padded : ℕ → List ℤ → Type 0
Padded count at = (count ≤ 31) × (length (take count at) ≡ count) × (at ≡ padded (take count at))
