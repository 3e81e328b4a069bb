-- Four files: an edge through two strips and its western half alone; three edges between two vertices, in the same order about both, and in opposite orders.
-- Assumes nothing.
use Rattle.std.specs.Prelude.{ℕ, List, [], ◌∷◌, ◌++◌}

-- one edge from (-5, 0) to (5, 0), in two strips with the border 0
unfoldable pub one_edge : List ℕ
one_edge = 2 ∷ 0 ∷ 1 ∷ 0 ∷ 2 ∷ 0 ∷ 1 ∷ 0 ∷ 2 ∷ 0 ∷ 0 ∷ 0 ∷ 0 ∷ 0 ∷ 1 ∷ 0 ∷ 255 ∷ 255 ∷ 0 ∷ 0 ∷ 255 ∷ 255 ∷ 251 ∷ 255 ∷ 255 ∷ 255 ∷ 0 ∷ 0 ∷ 0 ∷ 0 ∷ 1 ∷ 0 ∷ 255 ∷ 255 ∷ 255 ∷ 255 ∷ 1 ∷ 0 ∷ 5 ∷ 0 ∷ 0 ∷ 0 ∷ 0 ∷ 0 ∷ 0 ∷ 0 ∷ []

-- its western half, in one strip
unfoldable pub half_edge : List ℕ
half_edge = 1 ∷ 0 ∷ 1 ∷ 0 ∷ 2 ∷ 0 ∷ 1 ∷ 0 ∷ 255 ∷ 255 ∷ 0 ∷ 0 ∷ 255 ∷ 255 ∷ 251 ∷ 255 ∷ 255 ∷ 255 ∷ 0 ∷ 0 ∷ 0 ∷ 0 ∷ []

-- one strip with two vertices and six slots, whose names are 1, 2, 3, -1, -2, -3
abbrev pub head : List ℕ
head = 1 ∷ 0 ∷ 2 ∷ 0 ∷ 6 ∷ 0 ∷ 1 ∷ 0 ∷ 2 ∷ 0 ∷ 3 ∷ 0 ∷ 255 ∷ 255 ∷ 254 ∷ 255 ∷ 253 ∷ 255 ∷ []

-- the points (0, 0) and (4, 0): first the x, then the y
abbrev pub tail : List ℕ
tail = 0 ∷ 0 ∷ 0 ∷ 0 ∷ 4 ∷ 0 ∷ 0 ∷ 0 ∷ 0 ∷ 0 ∷ 0 ∷ 0 ∷ 0 ∷ 0 ∷ 0 ∷ 0 ∷ []

-- the followers 1, 2, 0 and 4, 5, 3: the rounds are (+1, +2, +3) and (-1, -2, -3)
unfoldable pub twisted : List ℕ
twisted = head ++ ((1 ∷ 0 ∷ 2 ∷ 0 ∷ 0 ∷ 0 ∷ 4 ∷ 0 ∷ 5 ∷ 0 ∷ 3 ∷ 0 ∷ []) ++ tail)

-- the followers 1, 2, 0 and 5, 3, 4: the rounds are (+1, +2, +3) and (-1, -3, -2)
unfoldable pub theta : List ℕ
theta = head ++ ((1 ∷ 0 ∷ 2 ∷ 0 ∷ 0 ∷ 0 ∷ 5 ∷ 0 ∷ 3 ∷ 0 ∷ 4 ∷ 0 ∷ []) ++ tail)
