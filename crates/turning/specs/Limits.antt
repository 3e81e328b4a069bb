-- The numbers that bound a sheet. Definitions and lemmas take them as variables; contracts put them in.
-- Assumes nothing.
use Rattle.std.specs.Prelude.{ℕ, ◌+◌, ◌*◌}

-- the largest number of an edge
abbrev pub max_edge : ℕ
max_edge = 4095

-- how far a coordinate goes to either side of 0
abbrev pub max_coordinate : ℕ
max_coordinate = 1000000

-- how many records a store uses of the memory that it is lent
abbrev pub slots : ℕ
slots = 4000

-- how many strips a sheet may have
abbrev pub max_strips : ℕ
max_strips = 32

-- how many bytes of marks a search is lent: one for each name of the edges 1 to n, and one for 0
abbrev pub marks_for : ℕ → ℕ
marks_for n = 2 * n + 1

-- how many places of a line: one for each name
abbrev pub line_for : ℕ → ℕ
line_for n = 2 * n
