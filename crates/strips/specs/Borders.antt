-- Borders, the strips that they cut a sheet into, and the strips that an edge runs through. Strips count from 1, from west to east.
-- Assumes nothing.
use Rattle.std.specs.Prelude.{ℕ, zero, suc, ◌+◌, ◌-◌, ◌*◌, Bool, true, cond, ◌&&◌, List, [], ◌∷◌, length, ℤ, pos, neg_ℤ, Some, None, Option, int_lt, nat_le, unsigned_abs}
use Rattle.chart.specs.declared.point.Point.{Point}
use Rattle.chart.specs.Points.{within}
use Rattle.chart.specs.Linework.{Linework}

-- each border of the list is in range and above the one before it, of which the first is `last`
abbrev pub rise_after : ℤ → List ℤ → Bool
rise_after last [] = true
rise_after last (b ∷ bs) = within b && int_lt last b && rise_after b bs

-- the borders are in range and rise strictly
abbrev pub rising : List ℤ → Bool
rising [] = true
rising (b ∷ bs) = within b && rise_after b bs

-- how many strips there are
abbrev pub strip_count : List ℤ → ℕ
strip_count bs = suc (length bs)

-- the strip of an x: a strip has its western border and not its eastern one
unfoldable pub strip_of : List ℤ → ℤ → ℕ
strip_of [] x = 1
strip_of (b ∷ bs) x = cond (int_lt x b) 1 (suc (strip_of bs x))

-- how many borders lie between two strips
abbrev pub apart : ℕ → ℕ → ℕ
apart a b = (a - b) + (b - a)

-- the x of a point that is told
abbrev pub x_of : Option Point → ℤ
x_of None = pos 0
x_of (Some p) = p.x

-- the strip where a name starts
abbrev pub home_strip : List ℤ → Linework → ℤ → ℕ
home_strip bs l h = strip_of bs (x_of (l.points h))

-- the first strip of the edge of a name: that of its western end
abbrev pub first_strip : List ℤ → Linework → ℤ → ℕ
first_strip bs l h = home_strip bs l (pos (unsigned_abs h))

-- the last strip of the edge of a name: that of its eastern end
abbrev pub last_strip : List ℤ → Linework → ℤ → ℕ
last_strip bs l h = home_strip bs l (neg_ℤ (pos (unsigned_abs h)))

-- the edge of the name h is held and runs through strip i
abbrev pub runs_through : List ℤ → Linework → ℕ → ℤ → Bool
runs_through bs l i h = l.turn.held h && nat_le (first_strip bs l h) i && nat_le i (last_strip bs l h)

-- how many slots the edge e takes: two in each strip that it runs through
abbrev pub slots_of : List ℤ → Linework → ℕ → ℕ
slots_of bs l e = cond (l.turn.held (pos e)) (2 * suc (apart (first_strip bs l (pos e)) (last_strip bs l (pos e)))) 0

-- how many slots the edges 1 to n take
unfoldable pub slots_taken : List ℤ → Linework → ℕ → ℕ
slots_taken bs l zero = 0
slots_taken bs l (suc n) = slots_of bs l (suc n) + slots_taken bs l n

-- a pair of points fits where an edge between them still finds its slots
abbrev pub fits_in : ℕ → List ℤ → Linework → ℕ → Point → Point → Bool
fits_in n bs l room p q = nat_le (slots_taken bs l n + 2 * suc (apart (strip_of bs p.x) (strip_of bs q.x))) room
