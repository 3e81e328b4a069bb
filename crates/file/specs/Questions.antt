-- What each question asks, at one place.
-- Assumes nothing.
use Rattle.std.specs.Prelude.{ℕ, zero, suc, ◌+◌, ◌-◌, ◌*◌, Bool, true, false, not, ◌&&◌, ◌||◌, List, length, ℤ, pos, negsuc, neg_ℤ, Some, None, Option, ◌==◌, int_le, int_lt, nat_le, nat_lt}
use Rattle.flat.specs.Orbits.{indicator}
use Rattle.flat.specs.Whole.{equal}
use Rattle.chart.specs.declared.point.Point.{Point}
use Rattle.chart.specs.Points.{within, on_sheet, same_point, west}
use Rattle.turning.specs.Limits.{slots as max_slots, max_strips}
use Rattle.file.specs.Places.{any_below, sum_below}
use Rattle.file.specs.Layout.{strips, vertices_in, slots_in, border, strip_at}
use Rattle.file.specs.Strips.{none, Strip, home, names, home_names, followed, start}

-- ---- of the file
-- 1: two bytes are there, and tell from 1 to the limit of strips
abbrev pub count_good : List ℕ → Bool
count_good b = nat_le 2 (length b) && (nat_le 1 (strips b) && nat_le (strips b) max_strips)

-- 2: the sizes of all strips are there
abbrev pub sizes_there : List ℕ → Bool
sizes_there b = nat_le (2 + 4 * strips b) (length b)

-- 3: strip j has no more vertices than slots, and the slots up to its own are within the limit
abbrev pub size_good : List ℕ → ℕ → Bool
size_good b j = nat_le (vertices_in b j) (slots_in b j) && nat_le (sum_below (slots_in b) (suc j)) max_slots

-- 4: the file is as long as its sizes tell
abbrev pub length_right : List ℕ → Bool
length_right b = length b == strip_at b (strips b)

-- 5: border k is in range and above the one before
abbrev pub border_good : List ℕ → ℕ → Bool
border_good b k = within (border b k) && (k == 0 || int_lt (border b (k - 1)) (border b k))

-- ---- of a strip s
-- z is e or -e, with e from 1 to n
abbrev pub named : ℕ → ℤ → Bool
named n z = (int_le (pos 1) z && int_le z (pos n)) || (int_le (neg_ℤ (pos n)) z && int_le z (negsuc 0))

-- 6: the name in slot i is e or -e, with e from 1 to n
abbrev pub name_good : ℕ → Strip → ℕ → Bool
name_good n s i = named n (s.name i)

-- 7: it stands in no lower slot, and its negation in some slot
abbrev pub paired : Strip → ℕ → Bool
paired s i = not (names s i (s.name i)) && names s s.slots (neg_ℤ (s.name i))

-- 8: the follower is a slot, or none
abbrev pub follower_good : Strip → ℕ → Bool
follower_good s i = nat_lt (s.follower i) s.slots || s.follower i == none

-- 9: a home slot is the follower of exactly one slot, an external one of none
abbrev pub followed_right : Strip → ℕ → Bool
followed_right s i = followed s i == indicator (home s i)

-- x is not west of a border, where there is one
abbrev pub not_west_of : Option ℤ → ℤ → Bool
not_west_of None x = true
not_west_of (Some a) x = int_le a x

-- x is west of a border, where there is one
abbrev pub west_of : Option ℤ → ℤ → Bool
west_of None x = true
west_of (Some a) x = int_lt x a

-- p is in range, and in the strip between two borders: it has its western border and not its eastern one
abbrev pub lies_in : Option ℤ → Option ℤ → Point → Bool
lies_in w e p = on_sheet p && (not_west_of w p.x && west_of e p.x)

-- 11: point k is in range and in the strip
abbrev pub point_good : Option ℤ → Option ℤ → Strip → ℕ → Bool
point_good w e s k = lies_in w e (s.point k)

-- 12: no earlier point is the same
abbrev pub point_new : Strip → ℕ → Bool
point_new s k = not (any_below (λ m. same_point (s.point m) (s.point k)) k)

-- ---- of the seams of n strips
-- the name z, of a slot of strip j, stands also in the neighbour strip: to the west for +e, to the east for -e
abbrev pub beyond : ℕ → (ℕ → Strip) → ℕ → ℤ → Bool
beyond n strip zero (pos e) = false
beyond n strip (suc j) (pos e) = names (strip j) (strip j).slots (pos e)
beyond n strip j (negsuc e) = nat_lt (suc j) n && names (strip (suc j)) (strip (suc j)).slots (negsuc e)

-- 13: the name of an external slot stands also in the neighbour
abbrev pub runs_on : ℕ → (ℕ → Strip) → ℕ → ℕ → Bool
runs_on n strip j i = home (strip j) i || beyond n strip j ((strip j).name i)

-- 14: the name of a home slot does not
abbrev pub starts_here : ℕ → (ℕ → Strip) → ℕ → ℕ → Bool
starts_here n strip j i = not (home (strip j) i && beyond n strip j ((strip j).name i))

-- a home slot of an earlier strip, or a lower one of strip j, has the name z
abbrev pub home_before : (ℕ → Strip) → ℕ → ℕ → ℤ → Bool
home_before strip j i z = any_below (λ k. home_names (strip k) (strip k).slots z) j || home_names (strip j) i z

-- 15: no earlier home slot has the name of a home slot
abbrev pub home_new : (ℕ → Strip) → ℕ → ℕ → Bool
home_new strip j i = not (home (strip j) i && home_before strip j i ((strip j).name i))

-- z is +e
abbrev pub positive : ℤ → Bool
positive z = int_le (pos 1) z

-- slot m is home with the negation of the name in slot i, and starts not east of it
abbrev pub wrong_way : Strip → ℕ → ℕ → Bool
wrong_way s i m = (home s m && equal (s.name m) (neg_ℤ (s.name i))) && not (west (start s i) (start s m))

-- 16: where +e in slot i and -e are both home in the strip, the point of +e is west of that of -e
abbrev pub west_first : Strip → ℕ → Bool
west_first s i = not ((home s i && positive (s.name i)) && any_below (wrong_way s i) s.slots)
