-- What rows mean: a turning and its points, read off the rows that the index names; and the changes of one name.
-- Assumes nothing.
use Rattle.std.specs.Prelude.{◌≡◌, ℕ, zero, suc, ◌+◌, ◌<◌, ◌≤◌, Bool, true, false, cond, not, ◌&&◌, List, [], ◌∷◌, length, ℤ, pos, neg_ℤ, Some, None, Option, ◌==◌, ◌≢◌, nat_le, nat_lt, slice_index_or}
use Rattle.flat.specs.Orbits.{indicator}
use Rattle.flat.specs.Whole.{equal}
use Rattle.turning.specs.Turn.{Turn}
use Rattle.chart.specs.declared.point.Point.{Point}
use Rattle.chart.specs.declared.point.End.{End}
use Rattle.chart.specs.Changes.{at, put}
use Rattle.chart.specs.Linework.{Linework}
use Rattle.laws.specs.Keeps.{Sound}
use Rattle.halfedges.specs.declared.halfedge.Halfedge.{Halfedge}
use Rattle.halfedges.specs.View.{View, none, view, row_of, written, noted, led, trailed}

-- the turning: a name is held where the index has a slot for it
abbrev pub turn_of : View → Turn
turn_of v = record {
  held = λ h. not (v.entry h == 0);
  follower = λ h. (row_of v h).follower;
  predecessor = λ h. (row_of v h).predecessor;
}

-- the point of a row
abbrev pub row_point : Halfedge → Point
row_point r = record { x = r.x; y = r.y }

-- the points of the held names
abbrev pub points_of : View → ℤ → Option Point
points_of v h = cond ((turn_of v).held h) (Some (row_point (row_of v h))) None

-- the line work
abbrev pub lines_in : View → Linework
lines_in v = record { turn = turn_of v; points = points_of v }

-- the strip of each name's row
abbrev pub strips_of : View → ℤ → ℕ
strips_of v h = (row_of v h).strip

-- a home row has a name and a follower; an external row has a name alone
abbrev pub home : Halfedge → Bool
home r = not (equal r.name (pos 0)) && not (equal r.follower (pos 0))

-- rows that are not home have no links
abbrev pub Unlinked : ℕ → View → Type 0
Unlinked cap v = (s : ℕ) → 1 ≤ s → s ≤ cap → home (v.row s) ≡ false → ((v.row s).follower ≡ pos 0) × ((v.row s).predecessor ≡ pos 0)

-- the index is right: an entry leads to a row of its name, and the entry of each home row's name leads to that row
pub record Indexed (cap : ℕ) (v : View) : Type 0 where
  pub inside : (h : ℤ) → nat_le (v.entry h) cap ≡ true
  pub named : (h : ℤ) → (turn_of v).held h ≡ true → (row_of v h).name ≡ h
  pub found : (s : ℕ) → 1 ≤ s → s ≤ cap → home (v.row s) ≡ true → v.entry (v.row s).name ≡ s

-- ---- the changes of one name
-- h goes out of its round, and its row is free
abbrev pub unhooked : ℤ → View → View
unhooked h v = noted h 0 (written (v.entry h) none (trailed (row_of v h).follower (row_of v h).predecessor (led (row_of v h).predecessor (row_of v h).follower v)))

-- the row of a name k, between b and a
abbrev pub fresh : ℕ → ℤ → ℤ → ℤ → Point → Halfedge
fresh strip k a b p = record { strip = strip; name = k; follower = a; predecessor = b; x = p.x; y = p.y; index = [] }

-- k has slot s, and the row there is r
abbrev pub settled : ℕ → ℤ → Halfedge → View → View
settled s k r v = noted k s (written s r v)

-- k comes in at slot s, directly after its corner, or alone where it has none
abbrev pub hooked : ℕ → ℕ → ℤ → Option ℤ → Point → View → View
hooked s strip k None p v = settled s k (fresh strip k k k p) v
hooked s strip k (Some c) p v = settled s k (fresh strip k (row_of v c).follower c p) (trailed (row_of v c).follower k (led c k v))

-- a corner that is given is held
abbrev pub CornerHeld : View → Option ℤ → Type 0
CornerHeld v None = Unit {0}
CornerHeld v (Some c) = (turn_of v).held c ≡ true

-- ---- counts
-- how many of 1 to n pass the test
abbrev pub count : ℕ → (ℕ → Bool) → ℕ
count zero p = 0
count (suc n) p = indicator (p (suc n)) + count n p

-- the row has a name
abbrev pub taken_row : View → ℕ → Bool
taken_row v s = not (equal (v.row s).name (pos 0))

-- the slots 1 to i are all used
abbrev pub Packed : ℕ → View → Type 0
Packed i v = (k : ℕ) → k < i → taken_row v (suc k) ≡ true

-- how many slots are used
unfoldable pub used : ℕ → View → ℕ
used cap v = count cap (taken_row v)

-- the strip and the name k are the strip i and the name h
abbrev pub same_place : ℕ → ℤ → ℕ → ℤ → Bool
same_place strip k i h = equal k h && strip == i

-- the row at slot s has this strip and this name
abbrev pub row_in : View → ℕ → ℤ → ℕ → Bool
row_in v i h s = same_place (v.row s).strip (v.row s).name i h

-- how many slots of strip i have the name h
unfoldable pub slot_count : ℕ → View → ℕ → ℤ → ℕ
slot_count cap v i h = count cap (row_in v i h)

-- how many edges are held
unfoldable pub edge_count : ℕ → Turn → ℕ
edge_count n t = count n (λ e. t.held (pos e))

-- k has come in at some slot of the strip: the meaning has it, the index is right, and one row more is used
pub record Brought (cap strip : ℕ) (k : ℤ) (c : Option ℤ) (p : Point) (v v' : View) : Type 0 where
  pub turn : turn_of v' ≡ put c k (turn_of v)
  pub points : points_of v' ≡ at k (Some p) (points_of v)
  pub strips : strips_of v' ≡ at k strip (strips_of v)
  pub indexed : Indexed cap v'
  pub used : used cap v' ≡ suc (used cap v)
  pub counted : (i : ℕ) (h : ℤ) → (h ≢ pos 0) → slot_count cap v' i h ≡ indicator (same_place strip k i h) + slot_count cap v i h
  pub unlinked : Unlinked cap v → Unlinked cap v'

-- ---- external rows
-- how many external rows strip i has under the name h, of an edge e that starts in strip a and ends in strip b: +e in each later strip, -e in each earlier one
abbrev pub externals : ℕ → ℕ → ℕ → ℕ → ℤ → ℕ
externals e a b i h = indicator (equal (pos e) h && nat_lt a i && nat_le i b) + indicator (equal (neg_ℤ (pos e)) h && nat_le a i && nat_lt i b)

-- v' is v with m external rows more, c i h of them in strip i under the name h
pub record Planted (cap m : ℕ) (c : ℕ → ℤ → ℕ) (v v' : View) : Type 0 where
  pub lines : lines_in v' ≡ lines_in v
  pub strips : strips_of v' ≡ strips_of v
  pub used : used cap v' ≡ m + used cap v
  pub counted : (i : ℕ) (h : ℤ) → (h ≢ pos 0) → slot_count cap v' i h ≡ c i h + slot_count cap v i h

-- ---- whole memories
-- the records are enough, the index is right, and the line work is lawful and placed
pub record Core (n cap : ℕ) (rs : List Halfedge) : Type 0 where
  pub long : cap ≤ length rs
  pub indexed : Indexed cap (view n cap rs)
  pub sound : Sound n (lines_in (view n cap rs))

-- the edge e between two ends that stand west to east
abbrev pub hung_between : ℕ → End → End → Linework → Linework
hung_between e a b l = record {
  turn = put b.corner (neg_ℤ (pos e)) (put a.corner (pos e) l.turn);
  points = at (neg_ℤ (pos e)) (Some b.point) (at (pos e) (Some a.point) l.points);
}

-- a record that holds nothing, with its part of an empty index
abbrev pub blank : Halfedge
blank = record { strip = 0; name = pos 0; follower = pos 0; predecessor = pos 0; x = pos 0; y = pos 0; index = 0 ∷ 0 ∷ 0 ∷ [] }

-- every record is blank
abbrev pub Blank : List Halfedge → Type 0
Blank rs = (k : ℕ) → k < length rs → slice_index_or rs k none ≡ blank
