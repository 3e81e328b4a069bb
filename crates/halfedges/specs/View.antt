-- The lent records seen as two maps: from a name to its slot, and from a slot to its row. Slots are counted from 1, and 0 is no slot.
-- Assumes nothing.
use Rattle.std.specs.Prelude.{ℕ, zero, suc, ◌+◌, ◌-◌, ◌/◌, ◌%◌, Bool, cond, ◌&&◌, List, [], length, get_or, ℤ, pos, negsuc, neg_ℤ, ◌==◌, int_le, nat_le, slice_index, slice_index_or}
use Rattle.turning.specs.Limits.{max_edge, slots}
use Rattle.chart.specs.Changes.{at}
use Rattle.halfedges.specs.declared.halfedge.Halfedge.{Halfedge}

-- an index and rows: the slot of each name, and the row of each slot
pub record View : Type 0 where
  pub entry : ℤ → ℕ
  pub row : ℕ → Halfedge

-- a row that holds nothing
abbrev pub none : Halfedge
none = record { strip = 0; name = pos 0; follower = pos 0; predecessor = pos 0; x = pos 0; y = pos 0; index = [] }

-- a record without its part of the index
abbrev pub bare : Halfedge → Halfedge
bare r = record { strip = r.strip; name = r.name; follower = r.follower; predecessor = r.predecessor; x = r.x; y = r.y; index = [] }

-- the number of a name's entry
abbrev pub key : ℕ → ℤ → ℕ
key n (pos m) = n + m
key n (negsuc m) = n - suc m

-- h is from -n to n
abbrev pub is_name : ℕ → ℤ → Bool
is_name n h = int_le (neg_ℤ (pos n)) h && int_le h (pos n)

-- entry k stands in record k / 3 at place k % 3
unfoldable pub entry_at : List Halfedge → ℕ → ℕ
entry_at rs k = slice_index (get_or rs (k / 3) none).index (k % 3)

-- the row at slot s, the record at place s - 1
unfoldable pub row_at : List Halfedge → ℕ → Halfedge
row_at rs zero = none
row_at rs (suc i) = bare (slice_index_or rs i none)

-- a memory of cap records and more, with an index for the edges 1 to n; in a shorter one nothing is found
unfoldable pub view : ℕ → ℕ → List Halfedge → View
view n cap rs = record { entry = λ h. cond (nat_le cap (length rs) && is_name n h) (entry_at rs (key n h)) 0; row = row_at rs }

-- the same at the limits
abbrev pub seen : List Halfedge → View
seen rs = view max_edge slots rs

-- ---- what the code does to them
-- slot s gets the row r
abbrev pub written : ℕ → Halfedge → View → View
written s r v = record { entry = v.entry; row = λ i. cond (i == s) r (v.row i) }

-- the name h gets the slot s
abbrev pub noted : ℤ → ℕ → View → View
noted h s v = record { entry = at h s v.entry; row = v.row }

-- the row of a name
abbrev pub row_of : View → ℤ → Halfedge
row_of v h = v.row (v.entry h)

-- the row with another follower
abbrev pub with_follower : ℤ → Halfedge → Halfedge
with_follower f r = record { strip = r.strip; name = r.name; follower = f; predecessor = r.predecessor; x = r.x; y = r.y; index = r.index }

-- the row with another predecessor
abbrev pub with_predecessor : ℤ → Halfedge → Halfedge
with_predecessor p r = record { strip = r.strip; name = r.name; follower = r.follower; predecessor = p; x = r.x; y = r.y; index = r.index }

-- h leads to f
abbrev pub led : ℤ → ℤ → View → View
led h f v = written (v.entry h) (with_follower f (row_of v h)) v

-- h comes after p
abbrev pub trailed : ℤ → ℤ → View → View
trailed h p v = written (v.entry h) (with_predecessor p (row_of v h)) v
