-- The line as an index from the names of a strip to its vertices.
-- Assumes nothing.
use Rattle.std.specs.Prelude.{◌≡◌, ℕ, zero, suc, ◌+◌, ◌-◌, ◌<◌, Bool, true, cond, ◌&&◌, List, ℤ, pos, negsuc, Some, None, Option, nat_lt, slice_index_or}
use Rattle.turning.specs.Limits.{max_edge}
use Rattle.chart.specs.Points.{west}
use Rattle.file.specs.Strips.{Strip, home, low, rounds, vertex, Turned}
use Rattle.file.specs.Questions.{name_good, paired}

-- the questions 6 to 10 of a strip are answered yes
pub record Sound (s : Strip) : Type 0 where
  pub named : (i : ℕ) → i < s.slots → name_good max_edge s i ≡ true
  pub pairs : (i : ℕ) → i < s.slots → paired s i ≡ true
  pub turned : Turned s
  pub round : rounds s ≡ s.vertices

-- where a name has its place in the line: -n to -1, then 1 to n
abbrev pub line_at : ℕ → ℤ → ℕ
line_at n (pos k) = n + (k - 1)
line_at n (negsuc k) = n - suc k

-- the place of the name in slot k
abbrev pub slot_at : Strip → ℕ → ℕ
slot_at s k = line_at max_edge (s.name k)

-- a vertex as it stands in the line: one more than its number, and 0 for none
abbrev pub stored : ℤ → Option ℕ
stored (pos zero) = None
stored (pos (suc v)) = Some v
stored (negsuc v) = None

-- the vertex at a place of the line
abbrev pub vertex_at : List ℤ → ℕ → Option ℕ
vertex_at l p = stored (slice_index_or l p (pos 0))

-- the vertex of a home slot in a round whose lowest slot is below i
abbrev pub vertex_below : Strip → ℕ → ℕ → Option ℕ
vertex_below s i k = cond (home s k && nat_lt (low s k) i) (Some (vertex s k)) None

-- the line has the vertices of the rounds whose lowest slot is below i
abbrev pub NumberedBelow : Strip → ℕ → List ℤ → Type 0
NumberedBelow s i l = (k : ℕ) → k < s.slots → vertex_at l (slot_at s k) ≡ vertex_below s i k

-- the line has the vertex of each home slot, and none for the others
abbrev pub Numbered : Strip → List ℤ → Type 0
Numbered s l = (k : ℕ) → k < s.slots → vertex_at l (slot_at s k) ≡ cond (home s k) (Some (vertex s k)) None

-- the point of the first vertex is west of that of the second, where there are two
abbrev pub westward : Strip → Option ℕ → Option ℕ → Bool
westward s None q = true
westward s (Some p) None = true
westward s (Some p) (Some q) = west (s.point p) (s.point q)
