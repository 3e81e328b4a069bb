-- Vertices sorted by their points: which have the point of the one before.
-- Assumes nothing.
use Rattle.std.specs.Prelude.{◌≡◌, ℕ, ◌-◌, ◌<◌, ◌≤◌, Bool, true, false, cond, List, length, get_or, pos, Some, None, Option, nat_lt, slice_index_or}
use Rattle.chart.specs.Points.{same_point}
use Rattle.file.specs.Strips.{Strip}
use Rattle.strip_questions.specs.declared.points.Vertex.{Vertex}

-- no vertex: what a list has beyond its end
abbrev pub blank : Vertex
blank = record { point = record { x = pos 0; y = pos 0 }; place = 0 }

-- vertex k of the strip
abbrev pub vertex_at : Strip → ℕ → Vertex
vertex_at s k = record { point = s.point k; place = k }

-- the two vertices have one point
abbrev pub together : Vertex → Vertex → Bool
together u w = same_point u.point w.point

-- the list has the vertices of the strip in the order of their places
pub record Listed (s : Strip) (xs : List Vertex) : Type 0 where
  pub count : length xs ≡ s.vertices
  pub all : (k : ℕ) → k < s.vertices → slice_index_or xs k blank ≡ vertex_at s k

-- entry i has the point of the entry before
abbrev pub repeats : List Vertex → ℕ → Bool
repeats xs i = together (slice_index_or xs (i - 1) blank) (slice_index_or xs i blank)

-- the lower of a place and one that may have been found
abbrev pub lower : Option ℕ → ℕ → ℕ
lower None m = m
lower (Some k) m = cond (nat_lt k m) k m

-- k is the lowest place of a vertex, among the first n entries, that has the point of the entry before; none: there is no such vertex
abbrev pub Lowest : List Vertex → ℕ → Option ℕ → Type 0
Lowest xs n None = (i : ℕ) → 0 < i → i < n → repeats xs i ≡ false
Lowest xs n (Some k) = ((i : ℕ) × (0 < i) × (i < n) × (repeats xs i ≡ true) × ((get_or xs i blank).place ≡ k))
    × ((i : ℕ) → 0 < i → i < n → repeats xs i ≡ true → k ≤ (get_or xs i blank).place)
