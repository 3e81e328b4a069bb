-- The bytes that are written of line work cut at borders: slots in number order, vertices in the order of their lowest slots. Assumes nothing.
use Rattle.std.specs.Prelude.{ℕ, suc, ◌/◌, ◌%◌, Bool, false, cond, ◌||◌, List, [], ◌∷◌, ◌++◌, length, ℤ, ◌==◌}
use Rattle.std.specs.Int.{w16, w32}
use Rattle.std.proofs.Common.{of_z}
use Rattle.std.specs.List.{flat_map}
use Rattle.flat.specs.Orbits.{filter}
use Rattle.flat.specs.Whole.{equal}
use Rattle.turning.specs.Counts.{names}
use Rattle.chart.specs.declared.point.Point.{Point}
use Rattle.chart.specs.Points.{same_point}
use Rattle.chart.specs.Linework.{Linework}
use Rattle.halfedges.specs.Copies.{point_or_origin}
use Rattle.strips.specs.Borders.{strip_count, home_strip, runs_through}
use Rattle.file.specs.Strips.{none}
use Rattle.told.specs.Tells.{list_below}

-- a number in two bytes, the low one first
abbrev pub u16_bytes : ℕ → List ℕ
u16_bytes n = n % 256 ∷ (n / 256 % 256 ∷ [])

-- a signed number in two bytes
abbrev pub i16_bytes : ℤ → List ℕ
i16_bytes z = u16_bytes (of_z w16 z)

-- a signed number in four bytes
abbrev pub i32_bytes : ℤ → List ℕ
i32_bytes z = of_z w32 z % 256 ∷ (of_z w32 z / 256 % 256 ∷ (of_z w32 z / 65536 % 256 ∷ (of_z w32 z / 16777216 % 256 ∷ [])))

-- the names of strip i, slot by slot: those whose edges run through it, in number order, +e before -e
unfoldable pub names_in : ℕ → List ℤ → Linework → ℕ → List ℤ
names_in n bs l i = filter (runs_through bs l i) (names n)

-- the halfedge h starts in strip i
abbrev pub starts_in : List ℤ → Linework → ℕ → ℤ → Bool
starts_in bs l i h = home_strip bs l h == i

-- the place of h in a list of names
abbrev pub place_in : List ℤ → ℤ → ℕ
place_in [] h = 0
place_in (k ∷ ks) h = cond (equal k h) 0 (suc (place_in ks h))

-- the slot that follows that of h, or none where h starts in another strip
abbrev pub follower_slot : ℕ → List ℤ → Linework → ℕ → ℤ → ℕ
follower_slot n bs l i h = cond (starts_in bs l i h) (place_in (names_in n bs l i) (l.turn.follower h)) none

-- the point where h starts
abbrev pub start_of : Linework → ℤ → Point
start_of l h = point_or_origin (l.points h)

-- some name of the list starts at p
abbrev pub starts_at : Linework → List ℤ → Point → Bool
starts_at l [] p = false
starts_at l (h ∷ hs) p = same_point (start_of l h) p || starts_at l hs p

-- the vertices of a list of names, each where its first name stands; those of the names that came before are left out
abbrev pub new_points : Linework → List ℤ → List ℤ → List Point
new_points l before [] = []
new_points l before (h ∷ hs) = cond (starts_at l before (start_of l h)) (new_points l before hs) (start_of l h ∷ new_points l (h ∷ before) hs)

-- the vertices of strip i, in the order of their lowest slots
unfoldable pub points_in : ℕ → List ℤ → Linework → ℕ → List Point
points_in n bs l i = new_points l [] (filter (starts_in bs l i) (names_in n bs l i))

-- the arrays of strip i: names, followers, x, y
unfoldable pub strip_bytes : ℕ → List ℤ → Linework → ℕ → List ℕ
strip_bytes n bs l i =
    flat_map i16_bytes (names_in n bs l i) ++ (flat_map (λ h. u16_bytes (follower_slot n bs l i h)) (names_in n bs l i)
    ++ (flat_map (λ p. i32_bytes p.x) (points_in n bs l i) ++ flat_map (λ p. i32_bytes p.y) (points_in n bs l i)))

-- the sizes of strip i: how many vertices and how many slots
abbrev pub size_bytes : ℕ → List ℤ → Linework → ℕ → List ℕ
size_bytes n bs l i = u16_bytes (length (points_in n bs l i)) ++ u16_bytes (length (names_in n bs l i))

-- the strips, from 1
abbrev pub strip_numbers : List ℤ → List ℕ
strip_numbers bs = list_below suc (strip_count bs)

-- the bytes of the whole file
unfoldable pub written : ℕ → List ℤ → Linework → List ℕ
written n bs l = u16_bytes (strip_count bs) ++ (flat_map (size_bytes n bs l) (strip_numbers bs) ++ (flat_map i32_bytes bs ++ flat_map (strip_bytes n bs l) (strip_numbers bs)))
