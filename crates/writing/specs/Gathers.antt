-- What is gathered of one strip before it is written. Assumes nothing.
use Rattle.std.specs.Prelude.{◌≡◌, ℕ, List, map, length, ℤ, slice_index}
use Rattle.flat.specs.Orbits.{◌∈◌}
use Rattle.chart.specs.Linework.{Linework}
use Rattle.file.specs.declared.view.Sizes.{Sizes}
use Rattle.search.specs.Marks.{place}
use Rattle.writing.specs.Written.{names_in, place_in, start_of, points_in}

-- the sizes of strip i
abbrev pub size_of : ℕ → List ℤ → Linework → ℕ → Sizes
size_of n bs l i = record { vertices = length (points_in n bs l i); slots = length (names_in n bs l i) }

-- the one list has the names of strip i; the other, for each vertex, a name that starts there
pub record Gathered (n : ℕ) (bs : List ℤ) (l : Linework) (i : ℕ) (names firsts : List ℤ) : Type 0 where
  pub named : names ≡ names_in n bs l i
  pub started : map (start_of l) firsts ≡ points_in n bs l i

-- at the place of each name of the list, where in the list it stands
abbrev pub Slotted : ℕ → List ℤ → List ℕ → Type 0
Slotted n names slots = (h : ℤ) → h ∈ names → slice_index slots (place n h) ≡ place_in names h
