-- Two files: an edge through two strips, and the western half of it alone.
-- Assumes nothing.
use Rattle.std.specs.Prelude.{◌≡◌, ℕ, List, [], ◌∷◌, Some, None}
use Rattle.file.specs.declared.fault.Layer.TheVariants.{Seam}
use Rattle.file.specs.Verdict.{shape_verdict}

-- one edge from (-5, 0) to (5, 0), in two strips with the border 0
unfoldable pub one_edge : List ℕ
one_edge = 2 ∷ 0 ∷ 1 ∷ 0 ∷ 2 ∷ 0 ∷ 1 ∷ 0 ∷ 2 ∷ 0 ∷ 0 ∷ 0 ∷ 0 ∷ 0 ∷ 1 ∷ 0 ∷ 255 ∷ 255 ∷ 0 ∷ 0 ∷ 255 ∷ 255 ∷ 251 ∷ 255 ∷ 255 ∷ 255 ∷ 0 ∷ 0 ∷ 0 ∷ 0 ∷ 1 ∷ 0 ∷ 255 ∷ 255 ∷ 255 ∷ 255 ∷ 1 ∷ 0 ∷ 5 ∷ 0 ∷ 0 ∷ 0 ∷ 0 ∷ 0 ∷ 0 ∷ 0 ∷ []

-- its western half, in one strip
unfoldable pub half_edge : List ℕ
half_edge = 1 ∷ 0 ∷ 1 ∷ 0 ∷ 2 ∷ 0 ∷ 1 ∷ 0 ∷ 255 ∷ 255 ∷ 0 ∷ 0 ∷ 255 ∷ 255 ∷ 251 ∷ 255 ∷ 255 ∷ 255 ∷ 0 ∷ 0 ∷ 0 ∷ 0 ∷ []

-- the first is accepted; of the second, the slot of -1 has no eastern neighbour
abbrev pub Specimens : Type 0
Specimens = (shape_verdict one_edge ≡ None) × (shape_verdict half_edge ≡ Some (record { layer = Seam; number = 13; strip = 1; place = 1 }))
