use Rattle.std.proofs.Common.{◌-◌, ◌*◌}
use Rattle.turning.specs.Limits.{max_edge, slots}
use Rattle.halfedges.specs.View.{seen}
use Rattle.halfedges.specs.Rows.{Packed, Unlinked, externals, Planted, Core}
use Rattle.halfedges.proofs.external.plant_edge_past.Given as goal

-- the rows over the borders west of strip i are there
abbrev pub invariant-loop-i : goal.invariant-loop-i
invariant-loop-i l =
    Core max_edge slots l.rows
    × Planted slots (2 * (l.i - l.west)) (externals l.edge l.west l.i) (seen l.initial.rows) (seen l.rows)
    × (Unlinked slots (seen l.initial.rows) → Unlinked slots (seen l.rows))
    × Packed l.known (seen l.rows)
