use Rattle.std.proofs.Common.{◌≡◌, ℕ, suc}
use Rattle.turning.specs.Limits.{max_edge, slots}
use Rattle.halfedges.specs.View.{seen}
use Rattle.halfedges.specs.Rows.{strips_of, lines_in, Packed, used, slot_count, Unlinked, Core}
use Rattle.strips.proofs.Planting.{Planting}
use Rattle.strips.proofs.recut.plant_all.Given as goal

-- the edges below e have their external rows, and the meaning is as it was
abbrev pub invariant-loop-e : goal.invariant-loop-e
invariant-loop-e l = Packed l.known (seen l.rows) × ((i : ℕ) → l.e ≡ suc i
    → Core max_edge slots l.rows
    × (lines_in (seen l.rows) ≡ lines_in (seen l.initial.rows))
    × Unlinked slots (seen l.rows)
    × Planting max_edge l._borders.items (lines_in (seen l.initial.rows)) i (strips_of (seen l.rows)) (slot_count slots (seen l.rows)) (used slots (seen l.rows)))
