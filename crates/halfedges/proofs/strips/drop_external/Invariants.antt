use Rattle.std.proofs.Common.{◌≡◌, ℕ, suc, ◌<◌, ◌++◌, drop, false}
use Rattle.turning.specs.Limits.{max_edge, slots}
use Rattle.halfedges.specs.View.{none, seen}
use Rattle.halfedges.specs.Rows.{home, strips_of, lines_in, Core}
use Rattle.halfedges.proofs.strips.drop_external.Given as goal

-- the rows up to slot i are home or free, and the meaning is as it was
abbrev pub invariant-loop-row : goal.invariant-loop-row
invariant-loop-row l =
    let rs = l.row-items ++ drop slots l.fn.rows in
    Core max_edge slots rs
    × (lines_in (seen rs) ≡ lines_in (seen l.fn.rows))
    × (strips_of (seen rs) ≡ strips_of (seen l.fn.rows))
    × ((k : ℕ) → k < l.row-index → home ((seen rs).row (suc k)) ≡ false → (seen rs).row (suc k) ≡ none)
