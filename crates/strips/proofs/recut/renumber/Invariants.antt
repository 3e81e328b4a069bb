use Rattle.std.proofs.Common.{◌≡◌, ℕ, suc, ◌<◌, ◌++◌, drop, true}
use Rattle.turning.specs.Limits.{max_edge, slots}
use Rattle.halfedges.specs.View.{seen}
use Rattle.halfedges.specs.Rows.{home, lines_in, Core}
use Rattle.halfedges.specs.Homes.{HomesAlone}
use Rattle.strips.specs.Borders.{strip_of}
use Rattle.strips.proofs.recut.renumber.Given as goal

-- the home rows up to slot i are in their strips, and the meaning is as it was
abbrev pub invariant-loop-row : goal.invariant-loop-row
invariant-loop-row l =
    let rs = l.row-items ++ drop slots l.fn.rows in
    Core max_edge slots rs
    × (lines_in (seen rs) ≡ lines_in (seen l.fn.rows))
    × HomesAlone slots (seen rs)
    × ((k : ℕ) → k < l.row-index → home ((seen rs).row (suc k)) ≡ true → ((seen rs).row (suc k)).strip ≡ strip_of l.borders.items ((seen rs).row (suc k)).x)
