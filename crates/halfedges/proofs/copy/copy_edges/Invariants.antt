use Rattle.std.proofs.Common.{◌≡◌, ℕ, suc}
use Rattle.chart.specs.Linework.{lines_of}
use Rattle.halfedges.specs.View.{seen}
use Rattle.halfedges.proofs.Copying.{CopiedTo}
use Rattle.halfedges.proofs.copy.copy_edges.Given as goal

-- the edges below e are copied
abbrev pub invariant-loop-e : goal.invariant-loop-e
invariant-loop-e g l = (i : ℕ) → l.e ≡ suc i
    → CopiedTo (lines_of g.C.Turning.turn g.C.Chart.points l.chart) i l.filled (seen l.rows)
