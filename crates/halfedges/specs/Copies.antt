-- The rows of a whole chart. Assumes nothing.
use Rattle.std.specs.Prelude.{◌≡◌, ℕ, ◌+◌, ◌<◌, ◌≤◌, Bool, true, false, ◌&&◌, ℤ, pos, neg_ℤ, Some, None, Option, nat_le, unsigned_abs}
use Rattle.turning.specs.Turn.{Turn}
use Rattle.chart.specs.declared.point.Point.{Point}
use Rattle.chart.specs.Linework.{Linework}
use Rattle.halfedges.specs.declared.halfedge.Halfedge.{Halfedge}
use Rattle.halfedges.specs.View.{View, none, row_of}
use Rattle.halfedges.specs.Rows.{fresh, settled}

-- the point that is told, or the origin where none is
abbrev pub point_or_origin : Option Point → Point
point_or_origin None = record { x = pos 0; y = pos 0 }
point_or_origin (Some p) = p

-- the row of a name, home in the one strip
abbrev pub row_for : Linework → ℤ → Halfedge
row_for l h = fresh 1 h (l.turn.follower h) (l.turn.predecessor h) (point_or_origin (l.points h))

-- both names of the edge e come in at the two slots after s
abbrev pub copied_edge : Linework → ℕ → ℕ → View → View
copied_edge l e s v = settled (s + 2) (neg_ℤ (pos e)) (row_for l (neg_ℤ (pos e))) (settled (s + 1) (pos e) (row_for l (pos e)) v)

-- the names of the edges 1 to i that are held
abbrev pub held_to : Turn → ℕ → ℤ → Bool
held_to t i h = t.held h && nat_le (unsigned_abs h) i

-- exactly the names that are done stand in the slots 1 to k, each with its row of the chart
pub record Copied (l : Linework) (done : ℤ → Bool) (k : ℕ) (v : View) : Type 0 where
  pub low : (h : ℤ) → done h ≡ true → 1 ≤ v.entry h
  pub high : (h : ℤ) → done h ≡ true → v.entry h ≤ k
  pub right : (h : ℤ) → done h ≡ true → row_of v h ≡ row_for l h
  pub others : (h : ℤ) → done h ≡ false → v.entry h ≡ 0
  pub filled : (s : ℕ) → 1 ≤ s → s ≤ k → done (v.row s).name ≡ true
  pub found : (s : ℕ) → 1 ≤ s → s ≤ k → v.entry (v.row s).name ≡ s
  pub free : (s : ℕ) → k < s → v.row s ≡ none
  pub no_slot : v.row 0 ≡ none
