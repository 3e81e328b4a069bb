-- Euler's inequality for the turning of any store, and what the three changes make of sound line work: it stays sound,
-- how its counts change, and whether it stays flat. Assumes nothing.
use Rattle.std.specs.Prelude.{◌≡◌, ℕ, ◌+◌, ◌*◌, ◌≤◌, Bool, true, ◌⊎◌, ◌↔◌, ℤ, pos, Some, None, Option}
use Rattle.turning.specs.Turn.{Turn, Lawful}
use Rattle.turning.specs.Counts.{SameLoop, SamePiece, rounds, loops, edges, pieces, Flat}
use Rattle.chart.specs.declared.point.Point.{Point}
use Rattle.chart.specs.declared.point.End.{End}
use Rattle.chart.specs.Linework.{Linework}
use Rattle.chart.specs.Changes.{hung, may_hang, lifted, cleft, may_cleave}
use Rattle.laws.specs.Keeps.{Sound}

-- Euler's inequality: vertices and loops are together at most the edges and twice the pieces.
abbrev pub Euler : Type 0
Euler = (n : ℕ) (t : Turn) → Lawful n t → rounds n t + loops n t ≤ edges n t + 2 * pieces n t

-- two corners lie on one loop or in two pieces
abbrev pub Meets : Turn → Option ℤ → Option ℤ → Type 0
Meets t None d = Unit {0}
Meets t (Some c) None = Unit {0}
Meets t (Some c) (Some d) = SameLoop t c d ⊎ (¬ SamePiece t c d)

-- t has r rounds, l loops, e edges and p pieces
abbrev pub Counts : ℕ → Turn → ℕ → ℕ → ℕ → ℕ → Type 0
Counts n t r l e p = (rounds n t ≡ r) × (loops n t ≡ l) × (edges n t ≡ e) × (pieces n t ≡ p)

-- what becomes of the counts where t' is t with a new edge between the corners c and d:
-- two pieces become one, or one loop becomes two, or two loops of one piece become one
abbrev pub JoinChanges : ℕ → Turn → Turn → ℤ → ℤ → Type 0
JoinChanges n t t' c d =
    (rounds n t' ≡ rounds n t) × (edges n t' ≡ edges n t + 1)
    × (¬ SamePiece t c d → (loops n t' + 1 ≡ loops n t) × (pieces n t' + 1 ≡ pieces n t))
    × (SameLoop t c d → (loops n t' ≡ loops n t + 1) × (pieces n t' ≡ pieces n t))
    × (SamePiece t c d → ¬ SameLoop t c d → (loops n t' + 1 ≡ loops n t) × (pieces n t' ≡ pieces n t))

-- and where it is t with a new edge between any two ends, by their corners: an end without one is a new point
abbrev pub HangChanges : ℕ → Turn → Turn → Option ℤ → Option ℤ → Type 0
HangChanges n t t' None None = Counts n t' (rounds n t + 2) (loops n t + 1) (edges n t + 1) (pieces n t + 1)
HangChanges n t t' (Some c) None = Counts n t' (rounds n t + 1) (loops n t) (edges n t + 1) (pieces n t)
HangChanges n t t' None (Some d) = Counts n t' (rounds n t + 1) (loops n t) (edges n t + 1) (pieces n t)
HangChanges n t t' (Some c) (Some d) = JoinChanges n t t' c d

-- A new edge that may hang leaves line work sound, and flat line work flat just where its corners meet.
abbrev pub HungFlat : Type 0
HungFlat = (n : ℕ) (l : Linework) → Sound n l → (fits : Point → Point → Bool) (e : ℕ) (a b : End) → may_hang n l fits e a b ≡ true
    → Sound n (hung e a b l) × (Flat n l.turn → Flat n (hung e a b l).turn ↔ Meets l.turn a.corner b.corner)

-- The counts after a new edge.
abbrev pub HungCounts : Type 0
HungCounts = (n : ℕ) (l : Linework) → Sound n l → (fits : Point → Point → Bool) (e : ℕ) (a b : End) → may_hang n l fits e a b ≡ true
    → HangChanges n l.turn (hung e a b l).turn a.corner b.corner

-- An edge lifted leaves line work sound, and flat line work flat.
abbrev pub LiftedFlat : Type 0
LiftedFlat = (n : ℕ) (l : Linework) → Sound n l → (e : ℕ) → l.turn.held (pos e) ≡ true
    → Sound n (lifted e l) × (Flat n l.turn → Flat n (lifted e l).turn)

-- An edge that may be cleft leaves line work sound, and flat line work flat.
abbrev pub CleftFlat : Type 0
CleftFlat = (n : ℕ) (l : Linework) → Sound n l → (fits : Point → Point → Bool) (e f : ℕ) (p : Point) → may_cleave n l fits e f p ≡ true
    → Sound n (cleft e f p l) × (Flat n l.turn → Flat n (cleft e f p l).turn)

-- The counts after an edge is cleft: a vertex and an edge more.
abbrev pub CleftCounts : Type 0
CleftCounts = (n : ℕ) (l : Linework) → Sound n l → (fits : Point → Point → Bool) (e f : ℕ) (p : Point) → may_cleave n l fits e f p ≡ true
    → Counts n (cleft e f p l).turn (rounds n l.turn + 1) (loops n l.turn) (edges n l.turn + 1) (pieces n l.turn)
