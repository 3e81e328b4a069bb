-- The five edits: the questions that each asks, in order, what it makes of the line work, and what holds of its answer.
-- Assumes nothing.
use Rattle.std.specs.Prelude.{◌≡◌, ℕ, Bool, not, ◌&&◌, ◌||◌, ◌↔◌, List, [], ◌∷◌, ◌++◌, ℤ, pos, neg_ℤ, Some, None, Ok, Err, Option}
use Rattle.turning.specs.declared.refusal.Refusal.TheVariants.{ShortBuffers, NumberOutOfRange, NumberInUse, NotThere, PointTaken, SameEnds, NotInside, LoopsOfOnePiece, NoRoom}
use Rattle.turning.specs.Refusals.{Questions, Outcome, granted, outcome}
use Rattle.turning.specs.Turn.{Turn}
use Rattle.turning.specs.Counts.{SameLoop, SamePiece, same_loop, same_piece, Flat}
use Rattle.search.specs.Buffers.{enough}
use Rattle.chart.specs.declared.point.Point.{Point}
use Rattle.chart.specs.declared.point.End.{End}
use Rattle.chart.specs.Points.{on_sheet, same_point, told_west}
use Rattle.chart.specs.Ends.{new_end, after_corner}
use Rattle.chart.specs.Linework.{Linework}
use Rattle.chart.specs.Changes.{numbered, vertex_at, hung, lifted, cleft}
use Rattle.chart.specs.Stores.{Meaning}

-- an edit with its arguments; a join also has what its buffers hold
pub data Edit : Type 0 where
  starts : ℕ → Point → Point → Edit
  sprouts : ℕ → ℤ → Point → Edit
  joins : ℕ → ℤ → ℤ → List ℕ → List ℤ → Edit
  splits : ℕ → ℕ → Point → Edit
  removes : ℕ → Edit

-- the point that is told; the origin where none is
abbrev pub told_point : Option Point → Point
told_point None = record { x = pos 0; y = pos 0 }
told_point (Some p) = p

-- where c starts; not asked where c is not held
abbrev pub start_of : Linework → ℤ → Point
start_of l c = told_point (l.points c)

-- the end of an edge where c starts, directly after it
abbrev pub corner_end : Linework → ℤ → End
corner_end l c = after_corner (start_of l c) c

-- the number is from 1 to n, and unused
abbrev pub number_questions : ℕ → Linework → ℕ → Questions
number_questions n l e = (numbered n e, NumberOutOfRange) ∷ (not (l.turn.held (pos e)), NumberInUse) ∷ []

-- the point is in range and on no vertex
abbrev pub free_point : ℕ → Linework → Point → Bool
free_point n l p = on_sheet p && not (vertex_at n l p)

-- p is east of the western end of the edge and west of the eastern end
abbrev pub inside : Linework → ℕ → Point → Bool
inside l e p = told_west (l.points (pos e)) (Some p) && told_west (Some p) (l.points (neg_ℤ (pos e)))

-- the corners are on one loop, or in different pieces
abbrev pub may_join : ℕ → Turn → ℤ → ℤ → Bool
may_join n t c d = same_loop n t c d || not (same_piece n t c d)

-- the questions of a join between that for its buffers and that for its loops
abbrev pub join_before : ℕ → Linework → ℕ → ℤ → ℤ → Questions
join_before n l e c d =
    number_questions n l e
    ++ ((l.turn.held c && l.turn.held d, NotThere) ∷ (not (same_point (start_of l c) (start_of l d)), SameEnds) ∷ [])

-- and from that on
abbrev pub join_last : ℕ → Meaning → ℤ → ℤ → Questions
join_last n m c d = (may_join n m.lines.turn c d, LoopsOfOnePiece) ∷ (m.fits (start_of m.lines c) (start_of m.lines d), NoRoom) ∷ []

-- the questions of a join once its buffers are long enough
abbrev pub join_questions : ℕ → Meaning → ℕ → ℤ → ℤ → Questions
join_questions n m e c d = join_before n m.lines e c d ++ join_last n m c d

-- the questions of each edit in order, each with its answer and its refusal
abbrev pub questions : ℕ → Meaning → Edit → Questions
questions n m (starts e p q) =
    number_questions n m.lines e
    ++ ((free_point n m.lines p && free_point n m.lines q, PointTaken) ∷ (not (same_point p q), SameEnds) ∷ (m.fits p q, NoRoom) ∷ [])
questions n m (sprouts e c p) =
    number_questions n m.lines e
    ++ ((m.lines.turn.held c, NotThere) ∷ (free_point n m.lines p, PointTaken) ∷ (m.fits (start_of m.lines c) p, NoRoom) ∷ [])
questions n m (joins e c d marks line) = (enough n marks line, ShortBuffers) ∷ join_questions n m e c d
questions n m (splits e f p) =
    number_questions n m.lines f
    ++ ((m.lines.turn.held (pos e), NotThere) ∷ (free_point n m.lines p, PointTaken) ∷ (inside m.lines e p, NotInside) ∷ (m.fits p p, NoRoom) ∷ [])
questions n m (removes e) = (m.lines.turn.held (pos e), NotThere) ∷ []

-- the line work once the edit is done
abbrev pub made : Edit → Linework → Linework
made (starts e p q) l = hung e (new_end p) (new_end q) l
made (sprouts e c p) l = hung e (corner_end l c) (new_end p) l
made (joins e c d marks line) l = hung e (corner_end l c) (corner_end l d) l
made (splits e f p) l = cleft e f p l
made (removes e) l = lifted e l

-- done makes the line work, keeps the frame and leaves fits open; a refusal leaves all
abbrev pub Changed : Outcome → Linework → Meaning → Meaning → Type 0
Changed (Ok _) l m m' = (m'.lines ≡ l) × (m'.frame ≡ m.frame)
Changed (Err _) l m m' = m' ≡ m

-- the questions qs at m, with what a yes to all makes: the answer r, and m' after
pub record Settled (qs : Questions) (to : Linework) (m : Meaning) (r : Outcome) (m' : Meaning) : Type 0 where
  pub told : r ≡ outcome qs
  pub changed : Changed r to m m'

-- the edit q at m answers r and leaves m'
abbrev pub Done : ℕ → Meaning → Edit → Outcome → Meaning → Type 0
Done n m q r m' = Settled (questions n m q) (made q m.lines) m r m'

-- flat line work stays flat
abbrev pub KeepsFlat : ℕ → Meaning → Meaning → Type 0
KeepsFlat n m m' = Flat n m.lines.turn → Flat n m'.lines.turn

-- given says that the refusal for its loops is given: a join that no earlier question turns away gets it exactly when its corners lie on two loops of one piece
abbrev pub Judged : ℕ → Meaning → Edit → Type 0 → Type 0
Judged n m (starts e p q) given = Unit {0}
Judged n m (sprouts e c p) given = Unit {0}
Judged n m (joins e c d marks line) given =
    outcome ((enough n marks line, ShortBuffers) ∷ join_before n m.lines e c d) ≡ granted
    → given ↔ (SamePiece m.lines.turn c d × (¬ SameLoop m.lines.turn c d))
Judged n m (splits e f p) given = Unit {0}
Judged n m (removes e) given = Unit {0}
