-- The worked examples, at the real limits.
-- Assumes nothing.
use Rattle.std.specs.Prelude.{◌≡◌, [], ◌∷◌, pos, neg_ℤ, Some, None, Ok, Err}
use Rattle.turning.specs.Limits.{max_edge, slots}
use Rattle.turning.specs.Counts.{next, Flat}
use Rattle.turning.specs.Refusals.{granted, outcome}
use Rattle.turning.specs.declared.refusal.Refusal.TheVariants.{PointTaken, NotInside, LoopsOfOnePiece}
use Rattle.chart.specs.Linework.{no_lines}
use Rattle.chart.specs.Stores.{Meaning}
use Rattle.edits.specs.Edits.{joins, splits, removes, made}
use Rattle.strips.specs.Borders.{strip_of, slots_taken}
use Rattle.strips.specs.Seams.{with_border, cut_questions}
use Rattle.strips.specs.Answers.{told_home}
use Rattle.file.specs.declared.fault.Layer.TheVariants.{Seam, Flat as Whole}
use Rattle.file.specs.Layout.{strips}
use Rattle.file.specs.Verdict.{verdict, told_lines}
use Rattle.specimens.specs.Drawn.{on, back, point, Cycle, Numbers, Answers, Granted, WithBuffers, west_end, east_end, edge, bridge_edits, bridged, parted, C, triangle_edits, triangle}
use Rattle.specimens.specs.Files.{one_edge, half_edge, twisted, theta}

-- ---- one edge, in a file
-- the edge through two strips: its file is accepted, and tells one edge between the two points
abbrev pub EdgeAccepted : Type 0
EdgeAccepted = (verdict one_edge ≡ None) × (strips one_edge ≡ 2) × Numbers (told_lines one_edge).turn 2 1 1 1
    × ((told_lines one_edge).points (on 1) ≡ Some west_end) × ((told_lines one_edge).points (back 1) ≡ Some east_end)

-- its western half alone: the slot of -1 has no eastern neighbour
abbrev pub HalfRefused : Type 0
HalfRefused = verdict half_edge ≡ Some (record { layer = Seam; number = 13; strip = 1; place = 1 })

-- ---- the triangle
-- it can be drawn, by a start, a sprout and a join
abbrev pub TriangleDrawn : Type 0
TriangleDrawn = WithBuffers (λ marks line. Granted (triangle_edits marks line) no_lines)

-- one loop goes round it outside, the other inside, and it is flat
abbrev pub TriangleIs : Type 0
TriangleIs =
    Cycle (next triangle.turn) (on 1) (back 3 ∷ back 2 ∷ []) × Cycle (next triangle.turn) (back 1) (on 2 ∷ on 3 ∷ [])
    × Numbers triangle.turn 3 3 2 1 × Flat max_edge triangle.turn

-- a join between its two loops is refused, one between two corners of its outer loop parts that loop
abbrev pub TriangleJoined : Type 0
TriangleJoined = WithBuffers (λ marks line.
    Answers triangle (joins 4 (on 1) (back 1) marks line) (Err LoopsOfOnePiece) × Answers triangle (joins 4 (on 1) (back 3) marks line) granted
    × Numbers (made (joins 4 (on 1) (back 3) marks line) triangle).turn 3 4 3 1)

-- it may be cut at 2, in a sheet of the full size that has no border yet
abbrev pub CutGranted : Type 0
CutGranted = (m : Meaning) → m.lines ≡ triangle → m.frame ≡ record { borders = []; slots = slots } → outcome (cut_questions max_edge m (pos 2)) ≡ granted

-- there C lies in the eastern strip, the two edges that cross the border take four slots each, and +1 is found across it
abbrev pub TriangleCut : Type 0
TriangleCut = CutGranted
    × (with_border (pos 2) [] ≡ pos 2 ∷ []) × (strip_of (pos 2 ∷ []) C.x ≡ 2) × (slots_taken (pos 2 ∷ []) triangle max_edge ≡ 10)
    × (told_home (pos 2 ∷ []) triangle 2 (on 1) ≡ Ok (record { strip = 1; crossed = 1 }))

-- ---- three edges between two vertices
-- in the same order about both there is one loop: not flat, and the file is refused for it
abbrev pub TwistedRefused : Type 0
TwistedRefused =
    Cycle (told_lines twisted).turn.follower (on 1) (on 2 ∷ on 3 ∷ []) × Cycle (told_lines twisted).turn.follower (back 1) (back 2 ∷ back 3 ∷ [])
    × Numbers (told_lines twisted).turn 2 3 1 1 × (¬ Flat max_edge (told_lines twisted).turn)
    × (verdict twisted ≡ Some (record { layer = Whole; number = 17; strip = 0; place = 0 }))

-- in opposite orders there are three loops: flat, and the file is accepted
abbrev pub ThetaAccepted : Type 0
ThetaAccepted =
    Cycle (told_lines theta).turn.follower (on 1) (on 2 ∷ on 3 ∷ []) × Cycle (told_lines theta).turn.follower (back 1) (back 3 ∷ back 2 ∷ [])
    × Numbers (told_lines theta).turn 2 3 3 1 × Flat max_edge (told_lines theta).turn × (verdict theta ≡ None)

-- ---- one edge and two
-- the loop of an edge alone goes there and back
abbrev pub EdgeIs : Type 0
EdgeIs = Cycle (next edge.turn) (on 1) (back 1 ∷ [])

-- two edges apart; a join makes one piece and one loop of them, and taking it out again two of each
abbrev pub EdgesBridged : Type 0
EdgesBridged = WithBuffers (λ marks line. Granted (bridge_edits marks line) no_lines) × Numbers bridged.turn 4 3 1 1
    × Answers bridged (removes 3) granted × Numbers parted.turn 4 2 2 2

-- an edge is split at a point between its ends in the order from west to east, whether or not it lies on the line of the edge
abbrev pub EdgeSplit : Type 0
EdgeSplit =
    Answers edge (splits 1 2 (point (neg_ℤ (pos 5)) (pos 1))) granted × Answers edge (splits 1 2 (point (pos 5) (pos 0))) (Err PointTaken)
    × Answers edge (splits 1 2 (point (pos 6) (pos 0))) (Err NotInside)

-- all of them
abbrev pub WorkedExamples : Type 0
WorkedExamples =
    EdgeAccepted × HalfRefused
    × TriangleDrawn × TriangleIs × TriangleJoined × TriangleCut
    × TwistedRefused × ThetaAccepted
    × EdgeIs × EdgesBridged × EdgeSplit
