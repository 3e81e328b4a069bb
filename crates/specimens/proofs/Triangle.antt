-- The triangle: drawn, walked, joined and cut.
-- Assumes nothing.
use Rattle.std.proofs.Common.{◌≡◌, ℕ, true, List, [], ◌∷◌, ℤ, pos, Err, refl, ◌∙◌, arith}
use Rattle.flat.specs.Orbits.{orbits, classes, linked, closure}
use Rattle.turning.specs.Limits.{max_edge}
use Rattle.turning.specs.declared.refusal.Refusal.TheVariants.{LoopsOfOnePiece}
use Rattle.turning.specs.Refusals.{granted}
use Rattle.turning.specs.Counts.{names, holding, rounds, edges, pieces, same_loop, same_piece}
use Rattle.search.specs.Buffers.{enough}
use Rattle.questions.specs.Counting.{counted}
use Rattle.chart.specs.Linework.{no_lines}
use Rattle.edits.specs.Edits.{joins, made}
use Rattle.strips.specs.Borders.{strip_of, slots_taken}
use Rattle.strips.specs.Seams.{with_border, is_border, crossings}
use Rattle.specimens.specs.Drawn.{on, back, triangle_edits, triangle, so_many, Numbers}
use Rattle.specimens.specs.Examples.{TriangleDrawn, TriangleIs, TriangleJoined, CutGranted, TriangleCut}
use Rattle.specimens.proofs.Limits.{Bounded, slots_limit, crossings_limit}
use Rattle.specimens.proofs.Counting.{counted_at, flat_from}
use Rattle.specimens.proofs.Bounds.{none_bounded, made_bounded, drawn_bounded}
use Rattle.specimens.proofs.Asked.{answers, SmallAnswers, InTurn, Grants, granted_all}

drawn_small : (marks : List ℕ) (line : List ℤ) → enough max_edge marks line ≡ true → InTurn (Grants 4) (triangle_edits marks line) no_lines
unfolding names holding same_loop same_piece linked closure
drawn_small marks line e =
    ((omega arith, tt, λ f. refl), ((omega arith, tt, λ f. refl), ((omega arith, e, λ f. refl), tt)))

pub triangle_drawn : TriangleDrawn
triangle_drawn marks line e = granted_all 4 (triangle_edits marks line) no_lines (none_bounded 4) (omega arith) (drawn_small marks line e)

triangle_bounded : Bounded 4 triangle.turn
unfolding triangle
triangle_bounded = drawn_bounded 4 (triangle_edits [] []) no_lines (omega arith, (omega arith, (omega arith, tt))) (none_bounded 4)

counted_small : counted 4 triangle.turn ≡ so_many 3 3 2 1
unfolding triangle names holding rounds edges pieces orbits classes linked closure
counted_small = refl

triangle_counted : Numbers triangle.turn 3 3 2 1
triangle_counted = counted_at 4 triangle.turn 3 3 2 1 triangle_bounded (omega arith) counted_small

pub triangle_is : TriangleIs
unfolding triangle
triangle_is = ((refl, (refl, refl)), (refl, (refl, refl)), triangle_counted, flat_from triangle.turn 3 3 2 1 triangle_counted refl)

-- ---- a fourth edge
across_refused : (marks : List ℕ) (line : List ℤ) → SmallAnswers 4 triangle (joins 4 (on 1) (back 1) marks line) (Err LoopsOfOnePiece)
unfolding triangle names holding same_loop same_piece linked closure
across_refused marks line f = refl

along_granted : (marks : List ℕ) (line : List ℤ) → SmallAnswers 4 triangle (joins 4 (on 1) (back 3) marks line) granted
unfolding triangle names holding same_loop same_piece linked closure
along_granted marks line f = refl

along_counted : (marks : List ℕ) (line : List ℤ) → counted 4 (made (joins 4 (on 1) (back 3) marks line) triangle).turn ≡ so_many 3 4 3 1
unfolding triangle names holding rounds edges pieces orbits classes linked closure
along_counted marks line = refl

pub triangle_joined : TriangleJoined
triangle_joined marks line e = (
  answers 4 triangle (joins 4 (on 1) (back 1) marks line) (Err LoopsOfOnePiece) triangle_bounded (omega arith) (omega arith) e (across_refused marks line),
  answers 4 triangle (joins 4 (on 1) (back 3) marks line) granted triangle_bounded (omega arith) (omega arith) e (along_granted marks line),
  counted_at 4 (made (joins 4 (on 1) (back 3) marks line) triangle).turn 3 4 3 1 (made_bounded 4 (joins 4 (on 1) (back 3) marks line) triangle (omega arith) triangle_bounded) (omega arith) (along_counted marks line),
)

-- ---- a border
slots_small : (slots_taken [] triangle 4 ≡ 6) × (slots_taken (pos 2 ∷ []) triangle 4 ≡ 10) × (crossings (pos 2) triangle 4 ≡ 2)
unfolding triangle slots_taken strip_of crossings
slots_small = (refl, refl, refl)

slots_at : (bs : List ℤ) → slots_taken bs triangle max_edge ≡ slots_taken bs triangle 4
slots_at = slots_limit 4 max_edge triangle triangle_bounded (omega arith)

cut_granted : CutGranted
unfolding is_border
cut_granted m e f = simp (e, f, slots_at [] ∙ slots_small.0, crossings_limit 4 max_edge triangle triangle_bounded (omega arith) (pos 2) ∙ slots_small.2)

pub triangle_cut : TriangleCut
unfolding triangle with_border strip_of
triangle_cut = (cut_granted, refl, refl, slots_at (pos 2 ∷ []) ∙ slots_small.1, refl)
