-- The line work of the examples, drawn by edits from none, and the words in which the examples are told.
-- Assumes nothing.
use Rattle.std.specs.Prelude.{◌≡◌, ℕ, true, List, [], ◌∷◌, ℤ, pos, neg_ℤ}
use Rattle.turning.specs.Limits.{max_edge}
use Rattle.turning.specs.Turn.{Turn}
use Rattle.turning.specs.Refusals.{Outcome, granted, outcome}
use Rattle.search.specs.Buffers.{enough}
use Rattle.questions.specs.declared.Counts.{Counts}
use Rattle.questions.specs.Counting.{counted}
use Rattle.chart.specs.declared.point.Point.{Point}
use Rattle.chart.specs.Linework.{Linework, no_lines}
use Rattle.chart.specs.Stores.{Meaning}
use Rattle.edits.specs.Edits.{Edit, starts, sprouts, joins, removes, questions, made}

-- ---- words
-- the name +k: the edge k from its western end
abbrev pub on : ℕ → ℤ
on k = pos k

-- the name -k: the edge k from its eastern end
abbrev pub back : ℕ → ℤ
back k = neg_ℤ (pos k)

-- the point (x, y)
abbrev pub point : ℤ → ℤ → Point
point x y = record { x = x; y = y }

-- the step leads from x along the list, and from its last name to the first
abbrev pub Along : (ℤ → ℤ) → ℤ → ℤ → List ℤ → Type 0
Along step first x [] = step x ≡ first
Along step first x (y ∷ ys) = (step x ≡ y) × Along step first y ys

-- the step leads from x along the list and back to x
abbrev pub Cycle : (ℤ → ℤ) → ℤ → List ℤ → Type 0
Cycle step x xs = Along step x x xs

-- so many vertices, edges, loops and pieces
abbrev pub so_many : ℕ → ℕ → ℕ → ℕ → Counts
so_many v e l p = record { vertices = v; edges = e; loops = l; pieces = p }

-- the turning t has so many of them
abbrev pub Numbers : Turn → ℕ → ℕ → ℕ → ℕ → Type 0
Numbers t v e l p = counted max_edge t ≡ so_many v e l p

-- at any meaning with the line work l, where every pair of points fits, the edit q answers r
abbrev pub Answers : Linework → Edit → Outcome → Type 0
Answers l q r = (m : Meaning) → m.lines ≡ l → ((a b : Point) → m.fits a b ≡ true) → outcome (questions max_edge m q) ≡ r

-- what edits make one after the other
abbrev pub drawn : List Edit → Linework → Linework
drawn [] l = l
drawn (q ∷ qs) l = drawn qs (made q l)

-- they are granted one after the other
abbrev pub Granted : List Edit → Linework → Type 0
Granted [] l = Unit {0}
Granted (q ∷ qs) l = Answers l q granted × Granted qs (made q l)

-- said of all buffers that are long enough for a join
abbrev pub WithBuffers : (List ℕ → List ℤ → Type 0) → Type 0
WithBuffers P = (marks : List ℕ) (line : List ℤ) → enough max_edge marks line ≡ true → P marks line

-- ---- line work; what a join makes does not depend on its buffers, so they are left empty here
-- the western end of an edge
abbrev pub west_end : Point
west_end = point (neg_ℤ (pos 5)) (pos 0)

-- its eastern end
abbrev pub east_end : Point
east_end = point (pos 5) (pos 0)

-- edge 1 alone, between them
unfoldable pub edge : Linework
edge = drawn (starts 1 west_end east_end ∷ []) no_lines

-- edge 1, edge 2 in a piece of its own, and edge 3 between the western ends of the two
abbrev pub bridge_edits : List ℕ → List ℤ → List Edit
bridge_edits marks line = starts 1 west_end east_end ∷ starts 2 (point (pos 0) (pos 7)) (point (pos 3) (pos 7)) ∷ joins 3 (on 1) (on 2) marks line ∷ []

-- the two edges with edge 3 between them
unfoldable pub bridged : Linework
bridged = drawn (bridge_edits [] []) no_lines

-- and without it again
unfoldable pub parted : Linework
parted = made (removes 3) bridged

-- the corners of the triangle: the western one
abbrev pub A : Point
A = point (pos 0) (pos 0)

-- the eastern one
abbrev pub B : Point
B = point (pos 4) (pos 0)

-- the northern one
abbrev pub C : Point
C = point (pos 2) (pos 3)

-- its edges 1 = AB, 2 = AC, 3 = CB
abbrev pub triangle_edits : List ℕ → List ℤ → List Edit
triangle_edits marks line = starts 1 A B ∷ sprouts 2 (on 1) C ∷ joins 3 (back 2) (back 1) marks line ∷ []

-- the triangle
unfoldable pub triangle : Linework
triangle = drawn (triangle_edits [] []) no_lines
