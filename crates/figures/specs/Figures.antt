-- Small figures, each given by its rounds, and what is true of each. A loop has its field on its right.
-- Assumes nothing.
use Rattle.std.specs.Prelude.{◌≡◌, cond, List, [], ◌∷◌, ◌++◌, map, ℕ, ℤ, pos, neg_ℤ}
use Rattle.flat.specs.Orbits.{contains}
use Rattle.flat.specs.Turnings.{Turning, turning, Lawful, next, Counts, Flat, joined, removed, cleft}
use Rattle.flat.specs.Whole.{equal}

-- ---- a figure by its rounds: for each vertex the list of the names that start there, clockwise
-- the name +k: the edge k from its start
abbrev pub on : ℕ → ℤ
on k = pos k

-- the name -k: the edge k from its end
abbrev pub back : ℕ → ℤ
back k = neg_ℤ (pos k)

-- the name after x in the list, and first after the last
abbrev pub after : ℤ → ℤ → List ℤ → ℤ
after first x [] = pos 0
after first x (y ∷ []) = cond (equal x y) first (pos 0)
after first x (y ∷ z ∷ zs) = cond (equal x y) z (after first x (z ∷ zs))

-- the name before x in the list, and last before the first
abbrev pub before : ℤ → ℤ → List ℤ → ℤ
before last x [] = pos 0
before last x (y ∷ ys) = cond (equal x y) last (before y x ys)

-- the last name of the list, or x where it is empty
abbrev pub final : ℤ → List ℤ → ℤ
final x [] = x
final x (y ∷ ys) = final y ys

-- the name after x in its round
abbrev pub ahead : List (List ℤ) → ℤ → ℤ
ahead [] x = pos 0
ahead ([] ∷ rs) x = ahead rs x
ahead ((y ∷ ys) ∷ rs) x = cond (contains equal x (y ∷ ys)) (after y x (y ∷ ys)) (ahead rs x)

-- the name before x in its round
abbrev pub behind : List (List ℤ) → ℤ → ℤ
behind [] x = pos 0
behind ([] ∷ rs) x = behind rs x
behind ((y ∷ ys) ∷ rs) x = cond (contains equal x (y ∷ ys)) (before (final y ys) x (y ∷ ys)) (behind rs x)

-- the names of all rounds
abbrev pub all : List (List ℤ) → List ℤ
all [] = []
all (r ∷ rs) = r ++ all rs

-- the turning that has these rounds
abbrev pub figure : List (List ℤ) → Turning ℤ
figure rs = turning (all rs) (ahead rs) (behind rs)

-- ---- what is said of a figure
-- it is lawful, and has r vertices, l loops, e edges and p pieces
abbrev pub Seen : Turning ℤ → ℕ → ℕ → ℕ → ℕ → Type 0
Seen t r l e p = Lawful neg_ℤ t × Counts neg_ℤ equal t r l e p

-- next leads from x along the list, and from its last name to the first
abbrev pub Along : Turning ℤ → ℤ → ℤ → List ℤ → Type 0
Along t first x [] = next neg_ℤ t x ≡ first
Along t first x (y ∷ ys) = (next neg_ℤ t x ≡ y) × Along t first y ys

-- x and the list are one loop, in its order
abbrev pub Loop : Turning ℤ → ℤ → List ℤ → Type 0
Loop t x xs = Along t x x xs

-- ---- one edge
abbrev pub edge : Turning ℤ
edge = figure ((on 1 ∷ []) ∷ (back 1 ∷ []) ∷ [])

-- its loop goes there and back
abbrev pub EdgeIs : Type 0
EdgeIs = Seen edge 2 1 1 1 × Flat neg_ℤ equal edge × Loop edge (on 1) (back 1 ∷ [])

-- ---- the triangle A (0, 0), B (4, 0), C (2, 3) with the edges 1 = AB, 2 = AC, 3 = CB
abbrev pub triangle : Turning ℤ
triangle = figure ((on 1 ∷ on 2 ∷ []) ∷ (back 1 ∷ back 3 ∷ []) ∷ (back 2 ∷ on 3 ∷ []) ∷ [])

-- one loop goes round it outside, the other inside
abbrev pub TriangleIs : Type 0
TriangleIs = Seen triangle 3 2 3 1 × Flat neg_ℤ equal triangle × Loop triangle (on 1) (back 3 ∷ back 2 ∷ []) × Loop triangle (back 1) (on 2 ∷ on 3 ∷ [])

-- ---- the square A (0, 0), B (2, 0), C (2, 2), D (0, 2) with the edges 1 = AB, 2 = AD, 3 = BC, 4 = DC
abbrev pub square : Turning ℤ
square = figure ((on 2 ∷ on 1 ∷ []) ∷ (on 3 ∷ back 1 ∷ []) ∷ (back 3 ∷ back 4 ∷ []) ∷ (on 4 ∷ back 2 ∷ []) ∷ [])

-- one loop goes round it outside, the other inside
abbrev pub SquareIs : Type 0
SquareIs = Seen square 4 2 4 1 × Flat neg_ℤ equal square × Loop square (on 1) (on 3 ∷ back 4 ∷ back 2 ∷ []) × Loop square (on 2) (on 4 ∷ back 3 ∷ back 1 ∷ [])

-- and with the diagonal 5 = AC
abbrev pub halved : Turning ℤ
halved = figure ((on 2 ∷ on 5 ∷ on 1 ∷ []) ∷ (on 3 ∷ back 1 ∷ []) ∷ (back 3 ∷ back 5 ∷ back 4 ∷ []) ∷ (on 4 ∷ back 2 ∷ []) ∷ [])

-- one loop more than the square
abbrev pub HalvedIs : Type 0
HalvedIs = Seen halved 4 3 5 1 × Flat neg_ℤ equal halved

-- the edge 5 hung in the square between two corners of its inner loop
abbrev pub inside : Turning ℤ
inside = joined neg_ℤ equal (on 5) (on 2) (back 3) square

-- and between a corner of its inner loop and one of its outer loop
abbrev pub across : Turning ℤ
across = joined neg_ℤ equal (on 5) (on 2) (back 4) square

-- the first is the square with its diagonal; the second has one loop and is not flat
abbrev pub JoinedIs : Type 0
JoinedIs = Seen inside 4 3 5 1 × Flat neg_ℤ equal inside × (map inside.follower halved.held ≡ map halved.follower halved.held)
    × Seen across 4 1 5 1 × (¬ Flat neg_ℤ equal across)

-- the edge 1 taken off the square
abbrev pub opened : Turning ℤ
opened = removed neg_ℤ equal (on 1) square

-- and split at an inner point, from where 5 goes on
abbrev pub split : Turning ℤ
split = cleft neg_ℤ equal (on 1) (on 5) square

-- both are flat; the first has one loop, the second two
abbrev pub ChangedIs : Type 0
ChangedIs = Seen opened 4 1 3 1 × Flat neg_ℤ equal opened × Seen split 5 2 5 1 × Flat neg_ℤ equal split

-- ---- one vertex, at which two edges cross: drawn on a torus, where the sum of vertices and loops falls short by two
abbrev pub torus : Turning ℤ
torus = figure ((on 1 ∷ on 2 ∷ back 1 ∷ back 2 ∷ []) ∷ [])

-- one loop, not flat
abbrev pub TorusIs : Type 0
TorusIs = Seen torus 1 1 2 1 × (¬ Flat neg_ℤ equal torus)

-- ---- two vertices with three edges between them, in the same order about both
abbrev pub twisted : Turning ℤ
twisted = figure ((on 1 ∷ on 2 ∷ on 3 ∷ []) ∷ (back 1 ∷ back 2 ∷ back 3 ∷ []) ∷ [])

-- one loop, not flat
abbrev pub TwistedIs : Type 0
TwistedIs = Seen twisted 2 1 3 1 × (¬ Flat neg_ℤ equal twisted)

-- and in opposite orders
abbrev pub theta : Turning ℤ
theta = figure ((on 1 ∷ on 2 ∷ on 3 ∷ []) ∷ (back 1 ∷ back 3 ∷ back 2 ∷ []) ∷ [])

-- three loops, flat
abbrev pub ThetaIs : Type 0
ThetaIs = Seen theta 2 3 3 1 × Flat neg_ℤ equal theta

-- ---- the grid of 3 by 3 points, row by row from the south: from each point first the edge to the east, then the one to the north
abbrev pub grid : Turning ℤ
grid = figure (
    (on 2 ∷ on 1 ∷ []) ∷ (on 4 ∷ on 3 ∷ back 1 ∷ []) ∷ (on 5 ∷ back 3 ∷ [])
    ∷ (on 7 ∷ on 6 ∷ back 2 ∷ []) ∷ (on 9 ∷ on 8 ∷ back 4 ∷ back 6 ∷ []) ∷ (on 10 ∷ back 5 ∷ back 8 ∷ [])
    ∷ (on 11 ∷ back 7 ∷ []) ∷ (on 12 ∷ back 9 ∷ back 11 ∷ []) ∷ (back 10 ∷ back 12 ∷ []) ∷ [])

-- four fields and the outside
abbrev pub GridIs : Type 0
GridIs = Seen grid 9 5 12 1 × Flat neg_ℤ equal grid
