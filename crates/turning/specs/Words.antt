-- The words of the subject, and what the tests and the counts of a turning say of them.
-- Assumes nothing.
use Rattle.std.specs.Prelude.{◌≡◌, ℕ, Bool, true, T, ◌↔◌, List, [], ◌∷◌, length, ℤ, neg_ℤ}
use Rattle.flat.specs.Orbits.{◌∈◌, Reach, Unrelated}
use Rattle.flat.specs.Turnings as figure
use Rattle.flat.specs.Whole.{equal}
use Rattle.turning.specs.Turn.{Turn, Lawful, side}
use Rattle.turning.specs.Counts.{listed, SameRound, SameLoop, SamePiece, same_round, same_loop, same_piece, rounds, loops, edges, pieces, Flat}

-- from a held name, each test tells whether there is a walk: a loop is all that next reaches
abbrev pub TestsTell : Type 0
TestsTell = (n : ℕ) (t : Turn) → Lawful n t → (h k : ℤ) → t.held h ≡ true
    → (T (same_round n t h k) ↔ SameRound t h k) × (T (same_loop n t h k) ↔ SameLoop t h k) × (T (same_piece n t h k) ↔ SamePiece t h k)

-- ---- pieces
-- a set of held names that has with each name the other name of its edge, and all that start at its vertex
pub record Sharing (t : Turn) (S : ℤ → Bool) : Type 0 where
  pub within : (k : ℤ) → T (S k) → t.held k ≡ true
  pub whole : (k : ℤ) → T (S k) → T (S (neg_ℤ k))
  pub shared : (j k : ℤ) → SameRound t j k → T (S j) → T (S k)

-- a piece is a smallest non-empty such set
pub record Piece (t : Turn) (S : ℤ → Bool) : Type 0 where
  pub sharing : Sharing t S
  pub some : (h : ℤ) × T (S h)
  pub smallest : (R : ℤ → Bool) → Sharing t R → (h : ℤ) × T (R h) → ((k : ℤ) → T (R k) → T (S k)) → (k : ℤ) → T (S k) → T (R k)

-- the names that the test finds together with h are a piece, and it is the only one that has h
abbrev pub PieceIs : Type 0
PieceIs = (n : ℕ) (t : Turn) → Lawful n t → (h : ℤ) → t.held h ≡ true
    → Piece t (same_piece n t h) × T (same_piece n t h h)
    × ((S : ℤ → Bool) → Piece t S → T (S h) → (k : ℤ) → T (S k) ↔ T (same_piece n t h k))

-- ---- counts
-- k is h or its negation
abbrev pub SameEdge : ℤ → ℤ → Type 0
SameEdge h k = Reach (neg_ℤ ∷ []) h k

-- ys has exactly one name of each class of held names
pub record OneOfEach (t : Turn) (Same : ℤ → ℤ → Type 0) (ys : List ℤ) : Type 0 where
  pub within : (z : ℤ) → z ∈ ys → t.held z ≡ true
  pub unrelated : Unrelated Same ys
  pub covering : (x : ℤ) → t.held x ≡ true → (y : ℤ) × (y ∈ ys) × Same x y

-- there is such a list, and every one has the length m
abbrev pub Counted : Turn → (ℤ → ℤ → Type 0) → ℕ → Type 0
Counted t Same m = ((ys : List ℤ) × OneOfEach t Same ys) × ((ys : List ℤ) → OneOfEach t Same ys → length ys ≡ m)

-- the four counts are the numbers of classes
abbrev pub CountsAre : Type 0
CountsAre = (n : ℕ) (t : Turn) → Lawful n t
    → Counted t (SameRound t) (rounds n t) × Counted t SameEdge (edges n t) × Counted t (SameLoop t) (loops n t) × Counted t (SamePiece t) (pieces n t)

-- ---- the loop side, and the theory's turning of a list of names
-- the loops, counted on the loop side, are the classes under next
abbrev pub LoopsListed : Type 0
LoopsListed = (n : ℕ) (t : Turn) → Lawful n t → loops n t ≡ figure.loops neg_ℤ equal (listed n t)

-- a turning is flat just where the turning of its list is
abbrev pub FlatListed : Type 0
FlatListed = (n : ℕ) (t : Turn) → Lawful n t → Flat n t ↔ figure.Flat neg_ℤ equal (listed n t)

-- the loop side of the loop side has the rounds of the turning
abbrev pub SideTwice : Type 0
SideTwice = (n : ℕ) (t : Turn) → Lawful n t → rounds n (side (side t)) ≡ rounds n t
