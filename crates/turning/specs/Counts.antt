-- What is counted over a turning, from its links alone.
-- Assumes nothing.
use Rattle.std.specs.Prelude.{◌≡◌, ℕ, zero, suc, ◌+◌, ◌*◌, Bool, List, [], ◌∷◌, ◌++◌, length, ℤ, pos, negsuc, neg_ℤ}
use Rattle.flat.specs.Orbits.{Reach, linked, filter}
use Rattle.flat.specs.Turnings.{Turning, turning}
use Rattle.flat.specs.Turnings as figure
use Rattle.flat.specs.Whole.{equal}
use Rattle.turning.specs.Turn.{Turn, side}

-- the names of the edges 1 to n in number order, +e before -e
unfoldable pub names : ℕ → List ℤ
names zero = []
names (suc n) = names n ++ (pos (suc n) ∷ (negsuc n ∷ []))

-- the names that t holds, in number order
unfoldable pub holding : ℕ → Turn → List ℤ
holding n t = filter t.held (names n)

-- t as a turning of a list of names
abbrev pub listed : ℕ → Turn → Turning ℤ
listed n t = turning (holding n t) t.follower t.predecessor

-- the next name along the loop: the one before the opposite about its start
abbrev pub next : Turn → ℤ → ℤ
next t h = t.predecessor (neg_ℤ h)

-- the name before along the loop
abbrev pub previous : Turn → ℤ → ℤ
previous t h = neg_ℤ (t.follower h)

-- k starts where h starts: follower leads from h to k
abbrev pub SameRound : Turn → ℤ → ℤ → Type 0
SameRound t h k = Reach (t.follower ∷ []) h k

-- next leads from h to k
abbrev pub SameLoop : Turn → ℤ → ℤ → Type 0
SameLoop t h k = Reach (next t ∷ []) h k

-- edges that share vertices lead from h to k
abbrev pub SamePiece : Turn → ℤ → ℤ → Type 0
SamePiece t h k = Reach (t.follower ∷ (neg_ℤ ∷ [])) h k

-- the same as a test: k starts where h starts
unfoldable pub same_round : ℕ → Turn → ℤ → ℤ → Bool
same_round n t h k = linked equal (t.follower ∷ []) (holding n t) h k

-- the same as a test: k lies on the loop of h
unfoldable pub same_loop : ℕ → Turn → ℤ → ℤ → Bool
same_loop n t h k = linked equal (next t ∷ []) (holding n t) h k

-- the same as a test: k lies in the piece of h
unfoldable pub same_piece : ℕ → Turn → ℤ → ℤ → Bool
same_piece n t h k = linked equal (t.follower ∷ (neg_ℤ ∷ [])) (holding n t) h k

-- the rounds of t: its vertices; on the loop side, its loops
unfoldable pub rounds : ℕ → Turn → ℕ
rounds n t = figure.rounds neg_ℤ equal (listed n t)

-- the loops of t: the rounds of its loop side
abbrev pub loops : ℕ → Turn → ℕ
loops n t = rounds n (side t)

-- the edges of t: its names, two and two
unfoldable pub edges : ℕ → Turn → ℕ
edges n t = figure.edges neg_ℤ equal (listed n t)

-- the pieces of t
unfoldable pub pieces : ℕ → Turn → ℕ
pieces n t = figure.pieces neg_ℤ equal (listed n t)

-- vertices + loops = edges + 2 × pieces
abbrev pub Flat : ℕ → Turn → Type 0
Flat n t = rounds n t + loops n t ≡ edges n t + 2 * pieces n t

-- how many names start where h starts
unfoldable pub round_length : ℕ → Turn → ℤ → ℕ
round_length n t h = length (filter (same_round n t h) (holding n t))

-- how many names lie on the loop of h
unfoldable pub loop_length : ℕ → Turn → ℤ → ℕ
loop_length n t h = length (filter (same_loop n t h) (holding n t))
