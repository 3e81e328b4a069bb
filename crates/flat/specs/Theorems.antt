-- The theorems, for names A that `same` tells apart and of which neg tells the other name of an edge.
-- Assumes nothing.
use Rattle.std.specs.Prelude.{◌≡◌, ℕ, suc, ◌+◌, ◌*◌, ◌<◌, ◌≤◌, Bool, T, ◌⊎◌, ◌↔◌, List, [], ◌∷◌, length}
use Rattle.std.proofs.Math.Option.{Option}
use Rattle.flat.specs.Orbits.{◌∈◌, Reach, ClosedUnder, Reversible, Unrelated, linked, orbits, spliced, Distinct, iterate, trail, filter, classes}
use Rattle.flat.specs.Turnings.{Turning, Lawful, Free, SameRound, SameLoop, SamePiece, rounds, loops, pieces, edges, Counts, Flat, splice, Effect, started, sprouted, joined, removed, cleft, hung, Corner, TwoCorners, Fits, JoinChanges, HangChanges, skipping, after_hang, after_lift, after_cleave, With, Without, Leads, lawful?}

module _ (A : Type 0) (same : A → A → Bool) (neg : A → A) where
  -- ---- walks and classes
  -- The test `linked` tells whether there is a walk.
  abbrev pub LinkedIsWalk : Type 0
  LinkedIsWalk = (ss : List (A → A)) (held : List A) → ClosedUnder ss held → (x y : A) → x ∈ held → T (linked same ss held x y) ↔ Reach ss x y

  -- Every list that has just one held name of each class is as long as `orbits` says.
  abbrev pub OrbitsCount : Type 0
  OrbitsCount = (ss : List (A → A)) (held : List A) → ClosedUnder ss held → Reversible ss held
      → (ys : List A) → ((z : A) → z ∈ ys → z ∈ held) → Unrelated (Reach ss) ys → ((x : A) → x ∈ held → (y : A) × (y ∈ ys) × Reach ss x y)
      → length ys ≡ orbits same ss held

  -- And there is such a list.
  abbrev pub OrbitsFound : Type 0
  OrbitsFound = (ss : List (A → A)) (held : List A) → ClosedUnder ss held → Reversible ss held
      → (ys : List A) × (length ys ≡ orbits same ss held) × ((z : A) → z ∈ ys → z ∈ held) × Unrelated (Reach ss) ys
      × ((x : A) → x ∈ held → (y : A) × (y ∈ ys) × Reach ss x y)

  -- The order in which the names stand in the list does not matter.
  abbrev pub OrbitsOrder : Type 0
  OrbitsOrder = (ss : List (A → A)) (held held' : List A) → ClosedUnder ss held → Reversible ss held → ((x : A) → (x ∈ held) ↔ (x ∈ held'))
      → orbits same ss held ≡ orbits same ss held'

  -- To swap the images of two names under a one-to-one step makes one orbit of two, or two of one.
  abbrev pub SpliceOrbits : Type 0
  SpliceOrbits = (f : A → A) (held : List A) → ((x : A) → x ∈ held → f x ∈ held) → ((x y : A) → x ∈ held → y ∈ held → f x ≡ f y → x ≡ y)
      → (a b : A) → a ∈ held → b ∈ held → ¬ (a ≡ b)
      → (¬ Reach (f ∷ []) a b → suc (orbits same (spliced same a b f ∷ []) held) ≡ orbits same (f ∷ []) held)
      × (Reach (f ∷ []) a b → orbits same (spliced same a b f ∷ []) held ≡ suc (orbits same (f ∷ []) held))

  -- ---- turnings
  -- The edges are half the names.
  abbrev pub EdgesArePairs : Type 0
  EdgesArePairs = (t : Turning A) → Lawful neg t → 2 * edges neg same t ≡ length t.held

  -- Euler's inequality: vertices and loops are together at most the edges and twice the pieces.
  abbrev pub Euler : Type 0
  Euler = (t : Turning A) → Lawful neg t → rounds neg same t + loops neg same t ≤ edges neg same t + 2 * pieces neg same t

  -- A splice at two names of different rounds makes one round of two, and does one of three things to loops and pieces.
  abbrev pub SpliceOfTwo : Type 0
  SpliceOfTwo = (t : Turning A) → Lawful neg t → (a b : A) → a ∈ t.held → b ∈ t.held → ¬ SameRound neg t a b
      → Lawful neg (splice neg same a b t) × (suc (rounds neg same (splice neg same a b t)) ≡ rounds neg same t) × Effect neg same t (splice neg same a b t) a b
      × SameRound neg (splice neg same a b t) a b

  -- A splice at two names of one round makes two rounds of it.
  abbrev pub SpliceOfOne : Type 0
  SpliceOfOne = (t : Turning A) → Lawful neg t → (a b : A) → a ∈ t.held → b ∈ t.held → ¬ (a ≡ b) → SameRound neg t a b
      → (rounds neg same (splice neg same a b t) ≡ suc (rounds neg same t)) × (¬ SameRound neg (splice neg same a b t) a b)

  -- Turnings of the same names, in any order, with the same followers have the same counts.
  abbrev pub Alike : Type 0
  Alike = (t t' : Turning A) → Lawful neg t → Lawful neg t' → ((x : A) → x ∈ t.held → x ∈ t'.held) → ((x : A) → x ∈ t'.held → x ∈ t.held)
      → Leads neg same t t'.follower → Counts neg same t (rounds neg same t') (loops neg same t') (edges neg same t') (pieces neg same t')

  -- The test for a turning that is written out is right.
  abbrev pub TestIsLaw : Type 0
  TestIsLaw = (t : Turning A) → T (lawful? neg same t) → Lawful neg t

  -- Where a test tells whether two names are at one point, and that is whether they share a round, the points are as many as the rounds.
  abbrev pub PointsAreRounds : Type 0
  PointsAreRounds = (t : Turning A) → Lawful neg t → (r : A → A → Bool) → ((x y : A) → x ∈ t.held → y ∈ t.held → T (r x y) ↔ SameRound neg t x y)
      → classes r t.held ≡ rounds neg same t

  -- ---- what the changes keep
  -- A new edge between two new points leaves a turning lawful, and flat.
  abbrev pub StartKeeps : Type 0
  StartKeeps = (t : Turning A) → Lawful neg t → (e : A) → Free neg same e t
      → Lawful neg (started neg same e t) × (Flat neg same t → Flat neg same (started neg same e t))

  -- A new edge from a corner to a new point leaves a turning lawful, and flat.
  abbrev pub SproutKeeps : Type 0
  SproutKeeps = (t : Turning A) → Lawful neg t → (e : A) → Free neg same e t → (c : A) → c ∈ t.held
      → Lawful neg (sprouted neg same e c t) × (Flat neg same t → Flat neg same (sprouted neg same e c t))

  -- A new edge between two corners leaves a turning flat where they lie on one loop or in two pieces, and not where they lie on two loops of one piece.
  abbrev pub JoinKeeps : Type 0
  JoinKeeps = (t : Turning A) → Lawful neg t → (e : A) → Free neg same e t → (c d : A) → c ∈ t.held → d ∈ t.held
      → Lawful neg (joined neg same e c d t)
      × (Flat neg same t → SameLoop neg t c d ⊎ (¬ SamePiece neg t c d) → Flat neg same (joined neg same e c d t))
      × (Flat neg same t → SamePiece neg t c d → ¬ SameLoop neg t c d → ¬ Flat neg same (joined neg same e c d t))

  -- A new edge between any two ends leaves a flat turning flat just where its corners, if it has two, lie on one loop or in two pieces.
  abbrev pub HangKeeps : Type 0
  HangKeeps = (t : Turning A) → Lawful neg t → (e : A) → Free neg same e t → (c d : Option A) → Corner neg same t c → Corner neg same t d
      → Lawful neg (hung neg same e c d t) × (Flat neg same t → Flat neg same (hung neg same e c d t) ↔ Fits neg same t c d)

  -- To take any edge off leaves a turning lawful, and flat.
  abbrev pub RemoveKeeps : Type 0
  RemoveKeeps = (t : Turning A) → Lawful neg t → (e : A) → e ∈ t.held
      → Lawful neg (removed neg same e t) × (Flat neg same t → Flat neg same (removed neg same e t))

  -- To split an edge at an inner point leaves a turning lawful, and flat.
  abbrev pub CleaveKeeps : Type 0
  CleaveKeeps = (t : Turning A) → Lawful neg t → (e : A) → e ∈ t.held → (f : A) → Free neg same f t
      → Lawful neg (cleft neg same e f t) × (Flat neg same t → Flat neg same (cleft neg same e f t))

  -- ---- the counts after the changes, whether or not the turning is flat
  -- A new edge between two new points: two vertices, a loop, an edge and a piece more.
  abbrev pub StartCounts : Type 0
  StartCounts = (t : Turning A) → Lawful neg t → (e : A) → Free neg same e t
      → Counts neg same (started neg same e t) (rounds neg same t + 2) (loops neg same t + 1) (edges neg same t + 1) (pieces neg same t + 1)

  -- A new edge from a corner to a new point: a vertex and an edge more.
  abbrev pub SproutCounts : Type 0
  SproutCounts = (t : Turning A) → Lawful neg t → (e : A) → Free neg same e t → (c : A) → c ∈ t.held
      → Counts neg same (sprouted neg same e c t) (rounds neg same t + 1) (loops neg same t) (edges neg same t + 1) (pieces neg same t)

  -- A new edge between two corners: an edge more, and two pieces made one, or a loop made two, or two loops of one piece made one.
  abbrev pub JoinCounts : Type 0
  JoinCounts = (t : Turning A) → Lawful neg t → (e : A) → Free neg same e t → (c d : A) → c ∈ t.held → d ∈ t.held
      → JoinChanges neg same t (joined neg same e c d t) c d

  -- A new edge between any two ends, all in one.
  abbrev pub HangCounts : Type 0
  HangCounts = (t : Turning A) → Lawful neg t → (e : A) → Free neg same e t → (c d : Option A) → Corner neg same t c → Corner neg same t d
      → HangChanges neg same t (hung neg same e c d t) c d

  -- An edge split at an inner point: a vertex and an edge more.
  abbrev pub CleaveCounts : Type 0
  CleaveCounts = (t : Turning A) → Lawful neg t → (e : A) → e ∈ t.held → (f : A) → Free neg same f t
      → Counts neg same (cleft neg same e f t) (rounds neg same t + 1) (loops neg same t) (edges neg same t + 1) (pieces neg same t)

  -- ---- where each name leads after the changes
  -- A new edge between two corners: e comes directly after c, neg e directly after d, and all else is as it was.
  abbrev pub JoinIs : Type 0
  JoinIs = (t : Turning A) → Lawful neg t → (e : A) → Free neg same e t → (c d : A) → c ∈ t.held → d ∈ t.held → ¬ (c ≡ d)
      → ((joined neg same e c d t).follower c ≡ e) × ((joined neg same e c d t).follower e ≡ t.follower c)
      × ((joined neg same e c d t).follower d ≡ neg e) × ((joined neg same e c d t).follower (neg e) ≡ t.follower d)
      × ((x : A) → x ∈ t.held → ¬ (x ≡ c) → ¬ (x ≡ d) → (joined neg same e c d t).follower x ≡ t.follower x)

  -- An edge taken off: the others lead past its two names.
  abbrev pub RemoveIs : Type 0
  RemoveIs = (t : Turning A) → Lawful neg t → (e : A) → e ∈ t.held → (x : A) → x ∈ (removed neg same e t).held
      → (removed neg same e t).follower x ≡ skipping neg same (neg e) (skipping neg same e t.follower) x

  -- An edge split: neg f takes the place of neg e, and neg e and f are a round of two.
  abbrev pub CleaveIs : Type 0
  CleaveIs = (t : Turning A) → Lawful neg t → (e : A) → e ∈ t.held → (f : A) → Free neg same f t
      → ((cleft neg same e f t).follower (neg e) ≡ f) × ((cleft neg same e f t).follower f ≡ neg e)
      × (t.follower (neg e) ≡ neg e → (cleft neg same e f t).follower (neg f) ≡ neg f)
      × (¬ (t.follower (neg e) ≡ neg e) → (cleft neg same e f t).follower (neg f) ≡ t.follower (neg e))
      × ((x : A) → x ∈ t.held → ¬ (x ≡ neg e) → t.follower x ≡ neg e → (cleft neg same e f t).follower x ≡ neg f)
      × ((x : A) → x ∈ t.held → ¬ (x ≡ neg e) → ¬ (t.follower x ≡ neg e) → (cleft neg same e f t).follower x ≡ t.follower x)

  -- ---- the same for any turning t' that has the names and the followers that the change is to give
  -- The counts after a new edge.
  abbrev pub AnyHangCounts : Type 0
  AnyHangCounts = (t t' : Turning A) → Lawful neg t → Lawful neg t' → (e : A) → Free neg same e t
      → (c d : Option A) → Corner neg same t c → Corner neg same t d → TwoCorners neg same c d
      → With neg same e t t' → Leads neg same t' (after_hang neg same e c d t.follower)
      → HangChanges neg same t t' c d

  -- A new edge leaves flat flat just where its corners fit.
  abbrev pub AnyHang : Type 0
  AnyHang = (t t' : Turning A) → Lawful neg t → Lawful neg t' → (e : A) → Free neg same e t
      → (c d : Option A) → Corner neg same t c → Corner neg same t d → TwoCorners neg same c d
      → With neg same e t t' → Leads neg same t' (after_hang neg same e c d t.follower)
      → Flat neg same t → Flat neg same t' ↔ Fits neg same t c d

  -- An edge taken off leaves flat flat.
  abbrev pub AnyLift : Type 0
  AnyLift = (t t' : Turning A) → Lawful neg t → Lawful neg t' → (e : A) → e ∈ t.held
      → Without neg same e t t' → Leads neg same t' (after_lift neg same e t.follower)
      → Flat neg same t → Flat neg same t'

  -- The counts after an edge is split.
  abbrev pub AnyCleaveCounts : Type 0
  AnyCleaveCounts = (t t' : Turning A) → Lawful neg t → Lawful neg t' → (e : A) → e ∈ t.held → (k : A) → Free neg same k t
      → With neg same k t t' → Leads neg same t' (after_cleave neg same e k t.follower)
      → Counts neg same t' (rounds neg same t + 1) (loops neg same t) (edges neg same t + 1) (pieces neg same t)

  -- An edge split leaves flat flat.
  abbrev pub AnyCleave : Type 0
  AnyCleave = (t t' : Turning A) → Lawful neg t → Lawful neg t' → (e : A) → e ∈ t.held → (k : A) → Free neg same k t
      → With neg same k t t' → Leads neg same t' (after_cleave neg same e k t.follower)
      → Flat neg same t → Flat neg same t'

  -- ---- for code that walks
  -- A walk by a one-to-one step meets no name twice before it is back at its start, so it is back within as many steps as there are names.
  abbrev pub TrailApart : Type 0
  TrailApart = (f : A → A) (held : List A) → ((x : A) → x ∈ held → f x ∈ held) → ((x y : A) → x ∈ held → y ∈ held → f x ≡ f y → x ≡ y)
      → (x : A) → x ∈ held → (k : ℕ) → ((j : ℕ) → 1 ≤ j → j ≤ k → ¬ (iterate j f x ≡ x))
      → Distinct (trail k f x) × (k < length held)

  -- Once it is back, it has met all that it can reach.
  abbrev pub TrailWhole : Type 0
  TrailWhole = (f : A → A) (x : A) (k : ℕ) → f (iterate k f x) ≡ x → (y : A) → (y ∈ trail k f x) ↔ Reach (f ∷ []) x y

  -- A list that has x, that no step leads out of, and all of which can be reached from x, is what can be reached from x.
  abbrev pub ClosedIsReach : Type 0
  ClosedIsReach = (ss : List (A → A)) (xs : List A) (x : A) → x ∈ xs → ClosedUnder ss xs → ((z : A) → z ∈ xs → Reach ss x z) → (y : A) → (y ∈ xs) ↔ Reach ss x y

  -- `filter` has the names of the list that pass the test, and none twice.
  abbrev pub FilterIs : Type 0
  FilterIs = (p : A → Bool) (xs : List A) → (Distinct xs → Distinct (filter p xs)) × ((x : A) → (x ∈ filter p xs) ↔ ((x ∈ xs) × T (p x)))
