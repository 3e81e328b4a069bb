-- Turnings: names that go in pairs, x and neg x, the two ways along an edge, and for each the next name clockwise about its start.
-- What is counted over them, the changes of them, and when they are flat. Assumes nothing.
use Rattle.std.specs.Prelude.{◌≡◌, ℕ, suc, ◌+◌, ◌*◌, Bool, true, false, cond, not, ◌&&◌, ◌⊎◌, ◌↔◌, List, [], ◌∷◌}
use Rattle.std.proofs.Math.Option.{Option, none, some}
use Rattle.flat.specs.Orbits.{◌∈◌, Distinct, Reach, filter, orbits, contains, swapped, spliced}

-- the names that are held, the next one clockwise about the start of each, and the one before it
pub record Turning (A : Type 0) : Type 0 where
  pub held : List A
  pub follower : A → A
  pub predecessor : A → A

module _ {A : Type 0} where
  -- a turning by its parts
  abbrev pub turning : List A → (A → A) → (A → A) → Turning A
  turning held f g = record { held = held; follower = f; predecessor = g }

  module _ (neg : A → A) where
    -- the names are apart and go in pairs, and follower and predecessor keep to them and undo one another
    pub record Lawful (t : Turning A) : Type 0 where
      pub apart : Distinct t.held
      pub paired : (x : A) → x ∈ t.held → neg x ∈ t.held
      pub twice : (x : A) → x ∈ t.held → neg (neg x) ≡ x
      pub proper : (x : A) → x ∈ t.held → ¬ (neg x ≡ x)
      pub ahead : (x : A) → x ∈ t.held → t.follower x ∈ t.held
      pub behind : (x : A) → x ∈ t.held → t.predecessor x ∈ t.held
      pub undone : (x : A) → x ∈ t.held → t.predecessor (t.follower x) ≡ x
      pub redone : (x : A) → x ∈ t.held → t.follower (t.predecessor x) ≡ x

    -- the name that comes after x on its loop: at the end of x, the one before neg x
    abbrev pub next : Turning A → A → A
    next t x = t.predecessor (neg x)

    -- the name that comes before x on its loop
    abbrev pub previous : Turning A → A → A
    previous t x = neg (t.follower x)

    -- ---- the same vertex, the same loop, the same piece
    -- x and y start at one vertex: follower leads from x to y
    abbrev pub SameRound : Turning A → A → A → Type 0
    SameRound t x y = Reach (t.follower ∷ []) x y

    -- next leads from x to y
    abbrev pub SameLoop : Turning A → A → A → Type 0
    SameLoop t x y = Reach (next t ∷ []) x y

    -- follower and neg lead from x to y
    abbrev pub SamePiece : Turning A → A → A → Type 0
    SamePiece t x y = Reach (t.follower ∷ neg ∷ []) x y

    module _ (same : A → A → Bool) where
      -- ---- how many of each
      -- how many vertices
      abbrev pub rounds : Turning A → ℕ
      rounds t = orbits same (t.follower ∷ []) t.held

      -- how many loops
      abbrev pub loops : Turning A → ℕ
      loops t = orbits same (next t ∷ []) t.held

      -- how many pieces
      abbrev pub pieces : Turning A → ℕ
      pieces t = orbits same (t.follower ∷ neg ∷ []) t.held

      -- how many edges: pairs of a name and its other name
      abbrev pub edges : Turning A → ℕ
      edges t = orbits same (neg ∷ []) t.held

      -- t has r rounds, l loops, e edges and p pieces
      abbrev pub Counts : Turning A → ℕ → ℕ → ℕ → ℕ → Type 0
      Counts t r l e p = (rounds t ≡ r) × (loops t ≡ l) × (edges t ≡ e) × (pieces t ≡ p)

      -- vertices and loops are together as many as the edges and twice the pieces, which is the most that they can be
      abbrev pub Flat : Turning A → Type 0
      Flat t = rounds t + loops t ≡ edges t + 2 * pieces t

      -- what becomes of loops and pieces where t' is t with the rounds of a and b made one at a and b:
      -- two pieces become one, and two loops; or two loops of one piece become one; or one loop becomes two
      abbrev pub Effect : Turning A → Turning A → A → A → Type 0
      Effect t t' a b =
          ((¬ SamePiece t a b) × (suc (loops t') ≡ loops t) × (suc (pieces t') ≡ pieces t))
          ⊎ ((SamePiece t a b × (¬ SameLoop t a b) × (suc (loops t') ≡ loops t) × (pieces t' ≡ pieces t))
          ⊎ (SameLoop t a b × (loops t' ≡ suc (loops t)) × (pieces t' ≡ pieces t)))

      -- ---- changes
      -- the followers of a and b swapped
      abbrev pub splice : A → A → Turning A → Turning A
      splice a b t = turning t.held (spliced same a b t.follower) (λ x. swapped same a b (t.predecessor x))

      -- x alone in its round
      abbrev pub isolated : A → Turning A → Turning A
      isolated x t = splice (t.predecessor x) x t

      -- f, but e and neg e each lead to themselves
      abbrev pub resting : A → (A → A) → A → A
      resting e f x = cond (contains same x (e ∷ neg e ∷ [])) x (f x)

      -- a new edge, alone: each of its two names is a round of its own
      abbrev pub started : A → Turning A → Turning A
      started e t = turning (e ∷ neg e ∷ t.held) (resting e t.follower) (resting e t.predecessor)

      -- e can be the name of a new edge
      pub record Free (e : A) (t : Turning A) : Type 0 where
        pub unheld : ¬ (e ∈ t.held)
        pub unheld_neg : ¬ (neg e ∈ t.held)
        pub two : ¬ (neg e ≡ e)
        pub again : neg (neg e) ≡ e

      -- a new edge that starts directly after c and ends at a point of its own
      abbrev pub sprouted : A → A → Turning A → Turning A
      sprouted e c t = splice c e (started e t)

      -- a new edge that starts directly after c and ends directly after d
      abbrev pub joined : A → A → A → Turning A → Turning A
      joined e c d t = splice d (neg e) (sprouted e c t)

      -- the names of the list but those of the edge e
      abbrev pub others : A → List A → List A
      others e xs = filter (λ x. not (contains same x (e ∷ neg e ∷ []))) xs

      -- the edge e taken off
      abbrev pub removed : A → Turning A → Turning A
      removed e t =
          let u : Turning A = isolated (neg e) (isolated e t) in
          turning (others e t.held) u.follower u.predecessor

      -- the edge e ends at a new point, and from there f goes on to where e ended
      abbrev pub cleft : A → A → Turning A → Turning A
      cleft e f t = splice (neg e) f (isolated (neg e) (splice (neg e) (neg f) (started f t)))

      -- ---- a new edge between any two ends: a corner is the name directly after which the edge comes in, none is a new point
      -- x put directly after the corner, if there is one
      abbrev pub put : A → Option A → Turning A → Turning A
      put x none t = t
      put x (some c) t = splice c x t

      -- a new edge, each end of it directly after a corner or at a point of its own
      abbrev pub hung : A → Option A → Option A → Turning A → Turning A
      hung e c d t = put (neg e) d (put e c (started e t))

      -- a corner, if there is one, is held
      abbrev pub Corner : Turning A → Option A → Type 0
      Corner t none = Unit {0}
      Corner t (some c) = c ∈ t.held

      -- two corners are not one and the same
      abbrev pub TwoCorners : Option A → Option A → Type 0
      TwoCorners none d = Unit {0}
      TwoCorners (some c) none = Unit {0}
      TwoCorners (some c) (some d) = ¬ (c ≡ d)

      -- two corners lie on one loop or in two pieces
      abbrev pub Fits : Turning A → Option A → Option A → Type 0
      Fits t none d = Unit {0}
      Fits t (some c) none = Unit {0}
      Fits t (some c) (some d) = SameLoop t c d ⊎ (¬ SamePiece t c d)

      -- what becomes of the counts where t' is t with a new edge between the corners c and d
      abbrev pub JoinChanges : Turning A → Turning A → A → A → Type 0
      JoinChanges t t' c d =
          (rounds t' ≡ rounds t) × (edges t' ≡ edges t + 1)
          × (¬ SamePiece t c d → (loops t' + 1 ≡ loops t) × (pieces t' + 1 ≡ pieces t))
          × (SameLoop t c d → (loops t' ≡ loops t + 1) × (pieces t' ≡ pieces t))
          × (SamePiece t c d → ¬ SameLoop t c d → (loops t' + 1 ≡ loops t) × (pieces t' ≡ pieces t))

      -- and where it is t with a new edge between any two ends
      abbrev pub HangChanges : Turning A → Turning A → Option A → Option A → Type 0
      HangChanges t t' none none = Counts t' (rounds t + 2) (loops t + 1) (edges t + 1) (pieces t + 1)
      HangChanges t t' (some c) none = Counts t' (rounds t + 1) (loops t) (edges t + 1) (pieces t)
      HangChanges t t' none (some d) = Counts t' (rounds t + 1) (loops t) (edges t + 1) (pieces t)
      HangChanges t t' (some c) (some d) = JoinChanges t t' c d

      -- ---- the same changes, told name by name
      -- x is the corner
      abbrev pub is_at : Option A → A → Bool
      is_at none x = false
      is_at (some c) x = same x c

      -- where a name put after the corner leads: on to what came after the corner, or to itself
      abbrev pub goes_on : (A → A) → Option A → A → A
      goes_on f none x = x
      goes_on f (some c) x = f c

      -- where x leads once e hangs between the corners c and d
      abbrev pub after_hang : A → Option A → Option A → (A → A) → A → A
      after_hang e c d f x =
          cond (same x e) (goes_on f c e)
          (cond (same x (neg e)) (goes_on f d (neg e))
          (cond (is_at c x) e
          (cond (is_at d x) (neg e) (f x))))

      -- f, but past y where it would lead there
      abbrev pub skipping : A → (A → A) → A → A
      skipping y f x = cond (same (f x) y) (f y) (f x)

      -- where x leads once e is off
      abbrev pub after_lift : A → (A → A) → A → A
      after_lift e f x = skipping (neg e) (skipping e f) x

      -- where x leads once e is split and k goes on from the new point: neg k has the place of neg e, and neg e and k are a round
      abbrev pub after_cleave : A → A → (A → A) → A → A
      after_cleave e k f x =
          cond (same x (neg e)) k
          (cond (same x k) (neg e)
          (cond (same x (neg k)) (cond (same (f (neg e)) (neg e)) (neg k) (f (neg e)))
          (cond (same (f x) (neg e)) (neg k) (f x))))

      -- t' has the names of t and those of the edge e, in any order
      abbrev pub With : A → Turning A → Turning A → Type 0
      With e t t' = (x : A) → (x ∈ t'.held) ↔ (x ∈ e ∷ neg e ∷ t.held)

      -- t' has the names of t but those of the edge e, in any order
      abbrev pub Without : A → Turning A → Turning A → Type 0
      Without e t t' = (x : A) → (x ∈ t'.held) ↔ ((x ∈ t.held) × (¬ (x ≡ e)) × (¬ (x ≡ neg e)))

      -- each name of t leads where f says
      abbrev pub Leads : Turning A → (A → A) → Type 0
      Leads t f = (x : A) → x ∈ t.held → t.follower x ≡ f x

      -- ---- a test for a turning that is written out
      -- no name stands in the list twice
      abbrev pub apart? : List A → Bool
      apart? [] = true
      apart? (x ∷ xs) = not (contains same x xs) && apart? xs

      -- all of the list pass the test
      abbrev pub every : (A → Bool) → List A → Bool
      every p [] = true
      every p (x ∷ xs) = p x && every p xs

      -- the laws hold at the name x
      abbrev pub right_at : Turning A → A → Bool
      right_at t x =
          contains same (neg x) t.held && same (neg (neg x)) x && not (same (neg x) x) && contains same (t.follower x) t.held && contains same (t.predecessor x) t.held
          && same (t.predecessor (t.follower x)) x && same (t.follower (t.predecessor x)) x

      -- the turning is lawful
      abbrev pub lawful? : Turning A → Bool
      lawful? t = apart? t.held && every (right_at t) t.held
