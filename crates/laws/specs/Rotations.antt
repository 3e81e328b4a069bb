-- What holds of line work between the changes of single names, where it need not be closed under negation.
-- Assumes nothing.
use Rattle.std.specs.Prelude.{◌≡◌, ℕ, ◌≤◌, true, false, ℤ, pos, neg_ℤ, ◌≤ℤ◌, Some, None, Option, ◌≢◌}
use Rattle.flat.specs.Orbits.{iterate}
use Rattle.turning.specs.Turn.{Turn}
use Rattle.chart.specs.declared.point.Point.{Point}
use Rattle.chart.specs.Points.{on_sheet, west, told_west, told_on_sheet}
use Rattle.chart.specs.Linework.{Linework}

-- lawful, but for negation
pub record Rotation (n : ℕ) (t : Turn) : Type 0 where
  pub no_zero : t.held (pos 0) ≡ false
  pub low : (h : ℤ) → t.held h ≡ true → neg_ℤ (pos n) ≤ℤ h
  pub high : (h : ℤ) → t.held h ≡ true → h ≤ℤ pos n
  pub ahead : (h : ℤ) → t.held h ≡ true → t.held (t.follower h) ≡ true
  pub behind : (h : ℤ) → t.held h ≡ true → t.held (t.predecessor h) ≡ true
  pub undone : (h : ℤ) → t.held h ≡ true → t.predecessor (t.follower h) ≡ h
  pub redone : (h : ℤ) → t.held h ≡ true → t.follower (t.predecessor h) ≡ h
  pub no_follower : (h : ℤ) → t.held h ≡ false → t.follower h ≡ pos 0
  pub no_predecessor : (h : ℤ) → t.held h ≡ false → t.predecessor h ≡ pos 0

-- placed, but for the west, with the number of steps from one name to another of its round
pub record Located (t : Turn) (points : ℤ → Option Point) : Type 0 where
  pub nowhere : (h : ℤ) → t.held h ≡ false → points h ≡ None
  pub somewhere : (h : ℤ) → t.held h ≡ true → told_on_sheet (points h) ≡ true
  pub together : (g h : ℤ) → t.held g ≡ true → t.held h ≡ true → points g ≡ points h → (k : ℕ) × (iterate k t.follower g ≡ h)
  pub alike : (h : ℤ) → t.held h ≡ true → points (t.follower h) ≡ points h

-- a name may come in as k
pub record Fresh (n : ℕ) (t : Turn) (k : ℤ) : Type 0 where
  pub new : t.held k ≡ false
  pub no_zero : k ≡ pos 0 → ⊥
  pub low : neg_ℤ (pos n) ≤ℤ k
  pub high : k ≤ℤ pos n

-- the corner is held and starts at p, or there is none and no name starts at p
abbrev pub Corner : Turn → (ℤ → Option Point) → Option ℤ → Point → Type 0
Corner t points None p = (g : ℤ) → t.held g ≡ true → points g ≢ Some p
Corner t points (Some c) p = (t.held c ≡ true) × (points c ≡ Some p)

-- what an edge e from p to q, between the corners c and d, asks
pub record Ends (n : ℕ) (l : Linework) (e : ℕ) (p q : Point) (c d : Option ℤ) : Type 0 where
  pub low : 1 ≤ e
  pub high : e ≤ n
  pub new : l.turn.held (pos e) ≡ false
  pub here : on_sheet p ≡ true
  pub there : on_sheet q ≡ true
  pub start : Corner l.turn l.points c p
  pub end : Corner l.turn l.points d q
  pub west : west p q ≡ true

-- what to cleave e at p asks, where e ends at q and the eastern part is f
pub record Cuts (n : ℕ) (l : Linework) (e f : ℕ) (p q : Point) : Type 0 where
  pub here : l.turn.held (pos e) ≡ true
  pub low : 1 ≤ f
  pub high : f ≤ n
  pub new : l.turn.held (pos f) ≡ false
  pub sheet : on_sheet p ≡ true
  pub empty : Corner l.turn l.points None p
  pub ends : l.points (neg_ℤ (pos e)) ≡ Some q
  pub sheet_q : on_sheet q ≡ true
  pub west_p : told_west (l.points (pos e)) (Some p) ≡ true
  pub west_q : west p q ≡ true
