-- What a store means, and what its changes answer and leave.
-- Assumes nothing.
use Rattle.std.specs.Prelude.{◌≡◌, ℕ, Bool, true, false, List, ℤ, pos, Option}
use Rattle.turning.specs.Turn.{Turn}
use Rattle.chart.specs.declared.point.Point.{Point}
use Rattle.chart.specs.declared.point.End.{End}
use Rattle.chart.specs.Linework.{Linework, lines_of}
use Rattle.chart.specs.Changes.{hung, may_hang, lifted, cleft, may_cleave}

-- what no change of the line work touches: the borders that the store is cut at, and how many slots it has
pub record Frame : Type 0 where
  pub borders : List ℤ
  pub slots : ℕ

-- line work, the frame about it, and which pairs of points still fit
pub record Meaning : Type 0 where
  pub lines : Linework
  pub frame : Frame
  pub fits : Point → Point → Bool

-- the meaning of a store, by its turning, its points, its frame and what fits
abbrev pub meant : {S : Type 0} → (S → Turn) → (S → ℤ → Option Point) → (S → Frame) → (S → Point → Point → Bool) → S → Meaning
meant turn points frame fits s = record { lines = lines_of turn points s; frame = frame s; fits = fits s }

-- a change that answers r, by what it should answer and what it makes of the line work; a no leaves all, a yes leaves the frame, and after it fits is the store's own
pub record Change (m : Meaning) (answer : Bool) (made : Linework) (r : Bool) (m' : Meaning) : Type 0 where
  pub told : r ≡ answer
  pub changed : r ≡ true → m'.lines ≡ made
  pub framed : r ≡ true → m'.frame ≡ m.frame
  pub kept : r ≡ false → m' ≡ m

-- hang, from m to m', with the answer r
abbrev pub Hangs : ℕ → Meaning → ℕ → End → End → Bool → Meaning → Type 0
Hangs n m e a b r m' = Change m (may_hang n m.lines m.fits e a b) (hung e a b m.lines) r m'

-- lift, from m to m', with the answer r
abbrev pub Lifts : Meaning → ℕ → Bool → Meaning → Type 0
Lifts m e r m' = Change m (m.lines.turn.held (pos e)) (lifted e m.lines) r m'

-- cleave, from m to m', with the answer r
abbrev pub Cleaves : ℕ → Meaning → ℕ → ℕ → Point → Bool → Meaning → Type 0
Cleaves n m e f p r m' = Change m (may_cleave n m.lines m.fits e f p) (cleft e f p m.lines) r m'
