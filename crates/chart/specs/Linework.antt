-- Line work: a turning, and the point where each held name starts. This is what a chart means; charts are equal when this is.
-- Assumes nothing.
use Rattle.std.specs.Prelude.{◌≡◌, ℕ, true, false, ℤ, pos, neg_ℤ, None, Option}
use Rattle.turning.specs.Turn.{Turn, no_turn}
use Rattle.turning.specs.Counts.{same_round}
use Rattle.chart.specs.declared.point.Point.{Point}
use Rattle.chart.specs.Points.{told_west, told_on_sheet}

-- a turning and its points
pub record Linework : Type 0 where
  pub turn : Turn
  pub points : ℤ → Option Point

-- no line work
abbrev pub no_lines : Linework
no_lines = record { turn = no_turn; points = λ _. None }

-- the line work of a chart, by its turning and its points
abbrev pub lines_of : {S : Type 0} → (S → Turn) → (S → ℤ → Option Point) → S → Linework
lines_of turn points s = record { turn = turn s; points = points s }

-- held names have points on the sheet, others none; two held names have equal points exactly when they share a round; +e is west of -e
pub record Placed (n : ℕ) (t : Turn) (points : ℤ → Option Point) : Type 0 where
  pub nowhere : (h : ℤ) → t.held h ≡ false → points h ≡ None
  pub somewhere : (h : ℤ) → t.held h ≡ true → told_on_sheet (points h) ≡ true
  pub together : (g h : ℤ) → t.held g ≡ true → t.held h ≡ true → points g ≡ points h → same_round n t g h ≡ true
  pub alike : (h : ℤ) → t.held h ≡ true → points (t.follower h) ≡ points h
  pub westward : (e : ℕ) → t.held (pos e) ≡ true → told_west (points (pos e)) (points (neg_ℤ (pos e))) ≡ true
