-- Being lawful has one proof at most, so that it comes out of a truncation.
-- Assumes nothing.
use Rattle.std.specs.Prelude.{ℕ, ℤ, ◌≤ℤ◌}
use Rattle.std.proofs.Math.Bool.{Bool-set}
use Rattle.std.proofs.Math.Dec.{T_prop}
use Rattle.std.proofs.Math.IntN.{ℤ_set}
use Rattle.turning.specs.Turn.{Turn, Lawful}

le_prop : (a b : ℤ) → IsProp (a ≤ℤ b)
le_prop a b p q = λ i. record { le = T_prop _ p.le q.le i }

-- two proofs that a turning is lawful are equal
pub lawful_prop : (n : ℕ) (t : Turn) → IsProp (Lawful n t)
lawful_prop n t p q = λ i. record {
  no_zero = Bool-set _ _ p.no_zero q.no_zero i;
  low = λ h e. le_prop _ _ (p.low h e) (q.low h e) i;
  high = λ h e. le_prop _ _ (p.high h e) (q.high h e) i;
  closed = λ h e. Bool-set _ _ (p.closed h e) (q.closed h e) i;
  ahead = λ h e. Bool-set _ _ (p.ahead h e) (q.ahead h e) i;
  behind = λ h e. Bool-set _ _ (p.behind h e) (q.behind h e) i;
  undone = λ h e. ℤ_set _ _ (p.undone h e) (q.undone h e) i;
  redone = λ h e. ℤ_set _ _ (p.redone h e) (q.redone h e) i;
  no_follower = λ h e. ℤ_set _ _ (p.no_follower h e) (q.no_follower h e) i;
  no_predecessor = λ h e. ℤ_set _ _ (p.no_predecessor h e) (q.no_predecessor h e) i;
}
