-- What the code finds of a name before it hangs an edge there. Assumes nothing.
use Rattle.std.specs.Prelude.{◌≡◌, true, false, ℤ, Some, None, Option}
use Rattle.chart.specs.declared.point.Point.{Point}
use Rattle.chart.specs.Points.{on_sheet}
use Rattle.chart.specs.Linework.{Linework}

-- where h starts: at no point when it is not held
abbrev pub Started : Linework → ℤ → Option Point → Type 0
Started l h None = l.turn.held h ≡ false
Started l h (Some p) = (l.turn.held h ≡ true) × (l.points h ≡ Some p) × (on_sheet p ≡ true)
