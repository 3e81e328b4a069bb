-- The ends of a new edge. Assumes nothing.
use Rattle.std.specs.Prelude.{ℤ, Some, None}
use Rattle.chart.specs.declared.point.Point.{Point}
use Rattle.chart.specs.declared.point.End.{End}

-- the end of an edge at a new point
abbrev pub new_end : Point → End
new_end p = record { point = p; corner = None }

-- the end of an edge at p, directly after the corner c
abbrev pub after_corner : Point → ℤ → End
after_corner p c = record { point = p; corner = Some c }
