-- Points: which are on the sheet, and which of two is west.
-- Assumes nothing.
use Rattle.std.specs.Prelude.{Bool, false, ◌&&◌, ◌||◌, ℤ, pos, neg_ℤ, Some, None, Option, int_le, int_lt}
use Rattle.flat.specs.Whole.{equal}
use Rattle.turning.specs.Limits.{max_coordinate}
use Rattle.chart.specs.declared.point.Point.{Point}

-- the coordinate is in range
abbrev pub within : ℤ → Bool
within z = int_le (neg_ℤ (pos max_coordinate)) z && int_le z (pos max_coordinate)

-- both coordinates are in range
abbrev pub on_sheet : Point → Bool
on_sheet p = within p.x && within p.y

-- the points are equal
abbrev pub same_point : Point → Point → Bool
same_point p q = equal p.x q.x && equal p.y q.y

-- p is west of q: its x is smaller, or the x are equal and its y is smaller
abbrev pub west : Point → Point → Bool
west p q = int_lt p.x q.x || (equal p.x q.x && int_lt p.y q.y)

-- some point is told, and it is p
abbrev pub is_point : Point → Option Point → Bool
is_point p None = false
is_point p (Some q) = same_point p q

-- two points are told, and the first is west of the second
abbrev pub told_west : Option Point → Option Point → Bool
told_west None q = false
told_west (Some p) None = false
told_west (Some p) (Some q) = west p q

-- some point is told, and it is on the sheet
abbrev pub told_on_sheet : Option Point → Bool
told_on_sheet None = false
told_on_sheet (Some p) = on_sheet p
