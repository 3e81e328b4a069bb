-- What the derived comparisons of points answer, in the words of specs/Points.antt. Assumes nothing.
use Rattle.std.proofs.Common.{◌≡◌, Some, None, Option, refl, rules, tests}
use Rattle.std.specs.Option.{option_eq}
use Rattle.chart.specs.declared.point.Point.{Point}
use Rattle.chart.specs.contracts.point.PointPartialEq.TheImpl.{eq-value}
use Rattle.chart.specs.Points.{same_point, is_point}

-- `==` on points
pub points_equal : (p q : Point) → eq-value.it p q ≡ same_point p q
points_equal p q = search (rules, tests)

-- `told == Some(p)`
pub told_equals : (told : Option Point) (p : Point) → option_eq eq-value.it told (Some p) ≡ is_point p told
told_equals None p = refl
told_equals (Some q) p = search (rules, tests)
