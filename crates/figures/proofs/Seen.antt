-- What the definitions compute to on each figure. Assumes nothing.
use mathlib.Core.Path.{refl}
use native.Mathlib.Omega.{arith}
use lib.IntN.{neg_ℤ}
use Rattle.flat.specs.Orbits.{orbits, classes, linked, closure}
use Rattle.flat.specs.Whole.{equal}
use Rattle.flat.proofs.Tested.{test_is_law}
use Rattle.flat.proofs.Whole.{equal_is}
use Rattle.figures.specs.Figures.{edge, triangle, square, halved, inside, across, opened, split, torus, twisted, theta, grid, EdgeIs, TriangleIs, SquareIs, HalvedIs, JoinedIs, ChangedIs, TorusIs, TwistedIs, ThetaIs, GridIs}

pub edge_is : EdgeIs
unfolding orbits classes linked closure
edge_is = ((test_is_law equal equal_is neg_ℤ edge tt, (refl, refl, refl, refl)), refl, (refl, refl))

pub triangle_is : TriangleIs
unfolding orbits classes linked closure
triangle_is = ((test_is_law equal equal_is neg_ℤ triangle tt, (refl, refl, refl, refl)), refl, (refl, (refl, refl)), (refl, (refl, refl)))

pub square_is : SquareIs
unfolding orbits classes linked closure
square_is = ((test_is_law equal equal_is neg_ℤ square tt, (refl, refl, refl, refl)), refl, (refl, (refl, (refl, refl))), (refl, (refl, (refl, refl))))

pub halved_is : HalvedIs
unfolding orbits classes linked closure
halved_is = ((test_is_law equal equal_is neg_ℤ halved tt, (refl, refl, refl, refl)), refl)

pub joined_is : JoinedIs
unfolding orbits classes linked closure
joined_is = (
  (test_is_law equal equal_is neg_ℤ inside tt, (refl, refl, refl, refl)),
  refl,
  refl,
  (test_is_law equal equal_is neg_ℤ across tt, (refl, refl, refl, refl)),
  λ e. omega (arith, e),
)

pub changed_is : ChangedIs
unfolding orbits classes linked closure
changed_is = (
  (test_is_law equal equal_is neg_ℤ opened tt, (refl, refl, refl, refl)),
  refl,
  (test_is_law equal equal_is neg_ℤ split tt, (refl, refl, refl, refl)),
  refl,
)

pub torus_is : TorusIs
unfolding orbits classes linked closure
torus_is = ((test_is_law equal equal_is neg_ℤ torus tt, (refl, refl, refl, refl)), λ e. omega (arith, e))

pub twisted_is : TwistedIs
unfolding orbits classes linked closure
twisted_is = ((test_is_law equal equal_is neg_ℤ twisted tt, (refl, refl, refl, refl)), λ e. omega (arith, e))

pub theta_is : ThetaIs
unfolding orbits classes linked closure
theta_is = ((test_is_law equal equal_is neg_ℤ theta tt, (refl, refl, refl, refl)), refl)

pub grid_is : GridIs
unfolding orbits classes linked closure
grid_is = ((test_is_law equal equal_is neg_ℤ grid tt, (refl, refl, refl, refl)), refl)
