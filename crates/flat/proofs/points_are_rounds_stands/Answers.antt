-- The contract of points_are_rounds_stands is `points-are-rounds` of proofs/Proved.antt.
use Rattle.std.proofs.Common.{ℤ, neg_ℤ}
use Rattle.flat.specs.Whole.{equal}
use Rattle.flat.proofs.Whole.{equal_is}
use Rattle.flat.proofs.Proved.{points_are_rounds}
use Rattle.flat.proofs.points_are_rounds_stands.Goals as goal

pub returns : goal.returns
returns c = points_are_rounds ℤ equal neg_ℤ equal_is
