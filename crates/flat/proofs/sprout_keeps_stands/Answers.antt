-- The contract of sprout_keeps_stands is `sprout-keeps` of proofs/Proved.antt.
use Rattle.std.proofs.Common.{ℤ, neg_ℤ}
use Rattle.flat.specs.Whole.{equal}
use Rattle.flat.proofs.Whole.{equal_is}
use Rattle.flat.proofs.Proved.{sprout_keeps}
use Rattle.flat.proofs.sprout_keeps_stands.Goals as goal

pub returns : goal.returns
returns c = sprout_keeps ℤ equal neg_ℤ equal_is
