-- The contract of cleave_keeps_stands is `cleave-keeps` of proofs/Proved.antt.
use Rattle.std.proofs.Common.{ℤ, neg_ℤ}
use Rattle.flat.specs.Whole.{equal}
use Rattle.flat.proofs.Whole.{equal_is}
use Rattle.flat.proofs.Proved.{cleave_keeps}
use Rattle.flat.proofs.cleave_keeps_stands.Goals as goal

pub returns : goal.returns
returns c = cleave_keeps ℤ equal neg_ℤ equal_is
