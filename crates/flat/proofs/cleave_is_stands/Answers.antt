-- The contract of cleave_is_stands is `cleaving` of proofs/Proved.antt.
use Rattle.std.proofs.Common.{ℤ, neg_ℤ}
use Rattle.flat.specs.Whole.{equal}
use Rattle.flat.proofs.Whole.{equal_is}
use Rattle.flat.proofs.Proved.{cleaving}
use Rattle.flat.proofs.cleave_is_stands.Goals as goal

pub returns : goal.returns
returns c = cleaving ℤ equal neg_ℤ equal_is
