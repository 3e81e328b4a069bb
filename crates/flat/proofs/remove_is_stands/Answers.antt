-- The contract of remove_is_stands is `removing` of proofs/Proved.antt.
use Rattle.std.proofs.Common.{ℤ, neg_ℤ}
use Rattle.flat.specs.Whole.{equal}
use Rattle.flat.proofs.Whole.{equal_is}
use Rattle.flat.proofs.Proved.{removing}
use Rattle.flat.proofs.remove_is_stands.Goals as goal

pub returns : goal.returns
returns c = removing ℤ equal neg_ℤ equal_is
