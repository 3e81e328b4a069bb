-- The contract of join_is_stands is `joining` of proofs/Proved.antt.
use Rattle.std.proofs.Common.{ℤ, neg_ℤ}
use Rattle.flat.specs.Whole.{equal}
use Rattle.flat.proofs.Whole.{equal_is}
use Rattle.flat.proofs.Proved.{joining}
use Rattle.flat.proofs.join_is_stands.Goals as goal

pub returns : goal.returns
returns c = joining ℤ equal neg_ℤ equal_is
