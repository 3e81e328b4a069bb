-- The contract of euler_stands is `euler-holds` of proofs/Proved.antt.
use Rattle.std.proofs.Common.{ℤ, neg_ℤ}
use Rattle.flat.specs.Whole.{equal}
use Rattle.flat.proofs.Whole.{equal_is}
use Rattle.flat.proofs.Proved.{euler_holds}
use Rattle.flat.proofs.euler_stands.Goals as goal

pub returns : goal.returns
returns c = euler_holds ℤ equal neg_ℤ equal_is
