-- The contract of any_lift_stands is `any-lifting` of proofs/Proved.antt.
use Rattle.std.proofs.Common.{ℤ, neg_ℤ}
use Rattle.flat.specs.Whole.{equal}
use Rattle.flat.proofs.Whole.{equal_is}
use Rattle.flat.proofs.Proved.{any_lifting}
use Rattle.flat.proofs.any_lift_stands.Goals as goal

pub returns : goal.returns
returns c = any_lifting ℤ equal neg_ℤ equal_is
