-- The contract of any_hang_stands is `any-hanging` of proofs/Proved.antt.
use Rattle.std.proofs.Common.{ℤ, neg_ℤ}
use Rattle.flat.specs.Whole.{equal}
use Rattle.flat.proofs.Whole.{equal_is}
use Rattle.flat.proofs.Proved.{any_hanging}
use Rattle.flat.proofs.any_hang_stands.Goals as goal

pub returns : goal.returns
returns c = any_hanging ℤ equal neg_ℤ equal_is
