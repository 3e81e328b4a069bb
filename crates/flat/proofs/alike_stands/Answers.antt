-- The contract of alike_stands is `alike` of proofs/Proved.antt.
use Rattle.std.proofs.Common.{ℤ, neg_ℤ}
use Rattle.flat.specs.Whole.{equal}
use Rattle.flat.proofs.Whole.{equal_is}
use Rattle.flat.proofs.Proved.{alike}
use Rattle.flat.proofs.alike_stands.Goals as goal

pub returns : goal.returns
returns c = alike ℤ equal neg_ℤ equal_is
