-- The contract of hang_keeps_stands is `hanging` of proofs/Proved.antt.
use Rattle.std.proofs.Common.{ℤ, neg_ℤ}
use Rattle.flat.specs.Whole.{equal}
use Rattle.flat.proofs.Whole.{equal_is}
use Rattle.flat.proofs.Proved.{hanging}
use Rattle.flat.proofs.hang_keeps_stands.Goals as goal

pub returns : goal.returns
returns c = hanging ℤ equal neg_ℤ equal_is
