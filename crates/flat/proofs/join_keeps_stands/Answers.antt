-- The contract of join_keeps_stands is `join-keeps` of proofs/Proved.antt.
use Rattle.std.proofs.Common.{ℤ, neg_ℤ}
use Rattle.flat.specs.Whole.{equal}
use Rattle.flat.proofs.Whole.{equal_is}
use Rattle.flat.proofs.Proved.{join_keeps}
use Rattle.flat.proofs.join_keeps_stands.Goals as goal

pub returns : goal.returns
returns c = join_keeps ℤ equal neg_ℤ equal_is
