-- The contract of start_keeps_stands is `start-keeps` of proofs/Proved.antt.
use Rattle.std.proofs.Common.{ℤ, neg_ℤ}
use Rattle.flat.specs.Whole.{equal}
use Rattle.flat.proofs.Whole.{equal_is}
use Rattle.flat.proofs.Proved.{start_keeps}
use Rattle.flat.proofs.start_keeps_stands.Goals as goal

pub returns : goal.returns
returns c = start_keeps ℤ equal neg_ℤ equal_is
