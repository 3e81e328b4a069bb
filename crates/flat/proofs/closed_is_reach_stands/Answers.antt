-- The contract of closed_is_reach_stands is `closed-reach` of proofs/Proved.antt.
use Rattle.std.proofs.Common.{ℤ, neg_ℤ}
use Rattle.flat.specs.Whole.{equal}
use Rattle.flat.proofs.Whole.{equal_is}
use Rattle.flat.proofs.Proved.{closed_reach}
use Rattle.flat.proofs.closed_is_reach_stands.Goals as goal

pub returns : goal.returns
returns c = closed_reach ℤ equal neg_ℤ equal_is
