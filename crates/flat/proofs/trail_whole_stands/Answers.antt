-- The contract of trail_whole_stands is `trails-whole` of proofs/Proved.antt.
use Rattle.std.proofs.Common.{ℤ, neg_ℤ}
use Rattle.flat.specs.Whole.{equal}
use Rattle.flat.proofs.Whole.{equal_is}
use Rattle.flat.proofs.Proved.{trails_whole}
use Rattle.flat.proofs.trail_whole_stands.Goals as goal

pub returns : goal.returns
returns c = trails_whole ℤ equal neg_ℤ equal_is
