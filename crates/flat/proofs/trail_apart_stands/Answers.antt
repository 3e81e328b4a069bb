-- The contract of trail_apart_stands is `trails-apart` of proofs/Proved.antt.
use Rattle.std.proofs.Common.{ℤ, neg_ℤ}
use Rattle.flat.specs.Whole.{equal}
use Rattle.flat.proofs.Whole.{equal_is}
use Rattle.flat.proofs.Proved.{trails_apart}
use Rattle.flat.proofs.trail_apart_stands.Goals as goal

pub returns : goal.returns
returns c = trails_apart ℤ equal neg_ℤ equal_is
