-- The contract of sprout_counts_stands is `sprout-counts` of proofs/Proved.antt.
use Rattle.std.proofs.Common.{ℤ, neg_ℤ}
use Rattle.flat.specs.Whole.{equal}
use Rattle.flat.proofs.Whole.{equal_is}
use Rattle.flat.proofs.Proved.{sprout_counts}
use Rattle.flat.proofs.sprout_counts_stands.Goals as goal

pub returns : goal.returns
returns c = sprout_counts ℤ equal neg_ℤ equal_is
