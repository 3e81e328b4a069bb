-- The contract of start_counts_stands is `start-counts` of proofs/Proved.antt.
use Rattle.std.proofs.Common.{ℤ, neg_ℤ}
use Rattle.flat.specs.Whole.{equal}
use Rattle.flat.proofs.Whole.{equal_is}
use Rattle.flat.proofs.Proved.{start_counts}
use Rattle.flat.proofs.start_counts_stands.Goals as goal

pub returns : goal.returns
returns c = start_counts ℤ equal neg_ℤ equal_is
