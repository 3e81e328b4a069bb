-- The contract of cleave_counts_stands is `cleave-counts` of proofs/Proved.antt.
use Rattle.std.proofs.Common.{ℤ, neg_ℤ}
use Rattle.flat.specs.Whole.{equal}
use Rattle.flat.proofs.Whole.{equal_is}
use Rattle.flat.proofs.Proved.{cleave_counts}
use Rattle.flat.proofs.cleave_counts_stands.Goals as goal

pub returns : goal.returns
returns c = cleave_counts ℤ equal neg_ℤ equal_is
