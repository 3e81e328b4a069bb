-- The contract of any_hang_counts_stands is `any-hanging-counts` of proofs/Proved.antt.
use Rattle.std.proofs.Common.{ℤ, neg_ℤ}
use Rattle.flat.specs.Whole.{equal}
use Rattle.flat.proofs.Whole.{equal_is}
use Rattle.flat.proofs.Proved.{any_hanging_counts}
use Rattle.flat.proofs.any_hang_counts_stands.Goals as goal

pub returns : goal.returns
returns c = any_hanging_counts ℤ equal neg_ℤ equal_is
