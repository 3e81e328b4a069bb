-- The contract of any_cleave_counts_stands is `any-cleaving-counts` of proofs/Proved.antt.
use Rattle.std.proofs.Common.{ℤ, neg_ℤ}
use Rattle.flat.specs.Whole.{equal}
use Rattle.flat.proofs.Whole.{equal_is}
use Rattle.flat.proofs.Proved.{any_cleaving_counts}
use Rattle.flat.proofs.any_cleave_counts_stands.Goals as goal

pub returns : goal.returns
returns c = any_cleaving_counts ℤ equal neg_ℤ equal_is
