-- The contract of hang_counts_stands is `hanging-counts` of proofs/Proved.antt.
use Rattle.std.proofs.Common.{ℤ, neg_ℤ}
use Rattle.flat.specs.Whole.{equal}
use Rattle.flat.proofs.Whole.{equal_is}
use Rattle.flat.proofs.Proved.{hanging_counts}
use Rattle.flat.proofs.hang_counts_stands.Goals as goal

pub returns : goal.returns
returns c = hanging_counts ℤ equal neg_ℤ equal_is
