-- The contract of splice_of_one_stands is `splice-of-one` of proofs/Proved.antt.
use Rattle.std.proofs.Common.{ℤ, neg_ℤ}
use Rattle.flat.specs.Whole.{equal}
use Rattle.flat.proofs.Whole.{equal_is}
use Rattle.flat.proofs.Proved.{splice_of_one}
use Rattle.flat.proofs.splice_of_one_stands.Goals as goal

pub returns : goal.returns
returns c = splice_of_one ℤ equal neg_ℤ equal_is
