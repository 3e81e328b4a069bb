-- The contract of splice_of_two_stands is `splice-of-two` of proofs/Proved.antt.
use Rattle.std.proofs.Common.{ℤ, neg_ℤ}
use Rattle.flat.specs.Whole.{equal}
use Rattle.flat.proofs.Whole.{equal_is}
use Rattle.flat.proofs.Proved.{splice_of_two}
use Rattle.flat.proofs.splice_of_two_stands.Goals as goal

pub returns : goal.returns
returns c = splice_of_two ℤ equal neg_ℤ equal_is
