-- The contract of test_is_law_stands is `testing` of proofs/Proved.antt.
use Rattle.std.proofs.Common.{ℤ, neg_ℤ}
use Rattle.flat.specs.Whole.{equal}
use Rattle.flat.proofs.Whole.{equal_is}
use Rattle.flat.proofs.Proved.{testing}
use Rattle.flat.proofs.test_is_law_stands.Goals as goal

pub returns : goal.returns
returns c = testing ℤ equal neg_ℤ equal_is
