-- The contract of any_cleave_stands is `any-cleaving` of proofs/Proved.antt.
use Rattle.std.proofs.Common.{ℤ, neg_ℤ}
use Rattle.flat.specs.Whole.{equal}
use Rattle.flat.proofs.Whole.{equal_is}
use Rattle.flat.proofs.Proved.{any_cleaving}
use Rattle.flat.proofs.any_cleave_stands.Goals as goal

pub returns : goal.returns
returns c = any_cleaving ℤ equal neg_ℤ equal_is
