-- The contract of filter_is_stands is `filter-those` of proofs/Proved.antt.
use Rattle.std.proofs.Common.{ℤ, neg_ℤ}
use Rattle.flat.specs.Whole.{equal}
use Rattle.flat.proofs.Whole.{equal_is}
use Rattle.flat.proofs.Proved.{filter_those}
use Rattle.flat.proofs.filter_is_stands.Goals as goal

pub returns : goal.returns
returns c = filter_those ℤ equal neg_ℤ equal_is
