-- The contract of orbits_count_stands is `orbits-count` of proofs/Proved.antt.
use Rattle.std.proofs.Common.{ℤ, neg_ℤ}
use Rattle.flat.specs.Whole.{equal}
use Rattle.flat.proofs.Whole.{equal_is}
use Rattle.flat.proofs.Proved.{orbits_count}
use Rattle.flat.proofs.orbits_count_stands.Goals as goal

pub returns : goal.returns
returns c = orbits_count ℤ equal neg_ℤ equal_is
