-- The contract of orbits_found_stands is `orbits-found` of proofs/Proved.antt.
use Rattle.std.proofs.Common.{ℤ, neg_ℤ}
use Rattle.flat.specs.Whole.{equal}
use Rattle.flat.proofs.Whole.{equal_is}
use Rattle.flat.proofs.Proved.{orbits_found}
use Rattle.flat.proofs.orbits_found_stands.Goals as goal

pub returns : goal.returns
returns c = orbits_found ℤ equal neg_ℤ equal_is
