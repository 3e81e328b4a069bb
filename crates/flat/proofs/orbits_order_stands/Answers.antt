-- The contract of orbits_order_stands is `orbits-order` of proofs/Proved.antt.
use Rattle.std.proofs.Common.{ℤ, neg_ℤ}
use Rattle.flat.specs.Whole.{equal}
use Rattle.flat.proofs.Whole.{equal_is}
use Rattle.flat.proofs.Proved.{orbits_order}
use Rattle.flat.proofs.orbits_order_stands.Goals as goal

pub returns : goal.returns
returns c = orbits_order ℤ equal neg_ℤ equal_is
