-- The contract of splice_orbits_stands is `splice-orbits` of proofs/Proved.antt.
use Rattle.std.proofs.Common.{ℤ, neg_ℤ}
use Rattle.flat.specs.Whole.{equal}
use Rattle.flat.proofs.Whole.{equal_is}
use Rattle.flat.proofs.Proved.{splice_orbits}
use Rattle.flat.proofs.splice_orbits_stands.Goals as goal

pub returns : goal.returns
returns c = splice_orbits ℤ equal neg_ℤ equal_is
