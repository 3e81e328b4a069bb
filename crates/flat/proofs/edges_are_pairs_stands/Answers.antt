-- The contract of edges_are_pairs_stands is `edges-are-pairs` of proofs/Proved.antt.
use Rattle.std.proofs.Common.{ℤ, neg_ℤ}
use Rattle.flat.specs.Whole.{equal}
use Rattle.flat.proofs.Whole.{equal_is}
use Rattle.flat.proofs.Proved.{edges_are_pairs}
use Rattle.flat.proofs.edges_are_pairs_stands.Goals as goal

pub returns : goal.returns
returns c = edges_are_pairs ℤ equal neg_ℤ equal_is
