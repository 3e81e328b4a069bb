-- The contract of linked_is_walk_stands is `linked-is-walk` of proofs/Proved.antt.
use Rattle.std.proofs.Common.{ℤ, neg_ℤ}
use Rattle.flat.specs.Whole.{equal}
use Rattle.flat.proofs.Whole.{equal_is}
use Rattle.flat.proofs.Proved.{linked_is_walk}
use Rattle.flat.proofs.linked_is_walk_stands.Goals as goal

pub returns : goal.returns
returns c = linked_is_walk ℤ equal neg_ℤ equal_is
