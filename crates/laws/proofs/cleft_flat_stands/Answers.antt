-- The contract of cleft_flat_stands is `cleft-flat` of proofs/Proved.antt.
use Rattle.laws.proofs.Proved.{cleft_flat}
use Rattle.laws.proofs.cleft_flat_stands.Goals as goal

pub returns : goal.returns
returns c = cleft_flat
