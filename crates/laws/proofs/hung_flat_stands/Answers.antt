-- The contract of hung_flat_stands is `hung-flat` of proofs/Proved.antt.
use Rattle.laws.proofs.Proved.{hung_flat}
use Rattle.laws.proofs.hung_flat_stands.Goals as goal

pub returns : goal.returns
returns c = hung_flat
