-- The contract of lifted_flat_stands is `lifted-flat` of proofs/Proved.antt.
use Rattle.laws.proofs.Proved.{lifted_flat}
use Rattle.laws.proofs.lifted_flat_stands.Goals as goal

pub returns : goal.returns
returns c = lifted_flat
