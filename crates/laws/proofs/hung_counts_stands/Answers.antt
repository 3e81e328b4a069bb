-- The contract of hung_counts_stands is `hung-counts` of proofs/Proved.antt.
use Rattle.laws.proofs.Proved.{hung_counts}
use Rattle.laws.proofs.hung_counts_stands.Goals as goal

pub returns : goal.returns
returns c = hung_counts
