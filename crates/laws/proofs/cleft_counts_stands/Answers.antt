-- The contract of cleft_counts_stands is `cleft-counts` of proofs/Proved.antt.
use Rattle.laws.proofs.Proved.{cleft_counts}
use Rattle.laws.proofs.cleft_counts_stands.Goals as goal

pub returns : goal.returns
returns c = cleft_counts
