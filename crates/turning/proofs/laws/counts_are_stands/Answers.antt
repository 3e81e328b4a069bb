use Rattle.turning.proofs.Worded.{counts_are}
use Rattle.turning.proofs.laws.counts_are_stands.Goals as goal

pub returns : goal.returns
returns c = counts_are
