use Rattle.turning.proofs.Worded.{twice_rounds}
use Rattle.turning.proofs.laws.side_twice_stands.Goals as goal

pub returns : goal.returns
returns c = twice_rounds
