use Rattle.runs.proofs.Agree.{runs_agree}
use Rattle.runs.proofs.theorems.runs_agree_stands.Goals as goal

pub returns : goal.returns
returns c = runs_agree
