use Rattle.told.proofs.BackWhole.{told_accepted}
use Rattle.told.proofs.told_accepted_stands.Goals as goal

pub returns : goal.returns
returns c = told_accepted
