use Rattle.told.proofs.Telling.{accepted_tells}
use Rattle.told.proofs.BackWhole.{told_accepted}
use Rattle.told.proofs.Exactly.{accepted_exactly}
use Rattle.told.proofs.accepted_exactly_stands.Goals as goal

pub returns : goal.returns
returns c = accepted_exactly accepted_tells told_accepted
