use Rattle.told.proofs.Telling.{accepted_tells}
use Rattle.told.proofs.accepted_tells_stands.Goals as goal

pub returns : goal.returns
returns c = accepted_tells
