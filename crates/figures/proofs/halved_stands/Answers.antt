-- The contract of halved_stands is `halved_is` of proofs/Seen.antt.
use Rattle.figures.proofs.Seen.{halved_is}
use Rattle.figures.proofs.halved_stands.Goals as goal

pub returns : goal.returns
returns c = halved_is
