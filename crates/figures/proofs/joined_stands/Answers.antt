-- The contract of joined_stands is `joined_is` of proofs/Seen.antt.
use Rattle.figures.proofs.Seen.{joined_is}
use Rattle.figures.proofs.joined_stands.Goals as goal

pub returns : goal.returns
returns c = joined_is
