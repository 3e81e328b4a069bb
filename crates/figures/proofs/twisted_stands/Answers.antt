-- The contract of twisted_stands is `twisted-is` of proofs/Seen.antt.
use Rattle.figures.proofs.Seen.{twisted_is}
use Rattle.figures.proofs.twisted_stands.Goals as goal

pub returns : goal.returns
returns c = twisted_is
