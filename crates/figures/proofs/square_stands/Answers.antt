-- The contract of square_stands is `square-is` of proofs/Seen.antt.
use Rattle.figures.proofs.Seen.{square_is}
use Rattle.figures.proofs.square_stands.Goals as goal

pub returns : goal.returns
returns c = square_is
