-- The contract of theta_stands is `theta-is` of proofs/Seen.antt.
use Rattle.figures.proofs.Seen.{theta_is}
use Rattle.figures.proofs.theta_stands.Goals as goal

pub returns : goal.returns
returns c = theta_is
