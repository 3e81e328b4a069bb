-- The contract of torus_stands is `torus-is` of proofs/Seen.antt.
use Rattle.figures.proofs.Seen.{torus_is}
use Rattle.figures.proofs.torus_stands.Goals as goal

pub returns : goal.returns
returns c = torus_is
