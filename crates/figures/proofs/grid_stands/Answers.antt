-- The contract of grid_stands is `grid-is` of proofs/Seen.antt.
use Rattle.figures.proofs.Seen.{grid_is}
use Rattle.figures.proofs.grid_stands.Goals as goal

pub returns : goal.returns
returns c = grid_is
