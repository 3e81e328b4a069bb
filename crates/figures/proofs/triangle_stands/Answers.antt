-- The contract of triangle_stands is `triangle-is` of proofs/Seen.antt.
use Rattle.figures.proofs.Seen.{triangle_is}
use Rattle.figures.proofs.triangle_stands.Goals as goal

pub returns : goal.returns
returns c = triangle_is
