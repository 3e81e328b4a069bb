-- The contract of edge_stands is `edge-is` of proofs/Seen.antt.
use Rattle.figures.proofs.Seen.{edge_is}
use Rattle.figures.proofs.edge_stands.Goals as goal

pub returns : goal.returns
returns c = edge_is
