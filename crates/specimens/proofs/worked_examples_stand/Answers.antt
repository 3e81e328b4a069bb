-- The contract is all that the other files of proofs/ compute.
use Rattle.specimens.proofs.Triangle.{triangle_drawn, triangle_is, triangle_joined, triangle_cut}
use Rattle.specimens.proofs.Edges.{edge_is, edges_bridged, edge_split}
use Rattle.specimens.proofs.Judged.{edge_accepted, half_refused, twisted_refused, theta_accepted}
use Rattle.specimens.proofs.worked_examples_stand.Goals as goal

pub returns : goal.returns
returns c = (
  edge_accepted,
  half_refused,
  triangle_drawn,
  triangle_is,
  triangle_joined,
  triangle_cut,
  twisted_refused,
  theta_accepted,
  edge_is,
  edges_bridged,
  edge_split,
)
