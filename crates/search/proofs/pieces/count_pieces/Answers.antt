use Rattle.turning.specs.Counts.{pieces}
use Rattle.search.proofs.pieces.count_pieces.Goals as goal

pub returns-clause-count : goal.returns-clause-count
unfolding pieces
returns-clause-count g c = c.count_classes.ensures
