use Rattle.turning.specs.Counts.{rounds}
use Rattle.search.proofs.rounds.count_rounds.Goals as goal

pub returns-clause-count : goal.returns-clause-count
unfolding rounds
returns-clause-count g c = c.count_classes.ensures
