use Rattle.turning.proofs.Tests.{flat_listed}
use Rattle.turning.proofs.laws.flat_listed_stands.Goals as goal

pub returns : goal.returns
returns c = flat_listed
