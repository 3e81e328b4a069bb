use Rattle.turning.proofs.Tests.{loops_listed}
use Rattle.turning.proofs.laws.loops_listed_stands.Goals as goal

pub returns : goal.returns
returns c = loops_listed
