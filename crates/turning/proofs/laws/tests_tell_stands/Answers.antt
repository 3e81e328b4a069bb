use Rattle.turning.proofs.Worded.{tests_tell}
use Rattle.turning.proofs.laws.tests_tell_stands.Goals as goal

pub returns : goal.returns
returns c = tests_tell
