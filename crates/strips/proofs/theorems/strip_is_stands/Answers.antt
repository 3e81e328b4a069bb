use Rattle.strips.proofs.Cutting.{strip_is}
use Rattle.strips.proofs.theorems.strip_is_stands.Goals as goal

pub returns : goal.returns
returns c = strip_is
