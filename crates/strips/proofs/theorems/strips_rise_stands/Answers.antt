use Rattle.strips.proofs.Cutting.{strips_rise}
use Rattle.strips.proofs.theorems.strips_rise_stands.Goals as goal

pub returns : goal.returns
returns c = strips_rise
