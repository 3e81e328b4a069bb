use Rattle.strips.proofs.Sewing.{rooms_alike}
use Rattle.strips.proofs.theorems.rooms_alike_stands.Goals as goal

pub returns : goal.returns
returns c = rooms_alike
