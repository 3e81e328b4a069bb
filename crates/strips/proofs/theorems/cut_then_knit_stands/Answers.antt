use Rattle.strips.proofs.Sewing.{cut_then_knit}
use Rattle.strips.proofs.theorems.cut_then_knit_stands.Goals as goal

pub returns : goal.returns
returns c = cut_then_knit
