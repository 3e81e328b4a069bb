-- The contract of euler_stands is `euler` of proofs/Proved.antt.
use Rattle.laws.proofs.Proved.{euler}
use Rattle.laws.proofs.euler_stands.Goals as goal

pub returns : goal.returns
returns c = euler
