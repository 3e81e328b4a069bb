-- The contract of lift_keeps_stands is `lift-sound` of proofs/Edges.antt.
use Rattle.laws.proofs.Edges.{lift_sound}
use Rattle.laws.proofs.lift_keeps_stands.Goals as goal

pub returns : goal.returns
returns c = lift_sound
