-- The contract of cleave_keeps_stands is `cleft-sound` of proofs/Cleft.antt.
use Rattle.laws.proofs.Cleft.{cleft_sound}
use Rattle.laws.proofs.cleave_keeps_stands.Goals as goal

pub returns : goal.returns
returns c = cleft_sound
