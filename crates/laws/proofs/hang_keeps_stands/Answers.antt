-- The contract of hang_keeps_stands is `hung-sound` of proofs/Hung.antt.
use Rattle.laws.proofs.Hung.{hung_sound}
use Rattle.laws.proofs.hang_keeps_stands.Goals as goal

pub returns : goal.returns
returns c = hung_sound
