use Rattle.turning.proofs.Worded.{piece_is}
use Rattle.turning.proofs.laws.piece_is_stands.Goals as goal

pub returns : goal.returns
returns c = piece_is
