-- The contract of changed_stands is `changed-is` of proofs/Seen.antt.
use Rattle.figures.proofs.Seen.{changed_is}
use Rattle.figures.proofs.changed_stands.Goals as goal

pub returns : goal.returns
returns c = changed_is
