use Rattle.writing.proofs.Telling.{written_tells}
use Rattle.writing.proofs.theorems.written_tells_stands.Goals as goal

pub returns : goal.returns
returns c = written_tells
