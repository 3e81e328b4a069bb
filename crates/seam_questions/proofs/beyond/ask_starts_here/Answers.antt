use Rattle.file.specs.Verdict.{q14}
use Rattle.seam_questions.proofs.beyond.ask_starts_here.Goals as goal

pub returns : goal.returns
unfolding q14
returns c = c.ask_beyond.ensures
