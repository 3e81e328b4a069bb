use Rattle.file.specs.Verdict.{q13}
use Rattle.seam_questions.proofs.beyond.ask_runs_on.Goals as goal

pub returns : goal.returns
unfolding q13
returns c = c.ask_beyond.ensures
