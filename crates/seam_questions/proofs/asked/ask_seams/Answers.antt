use Rattle.std.proofs.Common.{rules}
use Rattle.file.specs.Verdict.{seam_verdict}
use Rattle.seam_questions.proofs.asked.ask_seams.Goals as goal

pub returns-in_err-ask_runs_on : goal.returns-in_err-ask_runs_on
unfolding seam_verdict
returns-in_err-ask_runs_on c = search rules

pub returns-in_err-ask_starts_here : goal.returns-in_err-ask_starts_here
unfolding seam_verdict
returns-in_err-ask_starts_here c = search rules

pub returns-in_err-ask_homes : goal.returns-in_err-ask_homes
unfolding seam_verdict
returns-in_err-ask_homes c = search rules

pub returns-in_err-ask_westward : goal.returns-in_err-ask_westward
unfolding seam_verdict
returns-in_err-ask_westward c = search rules

pub returns : goal.returns
unfolding seam_verdict
returns c = search rules
