use Rattle.std.proofs.Common.{◌≡◌, ℕ, ◌+◌, ◌<◌, None}
use Rattle.file.specs.declared.questions.SeamQuestion.TheVariants.{WestFirst}
use Rattle.file.specs.Layout.{strip}
use Rattle.file.specs.Places.{at, each}
use Rattle.file.specs.Questions.{west_first}
use Rattle.file.specs.Verdict.{seam_fault}
use Rattle.seam_questions.proofs.westward.ask_westward.Given as goal

abbrev pub invariant-loop-j : goal.invariant-loop-j
invariant-loop-j l = (k : ℕ) → k < l.j → at (seam_fault WestFirst (k + 1)) (each (strip l.judged.file.bytes.now k).slots (west_first (strip l.judged.file.bytes.now k))) ≡ None
