use Rattle.std.proofs.Common.{◌≡◌, ℕ, ◌+◌, ◌<◌, None}
use Rattle.file.specs.declared.questions.SeamQuestion.TheVariants.{Homes}
use Rattle.file.specs.Layout.{strip}
use Rattle.file.specs.Places.{at, each}
use Rattle.file.specs.Questions.{home_new}
use Rattle.file.specs.Verdict.{seam_fault}
use Rattle.seam_questions.specs.Homes.{HomesMarked}
use Rattle.seam_questions.proofs.homes.claim_all.Given as goal

abbrev pub invariant-loop-j : goal.invariant-loop-j
invariant-loop-j l =
    HomesMarked l.judged.file.bytes.now l.j 0 l.marks
    × ((k : ℕ) → k < l.j → at (seam_fault Homes (k + 1)) (each (strip l.judged.file.bytes.now k).slots (home_new (strip l.judged.file.bytes.now) k)) ≡ None)
