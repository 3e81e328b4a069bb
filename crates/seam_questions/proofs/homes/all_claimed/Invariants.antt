use Rattle.std.proofs.Common.{◌≡◌, ℕ, ◌<◌, true}
use Rattle.file.specs.Layout.{strip}
use Rattle.file.specs.Questions.{home_new}
use Rattle.seam_questions.specs.Homes.{HomesMarked}
use Rattle.seam_questions.proofs.homes.all_claimed.Given as goal

abbrev pub invariant-loop-i : goal.invariant-loop-i
invariant-loop-i l =
    HomesMarked l.judged.file.bytes.now l.j l.i l.marks
    × ((k : ℕ) → k < l.i → home_new (strip l.judged.file.bytes.now) l.j k ≡ true)
