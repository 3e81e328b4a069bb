use Rattle.std.proofs.Common.{◌≡◌, ℕ, ◌<◌, true, get_or, ℤ}
use Rattle.turning.specs.Limits.{max_edge}
use Rattle.search.specs.Marks.{place as mark_at}
use Rattle.file.specs.Questions.{named, paired}
use Rattle.file.specs.Views.{told}
use Rattle.strip_questions.proofs.Marks.{seen}
use Rattle.strip_questions.proofs.paired.find_unpaired.Given as goal

abbrev pub invariant-loop-i : goal.invariant-loop-i
invariant-loop-i l =
    ((z : ℤ) → named max_edge z ≡ true → get_or l.marks (mark_at max_edge z) 0 ≡ seen (told l.s) l.i z)
    × ((k : ℕ) → k < l.i → paired (told l.s) k ≡ true)
