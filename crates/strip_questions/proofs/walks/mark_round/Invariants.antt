use Rattle.std.proofs.Common.{◌≡◌, ℕ, ◌<◌, cond, get_or}
use Rattle.flat.specs.Orbits.{iterate}
use Rattle.file.specs.Strips.{met}
use Rattle.file.specs.Views.{told}
use Rattle.strip_questions.proofs.walks.mark_round.Given as goal

abbrev pub invariant-loop-n : goal.invariant-loop-n
invariant-loop-n l =
    (l.at ≡ iterate l.n (told l.s).follower l.i)
    × ((k : ℕ) → k < l.s.slots → get_or l.marks k 0 ≡ cond (met (told l.s) l.i l.n k) 1 (get_or l.initial.marks k 0))
