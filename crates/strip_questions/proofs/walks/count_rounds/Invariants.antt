use Rattle.std.proofs.Common.{◌≡◌, ℕ, ◌<◌, ◌≤◌, ◌&&◌, ltb, get_or}
use Rattle.flat.specs.Orbits.{indicator}
use Rattle.file.specs.Places.{count_below}
use Rattle.file.specs.Strips.{home, low, opens}
use Rattle.file.specs.Views.{told}
use Rattle.strip_questions.proofs.walks.count_rounds.Given as goal

abbrev pub invariant-loop-i : goal.invariant-loop-i
invariant-loop-i l =
    (l.count ≡ count_below (opens (told l.s)) l.i) × (l.count ≤ l.i)
    × ((k : ℕ) → k < l.s.slots → get_or l.marks k 0 ≡ indicator (home (told l.s) k && ltb (low (told l.s) k) l.i))
