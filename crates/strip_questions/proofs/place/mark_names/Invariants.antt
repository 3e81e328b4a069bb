use Rattle.std.proofs.Common.{◌≡◌, Bool, true, ◌&&◌, cond, get_or, ℤ}
use Rattle.turning.specs.Limits.{max_edge}
use Rattle.search.specs.Marks.{place as mark_at}
use Rattle.file.specs.Questions.{named}
use Rattle.file.specs.Strips.{names}
use Rattle.file.specs.Views.{told}
use Rattle.strip_questions.proofs.place.mark_names.Given as goal

abbrev pub invariant-loop-i : goal.invariant-loop-i
invariant-loop-i g l = (yes : ℤ → Bool) → ((h : ℤ) (b : Bool) → goal.F-post g l.wanted h b → b ≡ yes h) → (z : ℤ) → named max_edge z ≡ true
    → get_or l.marks (mark_at max_edge z) 0 ≡ cond (yes z && names (told l.s) l.i z) 1 (get_or l.initial.marks (mark_at max_edge z) 0)
