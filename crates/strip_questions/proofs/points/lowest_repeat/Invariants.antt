use Rattle.std.proofs.Common.{◌≡◌, ℕ, suc, ◌<◌, length, drop}
use Rattle.strip_questions.specs.Repeats.{Lowest}
use Rattle.strip_questions.proofs.points.lowest_repeat.Given as goal

-- the pairs up to place n are seen
abbrev pub invariant-loop-left : goal.invariant-loop-left
invariant-loop-left l =
    (n : ℕ) × (n < length l.sorted) × (l.left-iterator.a.rest.now ≡ drop n l.sorted) × (l.left-iterator.b.rest.now ≡ drop (suc n) l.sorted) × Lowest l.sorted (suc n) l.lowest
