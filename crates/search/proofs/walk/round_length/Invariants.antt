use Rattle.std.proofs.Common.{◌≡◌, ℕ, ◌+◌, ◌-◌, ◌*◌, ℤ}
use Rattle.turning.specs.Limits.{max_edge}
use Rattle.search.specs.Lengths.{Walked}
use Rattle.search.proofs.walk.round_length.Given as goal

-- x is one step ahead of a walk that has met `count` names
abbrev pub invariant-loop-x : goal.invariant-loop-x
invariant-loop-x g l =
    (y : ℤ) × (m : ℕ) × Walked (g.T.Turning.turn l.t).follower l.h y m
    × (l.x ≡ (g.T.Turning.turn l.t).follower y) × (l.count ≡ m + 1)

abbrev pub decreases-loop-x : goal.decreases-loop-x
decreases-loop-x g l = 2 * max_edge + 1 - l.count
