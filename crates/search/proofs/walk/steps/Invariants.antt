use Rattle.std.proofs.Common.{◌≡◌, ℕ, ◌-◌, ◌*◌, ◌<◌}
use Rattle.flat.specs.Orbits.{iterate}
use Rattle.turning.specs.Limits.{max_edge}
use Rattle.search.specs.Lengths.{Walked}
use Rattle.search.proofs.walk.steps.Given as goal

-- x is `count` steps from h, and k was not met before
abbrev pub invariant-loop-x : goal.invariant-loop-x
invariant-loop-x g l =
    Walked (g.T.Turning.turn l.t).follower l.h l.x l.count
    × ((j : ℕ) → j < l.count → ¬ (iterate j (g.T.Turning.turn l.t).follower l.h ≡ l.k))

abbrev pub decreases-loop-x : goal.decreases-loop-x
decreases-loop-x g l = 2 * max_edge - l.count
