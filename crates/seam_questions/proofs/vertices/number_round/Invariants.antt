use Rattle.std.proofs.Common.{◌≡◌, ℕ, ◌<◌, cond, length, Some}
use Rattle.turning.specs.Limits.{max_edge, line_for}
use Rattle.flat.specs.Orbits.{iterate}
use Rattle.file.specs.Strips.{met}
use Rattle.file.specs.Views.{told}
use Rattle.seam_questions.specs.Vertices.{slot_at, vertex_at}
use Rattle.seam_questions.proofs.vertices.number_round.Given as goal

abbrev pub invariant-loop-n : goal.invariant-loop-n
invariant-loop-n l =
    (l.at ≡ iterate l.n (told l.s).follower l.i)
    × ((k : ℕ) → k < l.s.slots → vertex_at l.line (slot_at (told l.s) k) ≡ cond (met (told l.s) l.i l.n k) (Some l.v) (vertex_at l.initial.line (slot_at (told l.s) k)))
    × (length l.line ≡ line_for max_edge)
