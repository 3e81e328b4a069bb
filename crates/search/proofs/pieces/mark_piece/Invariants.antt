use Rattle.std.proofs.Common.{◌≡◌, ◌-◌, T, length}
use Rattle.turning.specs.Limits.{max_edge, marks_for, line_for}
use Rattle.search.specs.Marks.{marked}
use Rattle.search.proofs.Floods.{Flood, But}
use Rattle.search.proofs.pieces.mark_piece.Given as goal

-- h is marked where the loop begins
abbrev pub invariant-loop-x : goal.invariant-loop-x
invariant-loop-x g l =
    Flood max_edge (g.T.Turning.turn l.t) l.h (But max_edge l.initial.marks l.h) l.marks l.queue.names.now l.queue.at l.queue.end
    × T (marked max_edge l.marks l.h)
    × (length l.marks ≡ marks_for max_edge)
    × (length l.queue.names.now ≡ line_for max_edge)

abbrev pub decreases-loop-x : goal.decreases-loop-x
decreases-loop-x g l = line_for max_edge - l.queue.at
