use Rattle.turning.specs.Limits.{max_edge}
use Rattle.search.proofs.Marking.{Rounding}
use Rattle.search.proofs.rounds.mark_round.Given as goal

abbrev pub invariant-loop-step : goal.invariant-loop-step
invariant-loop-step g l = Rounding max_edge (g.T.Turning.turn l.t) l.h l.x l._step l.initial.marks l.marks
