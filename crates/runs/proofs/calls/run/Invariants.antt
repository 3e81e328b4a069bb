use Rattle.runs.specs.Runs.{StepBy}
use Rattle.runs.proofs.Chained.{SoFar}
use Rattle.runs.proofs.calls.run.Given as goal

abbrev pub invariant-loop-item : goal.invariant-loop-item
invariant-loop-item g l = SoFar (StepBy g.C.Carry.carried) (g.C.Carry.means l.initial.store) l.initial.items l.items (g.C.Carry.means l.store) l.item-index
