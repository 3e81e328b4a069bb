use Rattle.turning.specs.Limits.{max_edge}
use Rattle.writing.proofs.CodeSlots.{NotedTo}
use Rattle.writing.proofs.arrays.note_slots.Given as goal

-- the first k names are noted
abbrev pub invariant-loop-k : goal.invariant-loop-k
invariant-loop-k l = NotedTo max_edge l.k l.names l.slots
