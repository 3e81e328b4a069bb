use Rattle.reading.specs.Entering.{Entered}
use Rattle.reading.proofs.entering.enter_strip.Given as goal

abbrev pub invariant-loop-i : goal.invariant-loop-i
invariant-loop-i l = Entered l.bytes l.j l.i l.entries
