use Rattle.reading.specs.Entering.{Entered}
use Rattle.reading.proofs.entering.enter.Given as goal

-- the first j strips are entered
abbrev pub invariant-loop-j : goal.invariant-loop-j
invariant-loop-j l = Entered l.judged.file.bytes.now l.j 0 l.entries
