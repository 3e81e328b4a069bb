use Rattle.std.proofs.Common.{ℕ, ◌<◌, true}
use Rattle.file.proofs.asking.first_no.Given as goal

abbrev pub invariant-loop-k : goal.invariant-loop-k
invariant-loop-k g l = (i : ℕ) → i < l.k → goal.F-post g l.good i true
