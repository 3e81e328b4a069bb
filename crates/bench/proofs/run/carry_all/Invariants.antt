use Rattle.std.proofs.Common.{◌≡◌}
use Rattle.std.specs.Slice.Iter.{chunks_exact_mut_size}
use Rattle.bench.proofs.run.carry_all.Given as goal

-- each place takes one answer
abbrev pub invariant-loop-bytes : goal.invariant-loop-bytes
invariant-loop-bytes l = chunks_exact_mut_size l.places ≡ 10
