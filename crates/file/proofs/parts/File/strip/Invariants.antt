use Rattle.std.proofs.Common.{◌≡◌, ◌+◌, ◌*◌}
use Rattle.file.specs.Layout.{strip_at}
use Rattle.file.proofs.parts.File.strip.Given as goal

abbrev pub invariant-loop-k : goal.invariant-loop-k
invariant-loop-k l = (l.at ≡ strip_at l.self.bytes.now l.k) × (l.sizes.at ≡ 2 + 4 * l.k) × (l.sizes.bytes.now ≡ l.self.bytes.now)
