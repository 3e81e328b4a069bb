use Rattle.std.proofs.Common.{◌≡◌, ◌*◌, take}
use Rattle.writing.specs.Words.{WritesEach}
use Rattle.writing.proofs.words.write_each.Given as goal

-- the words of the first k items are written
abbrev pub invariant-loop-k : goal.invariant-loop-k
invariant-loop-k g l = WritesEach (λ x bytes. (w : g.row.W.Denot) × (goal.F-post g l.word x w × (bytes ≡ g.W.AsSlice.items w))) (take l.k l.items) (take (l.size * l.k) l.part)
