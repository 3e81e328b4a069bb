use Rattle.std.proofs.Common.{◌≡◌}
use Rattle.file.specs.Layout.{border}
use Rattle.told.specs.Tells.{list_below}
use Rattle.reading.proofs.laying.read_borders.Given as goal

-- the first k borders are copied
abbrev pub invariant-loop-k : goal.invariant-loop-k
invariant-loop-k l = l.borders.items ≡ list_below (border l.file.bytes.now) l.k
