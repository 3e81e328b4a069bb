use Rattle.std.proofs.Common.{◌≡◌, ◌+◌, ◌-◌, ◌*◌, ◌≤◌}
use Rattle.turning.specs.Limits.{slots as max_slots}
use Rattle.file.specs.Places.{first_bad, sum_below}
use Rattle.file.specs.Layout.{strips, slots_in, strip_at}
use Rattle.file.specs.Questions.{size_good}
use Rattle.file.proofs.whole.sizes_fit.Given as goal

abbrev pub invariant-loop-j : goal.invariant-loop-j
invariant-loop-j l =
    (l.total ≡ sum_below (slots_in l.head.bytes.now) l.j) × (l.total ≤ max_slots) × (l.end ≡ strip_at l.head.bytes.now l.j) × (l.end ≤ 300 + 12 * l.total)
    × (first_bad (size_good l.head.bytes.now) l.j (strips l.head.bytes.now - l.j) ≡ first_bad (size_good l.head.bytes.now) 0 (strips l.head.bytes.now))
    × (l.reader.at ≡ 2 + 4 * l.j) × (l.reader.bytes.now ≡ l.head.bytes.now)
