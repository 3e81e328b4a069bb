use Rattle.std.proofs.Common.{◌≡◌, ℕ, ◌+◌, ◌<◌, None}
use Rattle.file.specs.Layout.{strips, strip}
use Rattle.file.specs.Places.{at, each}
use Rattle.file.specs.Verdict.{seam_fault}
use Rattle.seam_questions.specs.Sides.{stands_right, asked_of}
use Rattle.seam_questions.proofs.beyond.ask_beyond.Given as goal

abbrev pub invariant-loop-j : goal.invariant-loop-j
invariant-loop-j l = (k : ℕ) → k < l.j
    → at (seam_fault (asked_of l.homes) (k + 1)) (each (strip l.judged.file.bytes.now k).slots (stands_right l.homes (strips l.judged.file.bytes.now) (strip l.judged.file.bytes.now) k)) ≡ None
