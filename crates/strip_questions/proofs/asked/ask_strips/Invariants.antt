use Rattle.std.proofs.Common.{◌≡◌, ℕ, ◌+◌, ◌<◌, None}
use Rattle.file.specs.Layout.{strip, western, eastern}
use Rattle.file.specs.Verdict.{strip_verdict}
use Rattle.strip_questions.proofs.asked.ask_strips.Given as goal

abbrev pub invariant-loop-j : goal.invariant-loop-j
invariant-loop-j l = (k : ℕ) → k < l.j → strip_verdict (western l.file.bytes.now k) (eastern l.file.bytes.now k) (strip l.file.bytes.now k) (k + 1) ≡ None
