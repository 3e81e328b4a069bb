use Rattle.std.proofs.Common.{◌≡◌, ℕ, ◌<◌, length, get_or}
use Rattle.turning.specs.Limits.{max_edge, marks_for}
use Rattle.file.specs.Views.{told}
use Rattle.strip_questions.specs.Counts.{capped}
use Rattle.strip_questions.proofs.Counts.{followed_by}
use Rattle.strip_questions.proofs.followed.mark_followed.Given as goal

abbrev pub invariant-loop-k : goal.invariant-loop-k
invariant-loop-k l = record {
  long : length l.marks ≡ marks_for max_edge;
  counted : (i : ℕ) → i < l.s.slots → get_or l.marks i 0 ≡ capped (followed_by (told l.s) l.k i);
}
