use Rattle.std.proofs.Common.{◌≡◌, ℕ, ◌<◌, get_or}
use Rattle.file.specs.Views.{told}
use Rattle.strip_questions.specs.Repeats.{blank, vertex_at}
use Rattle.strip_questions.proofs.points.list_vertices.Given as goal

abbrev pub invariant-loop-k : goal.invariant-loop-k
invariant-loop-k l = (n : ℕ) → n < l.k → get_or l.vertices n blank ≡ vertex_at (told l.s) n
