use Rattle.std.proofs.Common.{◌≡◌, ◌≤◌}
use Rattle.file.specs.Places.{count_below}
use Rattle.file.specs.Strips.{opens}
use Rattle.file.specs.Views.{told}
use Rattle.seam_questions.specs.Vertices.{NumberedBelow}
use Rattle.seam_questions.proofs.vertices.number_rounds.Given as goal

abbrev pub invariant-loop-i : goal.invariant-loop-i
invariant-loop-i l = (l.count ≡ count_below (opens (told l.s)) l.i) × (l.count ≤ l.i) × NumberedBelow (told l.s) l.i l.line
