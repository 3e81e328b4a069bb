-- The four counts of a turning. Assumes nothing.
use Rattle.std.specs.Prelude.{ℕ}
use Rattle.turning.specs.Turn.{Turn}
use Rattle.turning.specs.Counts.{rounds, loops, edges, pieces}
use Rattle.questions.specs.declared.Counts.{Counts}

-- the vertices, edges, loops and pieces
abbrev pub counted : ℕ → Turn → Counts
counted n t = record { vertices = rounds n t; edges = edges n t; loops = loops n t; pieces = pieces n t }
