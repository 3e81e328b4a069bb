use Rattle.file.specs.Views.{told}
use Rattle.strip_questions.proofs.Repeats.{earliest}
use Rattle.strip_questions.proofs.points.first_repeat.Goals as goal

pub returns : goal.returns
returns c =
    earliest (told c.args.s) c.list_vertices.new.vertices c.sort_unstable.new.self c.list_vertices.ensures c.sort_unstable.ensures.permutation c.sort_unstable.ensures.sorted c.lowest_repeat.result c.lowest_repeat.ensures
