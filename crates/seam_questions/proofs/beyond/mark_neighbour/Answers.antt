use Rattle.file.specs.Views.{told}
use Rattle.seam_questions.proofs.SideMarks.{lent_good}
use Rattle.seam_questions.proofs.beyond.mark_neighbour.Goals as goal

pub mark_names-requires-clause-named : goal.mark_names-requires-clause-named
mark_names-requires-clause-named c =
    let file = c.args.judged.file in
    lent_good file.bytes.now file.count c.in-Some.k (told c.strip.result) c.args.judged.judged (c.requires.strip c.in-Some.k c.in-Some.is) c.strip.ensures.told
