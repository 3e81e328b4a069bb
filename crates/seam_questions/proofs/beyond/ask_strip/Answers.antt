use Rattle.file.specs.Views.{told}
use Rattle.seam_questions.proofs.SideMarks.{lent_good}
use Rattle.seam_questions.proofs.beyond.ask_strip.Goals as goal

pub all_right-requires-clause-named : goal.all_right-requires-clause-named
all_right-requires-clause-named c =
    let file = c.args.judged.file in
    lent_good file.bytes.now file.count c.args.j (told c.strip-s.result) c.args.judged.judged c.requires c.strip-s.ensures.told
