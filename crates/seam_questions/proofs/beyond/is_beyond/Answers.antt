use Rattle.std.proofs.Common.{get_or, ap, ◌∙◌}
use Rattle.file.specs.Layout.{strips, strip}
use Rattle.file.specs.Questions.{beyond}
use Rattle.file.specs.Views.{told}
use Rattle.seam_questions.proofs.SideMarks.{told_mark}
use Rattle.seam_questions.proofs.beyond.is_beyond.Goals as goal

pub returns : goal.returns
returns c =
    told_mark _ (beyond (strips c.args.judged.file.bytes.now) (strip c.args.judged.file.bytes.now) c.args.j ((told c.args.s).name c.args.i))
    (ap (λ k. get_or c.args.marks.now k 0) c.place_in.ensures.value ∙ c.requires.marked ((told c.args.s).name c.args.i) c.requires.named)
