use Rattle.std.proofs.Common.{sym, ap, ◌∙◌}
use Rattle.file.specs.Views.{told}
use Rattle.seam_questions.specs.Vertices.{vertex_at}
use Rattle.seam_questions.proofs.Numbering.{opens_asked}
use Rattle.seam_questions.proofs.vertices.opens_round.Goals as goal

pub returns-then-is_home : goal.returns-then-is_home
returns-then-is_home c =
    opens_asked (told c.args.s) c.requires.sound.turned c.args.i c.requires.slot _
    (c.vertex_at.ensures ∙ ap (vertex_at c.args.line.now) c.line_in.ensures.value ∙ c.requires.numbered c.args.i c.requires.slot)
    _ (sym c.is_home.ensures ∙ c.if-is_home.true) c.is_none.ensures
