use Rattle.std.proofs.Common.{◌&&◌, eqb, get_or, ap, ◌∙◌}
use Rattle.file.specs.Views.{told}
use Rattle.strip_questions.proofs.Rounding.{opens_is}
use Rattle.strip_questions.proofs.walks.opens_round.Goals as goal

pub returns-then-is_home : goal.returns-then-is_home
returns-then-is_home c =
    ap (λ b. b && eqb (get_or c.args.marks.now c.args.i 0) 0) c.if-is_home.ensures
    ∙ opens_is (told c.args.s) c.requires.turned c.args.i (get_or c.args.marks.now c.args.i 0) c.requires.slot c.requires.marked
