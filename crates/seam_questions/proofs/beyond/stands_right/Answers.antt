use Rattle.std.proofs.Common.{ap, ◌∙◌}
use Rattle.file.specs.Layout.{strips, strip}
use Rattle.file.specs.Questions.{beyond}
use Rattle.file.specs.Strips.{home}
use Rattle.seam_questions.proofs.SideMarks.{other_kind, asked_kind}
use Rattle.seam_questions.proofs.beyond.stands_right.Goals as goal

pub returns-then-is_home-homes : goal.returns-then-is_home-homes
returns-then-is_home-homes c =
    let b = c.args.judged.file.bytes.now in
    other_kind (strips b) (strip b) c.args.j c.args.i _ (c.is_home.ensures ∙ ap (λ y. home y c.args.i) c.requires.strip) c.args.homes c.if-is_home-homes.true

pub returns-else-is_home-homes : goal.returns-else-is_home-homes
returns-else-is_home-homes c =
    let b = c.args.judged.file.bytes.now in
    asked_kind (strips b) (strip b) c.args.j c.args.i _ (c.is_home.ensures ∙ ap (λ y. home y c.args.i) c.requires.strip) c.args.homes _
    (c.is_beyond.ensures ∙ ap (λ y. beyond (strips b) (strip b) c.args.j (y.name c.args.i)) c.requires.strip) c.if-is_home-homes.false
