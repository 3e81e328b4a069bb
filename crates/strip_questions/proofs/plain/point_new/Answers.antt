use Rattle.std.proofs.Common.{not, rules}
use Rattle.chart.specs.Points.{same_point}
use Rattle.file.specs.Views.{told}
use Rattle.file.proofs.Places.{none_each}
use Rattle.strip_questions.proofs.plain.point_new.Goals as goal

pub returns : goal.returns
returns c =
    let point = (told c.args.s).point in
    none_each (λ m. same_point (point m) (point c.args.k)) c.args.k _ _ c.is_none.ensures
    (c.first_no.ensures (λ m. not (same_point (point m) (point c.args.k))) (λ m b h post. search rules))
