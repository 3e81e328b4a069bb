use Rattle.std.proofs.Common.{◌≡◌, true, Ok, sym, ap, ◌∙◌}
use Rattle.std.proofs.lemmas.Bool.{cond-true, le-leb}
use Rattle.turning.specs.Limits.{max_edge, marks_for}
use Rattle.search.specs.Buffers.{enough_marks}
use Rattle.search.proofs.Buffers.{given_zero}
use Rattle.questions.proofs.counting.rounds_of.Goals as goal

pub returns-clause-answer : goal.returns-clause-answer
returns-clause-answer g c =
    let e : enough_marks max_edge c.args.marks.now ≡ true = le-leb _ _ c.in-Some.ensures.cases.enough in
    ap Ok c.count_rounds.ensures.count ∙ sym (cond-true (enough_marks max_edge c.args.marks.now) _ _ e)

pub returns-clause-zero : goal.returns-clause-zero
returns-clause-zero g c =
    let part = c.in-Some.ensures.cases in
    given_zero (enough_marks max_edge c.args.marks.now) (marks_for max_edge) 0 c.args.marks.now (le-leb _ _ part.enough) c.in-Some.part.now c.count_rounds.new.marks part.enough part.same c.count_rounds.ensures.zero
