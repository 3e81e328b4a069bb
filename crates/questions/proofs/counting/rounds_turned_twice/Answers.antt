use Rattle.std.proofs.Common.{[], ◌∷◌, ap, ◌∙◌, rules}
use Rattle.turning.specs.Limits.{max_edge}
use Rattle.turning.specs.Refusals.{asked}
use Rattle.turning.specs.declared.refusal.Refusal.TheVariants.{ShortBuffers}
use Rattle.turning.proofs.Worded.{twice_rounds}
use Rattle.search.specs.Buffers.{enough_marks}
use Rattle.questions.proofs.counting.rounds_turned_twice.Goals as goal

pub returns : goal.returns
returns g c = record {
  same = search rules;
  answer = c.rounds_of-answer.ensures.answer ∙ ap (asked ((enough_marks max_edge c.args.marks.now, ShortBuffers) ∷ [])) (twice_rounds max_edge (g.T.Turning.turn c.args.t) (g.T.Turning.lawful c.args.t));
  zero = c.rounds_of-answer.ensures.zero;
}
