use Rattle.std.proofs.Common.{◌∙◌}
use Rattle.chart.proofs.Compared.{points_equal}
use Rattle.strip_questions.proofs.points.Vertex.is_with.Goals as goal

pub returns : goal.returns
returns c = c.eq.ensures ∙ points_equal c.args.self.point c.args.other.point
