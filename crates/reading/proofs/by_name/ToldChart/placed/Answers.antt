use Rattle.reading.proofs.Telling.{placed_of}
use Rattle.reading.proofs.by_name.ToldChart.placed.Goals as goal

pub returns : goal.returns
returns c = placed_of _ c.args.self.now.ok
