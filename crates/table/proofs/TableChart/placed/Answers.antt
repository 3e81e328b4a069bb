use Rattle.table.proofs.Kept.{kept_sound}
use Rattle.table.proofs.TableChart.placed.Goals as goal

pub returns : goal.returns
returns c = (kept_sound _ c.args.self.now.ok).1
