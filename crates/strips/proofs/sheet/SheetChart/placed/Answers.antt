use Rattle.strips.proofs.Standing.{kept_sound}
use Rattle.strips.proofs.sheet.SheetChart.placed.Goals as goal

pub returns : goal.returns
returns c = (kept_sound c.args.self.now.borders.items _ c.args.self.now.ok).1
