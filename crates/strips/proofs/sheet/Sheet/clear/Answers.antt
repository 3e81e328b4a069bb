use Rattle.std.proofs.Common.{ap}
use Rattle.strips.specs.Borders.{rising}
use Rattle.strips.proofs.Standing.{freed_kept, freed_lines}
use Rattle.strips.proofs.sheet.Sheet.clear.Goals as goal

pub invariant_of-self : goal.invariant_of-self
invariant_of-self c =
    let e = c.clear.ensures in
    record { ok = ∣ freed_kept _ c.clear.new.self.at.now e.length e.freed c.none-self.result.items ∣₁; rises = ap rising c.none-self.ensures }

pub returns-clause-empty : goal.returns-clause-empty
returns-clause-empty c =
    let e = c.clear.ensures in
    freed_lines _ c.clear.new.self.at.now e.length e.freed
