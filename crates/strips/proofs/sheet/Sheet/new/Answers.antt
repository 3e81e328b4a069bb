use Rattle.std.proofs.Common.{ap}
use Rattle.strips.specs.Borders.{rising}
use Rattle.strips.proofs.Standing.{freed_kept, freed_lines}
use Rattle.strips.proofs.sheet.Sheet.new.Goals as goal

pub invariant_of-result : goal.invariant_of-result
invariant_of-result c =
    let e = c.new-rows.ensures in
    record { ok = ∣ freed_kept _ c.new-rows.result.at.now e.length e.freed c.none.result.items ∣₁; rises = ap rising c.none.ensures }

pub returns-clause-empty : goal.returns-clause-empty
returns-clause-empty c =
    let e = c.new-rows.ensures in
    freed_lines _ c.new-rows.result.at.now e.length e.freed
