use Rattle.std.proofs.Common.{◌≡◌, ◌*◌, Bool, true, false, leb, length, sym, refl, ap, ◌∙◌, arith}
use Rattle.std.proofs.lemmas.Bool.{leb-true}
use Rattle.turning.specs.Limits.{max_edge, slots}
use Rattle.halfedges.specs.View.{seen}
use Rattle.halfedges.specs.Rows.{lines_in}
use Rattle.halfedges.specs.Nothing.{short_lines}
use Rattle.halfedges.proofs.Blank.{blank_core, blank_used, blank_edges, blank_lines}
use Rattle.chart.specs.Linework.{no_lines}
use Rattle.table.specs.Tables.{Kept}
use Rattle.table.proofs.Table.new.Goals as goal

pub invariant_of-result : goal.invariant_of-result
invariant_of-result c =
    let rs = c.new-rows.result.at.now in
    let kept : Kept rs = λ long.
    let blank = c.new-rows.ensures.freed (omega (arith, c.new-rows.ensures.length, long)) in
    record { core = blank_core rs blank long; room = blank_used rs blank long ∙ sym (ap (λ n. 2 * n) (blank_edges rs blank long)) } in
    record { ok = ∣ kept ∣₁ }

pub returns-clause-empty : goal.returns-clause-empty
returns-clause-empty c = go (leb slots (length c.new-rows.result.at.now)) refl
  where
    go : (b : Bool) → leb slots (length c.new-rows.result.at.now) ≡ b → lines_in (seen c.new-rows.result.at.now) ≡ no_lines
    go true e = let long = leb-true _ _ e in blank_lines c.new-rows.result.at.now (c.new-rows.ensures.freed (omega (arith, c.new-rows.ensures.length, long))) long
    go false e = short_lines max_edge slots c.new-rows.result.at.now e
