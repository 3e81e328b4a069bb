use Rattle.std.proofs.Common.{◌≡◌, suc, ◌+◌, ◌*◌, ◌≤◌, leb, length, sym, ap, ◌∙◌, ap₂, add-one, arith, w32, SFits, rules}
use Rattle.std.proofs.lemmas.Bool.{leb-true}
use Rattle.std.proofs.lemmas.Int.{to_z-of_z}
use Rattle.turning.specs.Limits.{slots}
use Rattle.halfedges.specs.View.{seen}
use Rattle.halfedges.proofs.Counted.{used_within}
use Rattle.strips.specs.Borders.{strip_of, apart}
use Rattle.strips.proofs.Standing.{kept_out, long_fits}
use Rattle.strips.proofs.sheet.Sheet.has_room.Goals as goal

pub overflow_add-result-2 : goal.overflow_add-result-2
overflow_add-result-2 c = omega (arith, used_within slots (seen c.args.self.now.rows.at.now), c.count_used.ensures, c.abs_diff-crossed.type_inv)

pub returns : goal.returns
returns c =
    let bs = c.args.self.now.borders.items in
    let rs = c.args.self.now.rows.at.now in
    let p = c.args.p in
    let q = c.args.q in
    let fp : SFits w32 p.x = search rules in
    let fq : SFits w32 q.x = search rules in
    let west : c.strip_of.result ≡ strip_of bs p.x = c.strip_of.ensures ∙ ap (strip_of bs) (to_z-of_z w32 _ fp) in
    let east : c.strip_of-2.result ≡ strip_of bs q.x = c.strip_of-2.ensures ∙ ap (strip_of bs) (to_z-of_z w32 _ fq) in
    let k : c.abs_diff-crossed.result + 1 ≡ suc (apart (strip_of bs p.x) (strip_of bs q.x)) = add-one c.abs_diff-crossed.result ∙ ap suc (c.abs_diff-crossed.ensures ∙ ap₂ apart west east) in
    let long : slots ≤ length rs = leb-true _ _ (sym c.if-not-is_long.ensures) in
    ap₂ (λ u m. leb (u + 2 * m) slots) c.count_used.ensures k
    ∙ sym (long_fits bs rs (kept_out bs rs c.args.self.now.ok) p q long)
