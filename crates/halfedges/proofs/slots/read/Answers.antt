use Rattle.std.proofs.Common.{◌≡◌, suc, ◌-◌, sym, ap, ◌∙◌, ⊎_elim, arith}
use Rattle.std.proofs.lemmas.List.{get_or_past}
use Rattle.turning.specs.Limits.{max_edge, slots}
use Rattle.halfedges.specs.View.{none, bare, seen}
use Rattle.halfedges.proofs.Views.{zero_row, row_is}
use Rattle.halfedges.proofs.slots.read.Goals as goal

pub returns-then-s-eq0 : goal.returns-then-s-eq0
returns-then-s-eq0 c =
    let rs = c.args.rows.now in
    let s = c.args.s in
    ⊎_elim (λ z. sym (ap (seen rs).row z ∙ zero_row max_edge slots rs))
    (λ (d, l).
    let e : s ≡ suc (s - 1) = omega arith in
    sym (ap (seen rs).row e ∙ row_is max_edge slots rs (s - 1) ∙ ap bare (get_or_past rs (s - 1) none (omega arith))))
    c.then-s-eq0.either

pub returns : goal.returns
returns c =
    let rs = c.args.rows.now in
    let s = c.args.s in
    let d = c.if-s-eq0.false in
    let e : s ≡ suc (s - 1) = omega arith in
    sym (ap (seen rs).row e ∙ row_is max_edge slots rs (s - 1))
