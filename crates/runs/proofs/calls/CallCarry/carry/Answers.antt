use Rattle.std.proofs.Common.{◌≡◌, pos, Err, vec_items, refl, ◌∙◌, subst, ap₂, w16, SFits, rules}
use Rattle.std.proofs.lemmas.List.{with_items_is}
use Rattle.std.proofs.lemmas.Int.{to_z-of_z}
use Rattle.turning.specs.Limits.{max_edge, marks_for, line_for}
use Rattle.turning.specs.declared.refusal.Refusal.TheVariants.{LoopsOfOnePiece}
use Rattle.search.specs.Buffers.{enough, given_back}
use Rattle.chart.specs.Stores.{meant}
use Rattle.edits.specs.Edits.{starts, sprouts, joins, splits, removes, Done, Judged}
use Rattle.runs.proofs.Carrying.{carried, same_join}
use Rattle.runs.proofs.calls.CallCarry.carry.Goals as goal

pub returns-in-Start : goal.returns-in-Start
returns-in-Start g c =
    let w = c.in-Start in
    rw w.is (carried max_edge _ _ (starts w.edge w.p w.q) _ c.start.ensures.done c.start.ensures.flat tt _ refl)

pub returns-in-Sprout : goal.returns-in-Sprout
returns-in-Sprout g c =
    let w = c.in-Sprout in
    let m = meant g.S.Turning.turn g.S.Chart.points g.S.Store.frame g.S.Store.fits in
    let e = c.sprout.ensures in
    let f : SFits w16 w.corner = search rules in
    rw w.is (carried max_edge _ _ (sprouts w.edge w.corner w.p) _
    (subst (λ z. Done max_edge (m c.args.store.now) (sprouts w.edge z w.p) c.sprout.result (m c.sprout.new.store)) (to_z-of_z w16 w.corner f) e.done)
    e.flat tt _ refl)

pub returns-in-Join : goal.returns-in-Join
returns-in-Join g c =
    let w = c.in-Join in
    let m = meant g.S.Turning.turn g.S.Chart.points g.S.Store.frame g.S.Store.fits in
    let x = c.args.store.now in
    let r = c.join.result in
    let e = c.join.ensures in
    let ms = c.as_mut_slice.ensures in
    let ls = c.as_mut_slice-in-Join.ensures in
    let fm = with_items_is w.marks c.join.new.marks (c.join.auto.marks ∙ ms.len) in
    let fl = with_items_is w.line c.join.new.line (c.join.auto.line ∙ ls.len) in
    let fc : SFits w16 w.at.c = search rules in
    let fd : SFits w16 w.at.d = search rules in
    let q = same_join w.edge (to_z-of_z w16 w.at.c fc) (to_z-of_z w16 w.at.d fd) ms.value ls.value in
    rw w.is (carried max_edge _ _ (joins w.edge w.at.c w.at.d (vec_items w.marks) (vec_items w.line)) _
    (subst (λ z. Done max_edge (m x) z r (m c.join.new.store)) q e.done)
    e.flat
    (subst (λ z. Judged max_edge (m x) z (r ≡ Err LoopsOfOnePiece)) q e.judged)
    _
    (same_join w.edge refl refl
    (fm ∙ e.zero ∙ ap₂ (λ a b. given_back (enough max_edge a b) (marks_for max_edge) 0 a) ms.value ls.value)
    (fl ∙ e.empty ∙ ap₂ (λ a b. given_back (enough max_edge a b) (line_for max_edge) (pos 0) b) ms.value ls.value)))

pub returns-in-Split : goal.returns-in-Split
returns-in-Split g c =
    let w = c.in-Split in
    rw w.is (carried max_edge _ _ (splits w.edge w.east w.p) _ c.split.ensures.done c.split.ensures.flat tt _ refl)

pub returns-in-Remove : goal.returns-in-Remove
returns-in-Remove g c =
    let w = c.in-Remove in
    rw w.is (carried max_edge _ _ (removes w.edge) _ c.remove.ensures.done c.remove.ensures.flat tt _ refl)
