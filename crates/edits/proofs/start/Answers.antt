use Rattle.std.proofs.Common.{◌≡◌, sym, ◌∙◌, subst, subst₂, rules}
use Rattle.turning.specs.Limits.{max_edge}
use Rattle.turning.specs.declared.refusal.Refusal.TheVariants.{NoRoom}
use Rattle.chart.specs.Stores.{meant, Hangs}
use Rattle.chart.proofs.Compared.{points_equal}
use Rattle.edits.specs.Edits.{starts, Done}
use Rattle.edits.proofs.Tables.{said, start_done}
use Rattle.edits.proofs.Keeping.{keeps_flat}
use Rattle.edits.proofs.start.Goals as goal

pub returns : goal.returns
returns g c =
    let m = meant g.S.Turning.turn g.S.Chart.points g.S.Store.frame g.S.Store.fits in
    let x = c.args.store.now in
    let e = starts c.args.edge c.args.p c.args.q in
    let told : c.ok_or.result ≡ said c.hang-done.result NoRoom = search rules in
    let done : Done max_edge (m x) e c.ok_or.result (m c.hang-done.new.self) =
    subst (λ o. Done max_edge (m x) e o (m c.hang-done.new.self)) (sym told)
    (start_done max_edge (m x) c.args.edge (sym c.if-not-is_number.ensures) (sym c.if-holds_edge.ensures) (m c.hang-done.new.self) c.hang-done.result
    c.args.p c.args.q (sym c.if-not-is_free.ensures) (sym c.if-not-is_free-2.ensures) (sym (c.if-eq.ensures ∙ points_equal c.args.p c.args.q))
    (subst₂ (λ a b. Hangs max_edge (m x) c.args.edge a b c.hang-done.result (m c.hang-done.new.self)) c.new.ensures c.new-2.ensures c.hang-done.ensures)) in
    record { done = done; flat = keeps_flat max_edge (m x) (g.S.Turning.lawful x, c.placed.ensures) _ e _ done }
