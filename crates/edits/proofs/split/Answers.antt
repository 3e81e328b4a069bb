use Rattle.std.proofs.Common.{◌≡◌, sym, subst, rules}
use Rattle.turning.specs.Limits.{max_edge}
use Rattle.turning.specs.declared.refusal.Refusal.TheVariants.{NoRoom}
use Rattle.chart.specs.Stores.{meant}
use Rattle.edits.specs.Edits.{splits, Done}
use Rattle.edits.proofs.Tables.{said, split_done}
use Rattle.edits.proofs.Keeping.{keeps_flat}
use Rattle.edits.proofs.split.Goals as goal

pub returns : goal.returns
returns g c =
    let m = meant g.S.Turning.turn g.S.Chart.points g.S.Store.frame g.S.Store.fits in
    let x = c.args.store.now in
    let e = splits c.args.edge c.args.east c.args.p in
    let told : c.ok_or.result ≡ said c.cleave-done.result NoRoom = search rules in
    let done : Done max_edge (m x) e c.ok_or.result (m c.cleave-done.new.self) =
    subst (λ o. Done max_edge (m x) e o (m c.cleave-done.new.self)) (sym told)
    (split_done max_edge (m x) c.args.east (sym c.if-not-is_number.ensures) (sym c.if-holds_edge.ensures) (m c.cleave-done.new.self) c.cleave-done.result
    c.args.edge c.args.p (sym c.if-not-holds_edge.ensures) (sym c.if-not-is_free.ensures) (sym c.if-not-is_inside.ensures) c.cleave-done.ensures) in
    record { done = done; flat = keeps_flat max_edge (m x) (g.S.Turning.lawful x, c.placed.ensures) _ e _ done }
