use Rattle.std.proofs.Common.{◌≡◌, sym, refl, subst, rules}
use Rattle.turning.specs.Limits.{max_edge}
use Rattle.turning.specs.declared.refusal.Refusal.TheVariants.{NotThere}
use Rattle.chart.specs.Stores.{meant}
use Rattle.edits.specs.Edits.{removes, questions, Done}
use Rattle.edits.proofs.Tables.{said, closes}
use Rattle.edits.proofs.Keeping.{keeps_flat}
use Rattle.edits.proofs.remove.Goals as goal

pub returns : goal.returns
returns g c =
    let m = meant g.S.Turning.turn g.S.Chart.points g.S.Store.frame g.S.Store.fits in
    let x = c.args.store.now in
    let e = removes c.args.edge in
    let told : c.ok_or.result ≡ said c.lift-done.result NotThere = search rules in
    let done : Done max_edge (m x) e c.ok_or.result (m c.lift-done.new.self) = subst (λ o. Done max_edge (m x) e o (m c.lift-done.new.self)) (sym told) (closes (questions max_edge (m x) e) _ (m x) _ NotThere _ c.lift-done.result refl c.lift-done.ensures) in
    record { done = done; flat = keeps_flat max_edge (m x) (g.S.Turning.lawful x, c.placed.ensures) _ e _ done }
