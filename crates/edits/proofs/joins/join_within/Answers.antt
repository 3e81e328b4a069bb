use Rattle.std.proofs.Common.{◌≡◌, false, [], sym, refl, ◌∙◌, subst, subst₂, w16, rules}
use Rattle.std.proofs.lemmas.Int.{to_z-of_z}
use Rattle.turning.specs.Limits.{max_edge}
use Rattle.turning.specs.declared.refusal.Refusal.TheVariants.{NoRoom}
use Rattle.chart.specs.Points.{same_point}
use Rattle.chart.specs.Stores.{meant, Hangs}
use Rattle.chart.proofs.Compared.{points_equal}
use Rattle.edits.specs.Edits.{joins, made, join_questions, Settled}
use Rattle.edits.proofs.Tables.{said, join_done, join_same}
use Rattle.edits.proofs.joins.join_within.Goals as goal

pub returns-then-eq-clause-done : goal.returns-then-eq-clause-done
returns-then-eq-clause-done g c =
    let m = meant g.S.Turning.turn g.S.Chart.points g.S.Store.frame g.S.Store.fits in
    record {
      told = join_same max_edge (m c.args.store.now) c.args.edge (sym c.if-not-is_number.ensures) (sym c.if-holds_edge.ensures)
          c.args.c c.args.d _ _ (to_z-of_z w16 c.args.c c.ranges.c) (to_z-of_z w16 c.args.d c.ranges.d) _ _
          c.in-Some.ensures c.in-Some-start_of.ensures (sym (c.if-eq.ensures ∙ points_equal c.in-Some.a c.in-Some-start_of.b));
      changed = refl;
    }

pub returns-clause-done : goal.returns-clause-done
returns-clause-done g c =
    let m = meant g.S.Turning.turn g.S.Chart.points g.S.Store.frame g.S.Store.fits in
    let x = c.args.store.now in
    let told : c.ok_or.result ≡ said c.hang-done.result NoRoom = search rules in
    subst (λ o. Settled (join_questions max_edge (m x) c.args.edge c.args.c c.args.d) (made (joins c.args.edge c.args.c c.args.d [] []) (m x).lines) (m x) o (m c.hang-done.new.self)) (sym told)
    (join_done max_edge (m x) c.args.edge (sym c.if-not-is_number.ensures) (sym c.if-holds_edge.ensures) (m c.hang-done.new.self) c.hang-done.result
    c.args.c c.args.d _ _ (to_z-of_z w16 c.args.c c.ranges.c) (to_z-of_z w16 c.args.d c.ranges.d) _ _
    c.in-Some.ensures c.in-Some-start_of.ensures (sym (c.if-eq.ensures ∙ points_equal c.in-Some.a c.in-Some-start_of.b)) (sym c.if-not-may_join.ensures)
    (subst₂ (λ a b. Hangs max_edge (m x) c.args.edge a b c.hang-done.result (m c.hang-done.new.self)) c.after.ensures c.after-2.ensures c.hang-done.ensures))

pub returns-then-not-may_join-clause-done : goal.returns-then-not-may_join-clause-done
returns-then-not-may_join-clause-done g c =
    let apart : same_point c.in-Some.a c.in-Some-start_of.b ≡ false = sym (c.if-eq.ensures ∙ points_equal c.in-Some.a c.in-Some-start_of.b) in
    search rules
