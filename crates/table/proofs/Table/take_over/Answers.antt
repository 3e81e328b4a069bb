use Rattle.std.proofs.Common.{◌≡◌, ℕ, ◌*◌, Bool, false, cond, eqb, leb, length, sym, refl, ap, ◌∙◌, arith, rules}
use Rattle.std.proofs.lemmas.Bool.{cond-false, eqb-true}
use Rattle.std.proofs.lemmas.Bool.Decides.{eqb_tells, leb_tells}
use Rattle.turning.specs.Limits.{max_edge, slots}
use Rattle.chart.specs.Linework.{lines_of}
use Rattle.halfedges.specs.Rows.{edge_count}
use Rattle.halfedges.proofs.EdgeCount.{edges_are}
use Rattle.halfedges.specs.Nothing.{short_lines}
use Rattle.table.specs.Tables.{Kept}
use Rattle.table.proofs.Taken.{empty_lines}
use Rattle.table.proofs.Table.take_over.Goals as goal

-- nothing but no edge finds its slots where there are none
told_short : (r k cap : ℕ) (b : Bool) → r ≡ k → b ≡ false → eqb r 0 ≡ leb (2 * k) (cond b cap 0)
told_short r k cap b e short = told ∙ sym (ap (leb (2 * k)) (cond-false b cap 0 short))
  where
    told : eqb r 0 ≡ leb (2 * k) 0
    told = grind (arith, eqb_tells r 0, leb_tells (2 * k) 0)

pub returns-then-not-is_long : goal.returns-then-not-is_long
returns-then-not-is_long g c =
    let rs = c.args.self.now.rows.at.now in
    let chart = c.args.chart.now in
    let lines = lines_of g.C.Turning.turn g.C.Chart.points chart in
    let count = c.count_edges-edges in
    let edges = count.ensures ∙ edges_are max_edge lines.turn (g.C.Turning.lawful chart) in
    let short : leb slots (length rs) ≡ false = sym c.if-not-is_long.ensures in
    record {
      told = told_short count.result (edge_count max_edge lines.turn) slots (leb slots (length rs)) edges short;
      taken = λ t. short_lines max_edge slots rs short ∙ sym (empty_lines max_edge lines (g.C.Turning.lawful chart) c.placed.ensures (sym edges ∙ eqb-true count.result 0 t));
      left = λ _. refl;
    }

pub invariant_of-self : goal.invariant_of-self
invariant_of-self g c =
    let e = c.copy_chart.ensures in
    let kept : Kept c.copy_chart.new.rows.at.now = λ _. record { core = e.core; room = e.used ∙ sym (ap (λ l. 2 * edge_count max_edge l.turn) e.lines) } in
    record { ok = ∣ kept ∣₁ }

pub returns-then-edges-gt-SLOTS-clause-told : goal.returns-then-edges-gt-SLOTS-clause-told
returns-then-edges-gt-SLOTS-clause-told g c =
    let edges = c.count_edges-edges.ensures ∙ edges_are max_edge _ (g.C.Turning.lawful c.args.chart.now) in
    search rules

pub copy_chart-requires-clause-room : goal.copy_chart-requires-clause-room
copy_chart-requires-clause-room g c =
    let edges = c.count_edges-edges.ensures ∙ edges_are max_edge _ (g.C.Turning.lawful c.args.chart.now) in
    search rules

pub returns-clause-told : goal.returns-clause-told
returns-clause-told g c =
    let edges = c.count_edges-edges.ensures ∙ edges_are max_edge _ (g.C.Turning.lawful c.args.chart.now) in
    search rules
