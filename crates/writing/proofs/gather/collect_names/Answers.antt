use Rattle.std.proofs.Common.{◌≡◌, ◌+◌, ◌-◌, ◌^◌, ◌<◌, [], ◌∷◌, ◌++◌, pos, neg_ℤ, sym, ap, ◌∙◌, subst, ap₂, arith}
use Rattle.turning.specs.Limits.{max_edge}
use Rattle.turning.proofs.Names.{plus_name, minus_name}
use Rattle.chart.specs.Linework.{lines_of}
use Rattle.writing.specs.Written.{names_in}
use Rattle.writing.proofs.CodeNames.{Collected, collected_none, collected_both, collected_past}
use Rattle.writing.proofs.gather.collect_names.Goals as goal
use Rattle.writing.proofs.gather.collect_names.Goals.{then-runs_through, else-runs_through}

pub loop-e-init : goal.loop-e-init
loop-e-init g c = collected_none c.args.borders.now.items (lines_of g.C.Turning.turn g.C.Chart.points c.args.chart.now) c.args.strip c.args.names.now.items c.requires

pub loop-e-preserved : goal.loop-e-preserved
loop-e-preserved g c =
    let l = lines_of g.C.Turning.turn g.C.Chart.points c.args.chart.now in
    let bs = c.args.borders.now.items in
    let law = g.C.Turning.lawful c.args.chart.now in
    let e = c.loop-e.e in
    let one = c.loop-e.auto.e in
    let small : e < 2 ^ 15 = omega (arith, c.loop-e-test.true) in
    let old = c.loop-e.names.items in
    elim c.if-runs_through.branch [
      | then-runs_through w ↦
          let pushed : c.if-runs_through.names.items ≡ (old ++ (pos e ∷ [])) ++ (neg_ℤ (pos e) ∷ []) =
          ap (λ v. v.items) w.names-is ∙ w.push-then-runs_through.ensures.items ∙ ap₂ (λ xs x. xs ++ (x ∷ [])) (w.push.ensures.items ∙ ap (λ x. old ++ (x ∷ [])) (plus_name e small)) (minus_name e small) in
          subst (Collected bs l c.args.strip (e + 1)) (sym pushed) (collected_both max_edge bs l law c.args.strip e old one c.loop-e.invariant (sym w.if-runs_through.ensures))
      | else-runs_through w ↦
          subst (Collected bs l c.args.strip (e + 1)) (sym (ap (λ v. v.items) w.names-is)) (collected_past max_edge bs l law c.args.strip e old one c.loop-e.invariant (sym w.if-runs_through.ensures))
    ]

pub returns : goal.returns
returns g c =
    let l = lines_of g.C.Turning.turn g.C.Chart.points c.args.chart.now in
    let most = c.loop-e.auto.e-end in
    let end : c.loop-e.e - 1 ≡ max_edge = omega (arith, c.loop-e-test.false) in
    c.loop-e.invariant.named ∙ ap (λ k. names_in k c.args.borders.now.items l c.args.strip) end
