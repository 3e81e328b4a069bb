use Rattle.std.proofs.Common.{◌≡◌, ℕ, suc, ◌+◌, ◌-◌, ◌≤◌, true, List, pos, sym, ap, ◌∙◌, subst, arith}
use Rattle.turning.specs.Limits.{max_edge, slots}
use Rattle.chart.specs.Linework.{Linework, lines_of}
use Rattle.halfedges.specs.declared.halfedge.Halfedge.{Halfedge}
use Rattle.halfedges.specs.View.{seen}
use Rattle.halfedges.specs.Copies.{copied_edge, Copied}
use Rattle.halfedges.proofs.Copying.{CopiedTo, copied_blank, copied_skip, copied_more, copied_room, copied_same, held_to_all}
use Rattle.halfedges.proofs.copy.copy_edges.Goals as goal
use Rattle.halfedges.proofs.copy.copy_edges.Goals.{then-holds_edge, else-holds_edge}

pub loop-e-init : goal.loop-e-init
loop-e-init g c i z =
    let rs = c.args.rows.now in
    let lines = lines_of g.C.Turning.turn g.C.Chart.points c.args.chart.now in
    let same : 0 ≡ i = omega arith in
    subst (λ j. CopiedTo lines j 0 (seen rs)) same (copied_blank lines (g.C.Turning.lawful c.args.chart.now) rs c.requires.blank c.requires.long)

pub copy_edge-requires : goal.copy_edge-requires
copy_edge-requires g c =
    let t = g.C.Turning.turn c.args.chart.now in
    let lines = lines_of g.C.Turning.turn g.C.Chart.points c.args.chart.now in
    let e = c.loop-e.e in
    let low = c.loop-e.auto.e in
    let high : e ≤ max_edge = c.loop-e-test.true in
    let e-is : suc (e - 1) ≡ e = omega arith in
    let past = c.loop-e.invariant (e - 1) (sym e-is) in
    let here : t.held (pos (suc (e - 1))) ≡ true = ap (λ k. t.held (pos k)) e-is ∙ sym c.if-holds_edge.ensures in
    record {
      long = omega arith;
      room = copied_room max_edge lines (g.C.Turning.lawful c.args.chart.now) (e - 1) c.loop-e.filled (seen c.loop-e.rows) past slots (subst (λ k. k ≤ max_edge) (sym e-is) high) c.requires.room here;
      number = high;
    }

pub overflow_add-filled : goal.overflow_add-filled
overflow_add-filled g c =
    let t = g.C.Turning.turn c.args.chart.now in
    let lines = lines_of g.C.Turning.turn g.C.Chart.points c.args.chart.now in
    let e = c.loop-e.e in
    let low = c.loop-e.auto.e in
    let high : e ≤ max_edge = c.loop-e-test.true in
    let e-is : suc (e - 1) ≡ e = omega arith in
    let past = c.loop-e.invariant (e - 1) (sym e-is) in
    let here : t.held (pos (suc (e - 1))) ≡ true = ap (λ k. t.held (pos k)) e-is ∙ sym c.if-holds_edge.ensures in
    let room = copied_room max_edge lines (g.C.Turning.lawful c.args.chart.now) (e - 1) c.loop-e.filled (seen c.loop-e.rows) past slots (subst (λ k. k ≤ max_edge) (sym e-is) high) c.requires.room here in
    omega arith

-- one edge more is looked at
next : (l : Linework) (j i e k k' : ℕ) (rs rs' : List Halfedge) → suc j ≡ e → e + 1 ≡ suc i → k ≡ k' → rs ≡ rs' → CopiedTo l (suc j) k (seen rs) → CopiedTo l i k' (seen rs')
next l j i e k k' rs rs' a b p q copied =
    let same : suc j ≡ i = omega arith in
    subst (λ x. CopiedTo l i k' (seen x)) q (subst (λ x. CopiedTo l i x (seen rs)) p (subst (λ x. CopiedTo l x k (seen rs)) same copied))

pub loop-e-preserved : goal.loop-e-preserved
loop-e-preserved g c i z =
    let t = g.C.Turning.turn c.args.chart.now in
    let lawful = g.C.Turning.lawful c.args.chart.now in
    let lines = lines_of g.C.Turning.turn g.C.Chart.points c.args.chart.now in
    let e = c.loop-e.e in
    let low = c.loop-e.auto.e in
    let e-is : suc (e - 1) ≡ e = omega arith in
    let past = c.loop-e.invariant (e - 1) (sym e-is) in
    let v = seen c.loop-e.rows in
    let k = c.loop-e.filled in
    let held : t.held (pos (suc (e - 1))) ≡ c.holds_edge.result = ap (λ m. t.held (pos m)) e-is ∙ sym c.holds_edge.ensures in
    elim c.if-holds_edge.branch [
      | then-holds_edge w ↦
          let rs = w.copy_edge.new.rows in
          let more = copied_more max_edge lines lawful (e - 1) k v past (held ∙ w.if-holds_edge.true) in
          let is : copied_edge lines (suc (e - 1)) k v ≡ seen rs = ap (λ m. copied_edge lines m k v) e-is ∙ sym w.copy_edge.ensures in
          next lines (e - 1) i e (k + 2) c.if-holds_edge.filled rs c.if-holds_edge.rows e-is z (sym w.filled-is) (sym w.rows-is)
          (subst (CopiedTo lines (suc (e - 1)) (k + 2)) is more)
      | else-holds_edge w ↦
          next lines (e - 1) i e k c.if-holds_edge.filled c.loop-e.rows c.if-holds_edge.rows e-is z (sym w.filled-is) (sym w.rows-is)
          (copied_skip max_edge lines lawful (e - 1) k v past (held ∙ w.if-holds_edge.false))
    ]

pub returns : goal.returns
returns g c =
    let t = g.C.Turning.turn c.args.chart.now in
    let lines = lines_of g.C.Turning.turn g.C.Chart.points c.args.chart.now in
    let past = c.loop-e-test.false in
    let end : c.loop-e.e ≡ suc max_edge = omega arith in
    let all = c.loop-e.invariant max_edge end in
    subst (λ k. Copied lines t.held k (seen c.loop-e.rows)) all.1 (copied_same lines _ t.held c.loop-e.filled (seen c.loop-e.rows) (held_to_all max_edge t (g.C.Turning.lawful c.args.chart.now)) all.0)
