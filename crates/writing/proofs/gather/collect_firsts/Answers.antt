use Rattle.std.proofs.Common.{◌≡◌, ℕ, ◌+◌, ◌≤◌, true, List, [], ◌∷◌, ◌++◌, length, get_or, ℤ, pos, sym, ap, ◌∙◌, subst, w16, SFits, rules}
use Rattle.std.proofs.lemmas.Int.{to_z-of_z}
use Rattle.flat.specs.Orbits.{◌∈◌}
use Rattle.turning.specs.Limits.{max_edge}
use Rattle.chart.specs.Linework.{Linework, lines_of}
use Rattle.search.specs.Marks.{Within, marked, Spreads}
use Rattle.writing.specs.Written.{names_in, starts_in}
use Rattle.writing.proofs.CodeNames.{in_strip_held, in_strip_within}
use Rattle.writing.proofs.CodeSlots.{element_in}
use Rattle.writing.proofs.CodeFirsts.{Firsts, firsts_none, firsts_past, firsts_old, firsts_new, firsts_all}
use Rattle.writing.proofs.gather.collect_firsts.Goals as goal
use Rattle.writing.proofs.gather.collect_firsts.Goals.{then-starts_in+then-not-is_marked, else-starts_in, else-starts_in-via-then-starts_in+else-not-is_marked, else-starts_in-via-else-starts_in}

pub loop-h-init : goal.loop-h-init
loop-h-init g c =
    let l = lines_of g.C.Turning.turn g.C.Chart.points c.args.chart.now in
    let bs = c.args.borders.now.items in
    let names = c.args.names.now in
    subst (Firsts max_edge l bs c.args.strip names 0 c.args.marks.now) (sym c.requires.empty)
    (firsts_none max_edge l (g.C.Turning.lawful c.args.chart.now) c.placed.ensures bs c.args.strip names c.args.marks.now c.requires.marks)

pub is_marked-requires : goal.is_marked-requires
is_marked-requires g c =
    let l = lines_of g.C.Turning.turn g.C.Chart.points c.args.chart.now in
    let names = c.args.names.now in
    let z = get_or names c.loop-h.h-index (pos 0) in
    let f : SFits w16 z = search rules in
    let own : z ∈ names_in max_edge c.args.borders.now.items l c.args.strip = subst (λ zs. z ∈ zs) c.requires.names (element_in names c.loop-h.h-index (pos 0) c.loop-h-test.true) in
    subst (Within max_edge) (sym (to_z-of_z w16 z f)) (in_strip_within max_edge _ l (g.C.Turning.lawful c.args.chart.now) _ z own)

pub mark_round-requires : goal.mark_round-requires
mark_round-requires g c =
    let l = lines_of g.C.Turning.turn g.C.Chart.points c.args.chart.now in
    let names = c.args.names.now in
    let z = get_or names c.loop-h.h-index (pos 0) in
    let f : SFits w16 z = search rules in
    let own : z ∈ names_in max_edge c.args.borders.now.items l c.args.strip = subst (λ zs. z ∈ zs) c.requires.names (element_in names c.loop-h.h-index (pos 0) c.loop-h-test.true) in
    ap l.turn.held (to_z-of_z w16 z f) ∙ in_strip_held max_edge _ l (g.C.Turning.lawful c.args.chart.now) _ z own

-- the marks and the list as they are at the end of a turn
alike : (l : Linework) (bs : List ℤ) (i : ℕ) (names : List ℤ) (k : ℕ) {m m' : List ℕ} {zs zs' : List ℤ} → m ≡ m' → zs ≡ zs' → Firsts max_edge l bs i names k m' zs' → Firsts max_edge l bs i names k m zs
alike l bs i names k {m = m} {zs' = zs'} a b f = subst (Firsts max_edge l bs i names k m) (sym b) (subst (λ x. Firsts max_edge l bs i names k x zs') (sym a) f)

pub loop-h-preserved : goal.loop-h-preserved
loop-h-preserved g c =
    let l = lines_of g.C.Turning.turn g.C.Chart.points c.args.chart.now in
    let bs = c.args.borders.now.items in
    let law = g.C.Turning.lawful c.args.chart.now in
    let placed = c.placed.ensures in
    let i = c.args.strip in
    let names = c.args.names.now in
    let k = c.loop-h.h-index in
    let below = c.loop-h-test.true in
    let z = get_or names k (pos 0) in
    let f : SFits w16 z = search rules in
    let own : z ∈ names_in max_edge bs l i = subst (λ zs. z ∈ zs) c.requires.names (element_in names k (pos 0) below) in
    let held : l.turn.held z ≡ true = in_strip_held max_edge bs l law i z own in
    let back = to_z-of_z w16 z f in
    let starts : c.starts_in.result ≡ starts_in bs l i z = c.starts_in.ensures ∙ ap (starts_in bs l i) back in
    elim c.if-starts_in.branch [
      | then-starts_in+then-not-is_marked w ↦
          alike l bs i names (k + 1) w.marks-is (ap (λ v. v.items) w.firsts-is ∙ w.push.ensures.items ∙ ap (λ x. c.loop-h.firsts.items ++ (x ∷ [])) back)
          (firsts_new max_edge l law placed bs i names k c.loop-h.marks c.loop-h.firsts.items below c.loop-h.invariant held (sym starts ∙ w.if-starts_in.true)
          (ap (marked max_edge c.loop-h.marks) (sym back) ∙ sym w.if-not-is_marked.ensures) w.mark_round.new.marks
          (subst (λ y. Spreads max_edge l.turn (l.turn.follower ∷ []) y c.loop-h.marks w.mark_round.new.marks) back w.mark_round.ensures))
      | else-starts_in w ↦
          alike l bs i names (k + 1) w.marks-is (ap (λ v. v.items) w.firsts-is)
          (elim w.else-starts_in.branch [
            | else-starts_in-via-then-starts_in+else-not-is_marked v ↦
                firsts_old max_edge l law placed bs i names k c.loop-h.marks c.loop-h.firsts.items below c.loop-h.invariant held (sym starts ∙ v.if-starts_in.true)
                (ap (marked max_edge c.loop-h.marks) (sym back) ∙ sym v.if-not-is_marked.ensures)
            | else-starts_in-via-else-starts_in v ↦
                firsts_past max_edge l law placed bs i names k c.loop-h.marks c.loop-h.firsts.items below c.loop-h.invariant (sym starts ∙ v.if-starts_in.false)
          ])
    ]

pub returns : goal.returns
returns g c =
    let l = lines_of g.C.Turning.turn g.C.Chart.points c.args.chart.now in
    let law = g.C.Turning.lawful c.args.chart.now in
    let last = c.loop-h.auto.h-index-end in
    let past : length c.args.names.now ≤ c.loop-h.h-index = c.loop-h-test.false in
    firsts_all max_edge l law c.placed.ensures c.args.borders.now.items c.args.strip c.args.names.now c.loop-h.h-index c.loop-h.marks c.loop-h.firsts.items past c.loop-h.invariant c.requires.names
