use Rattle.std.proofs.Common.{◌≡◌, suc, ◌∷◌, length, drop, get_or, Some, sym, ap, ◌∙◌, subst, ⊎_elim, add-one, arith, rules}
use Rattle.strip_questions.specs.Repeats.{blank, lower, Lowest}
use Rattle.strip_questions.proofs.Repeats.{on_pair, some_left, none_left, lowest_passed, lowest_found}
use Rattle.strip_questions.proofs.points.lowest_repeat.Goals as goal

pub loop-left-init : goal.loop-left-init
loop-left-init c =
    let xs = c.args.sorted.now in
    let first : c.into_iter-left-iterator.result.a.rest.now ≡ xs = search rules in
    let later : c.into_iter-left-iterator.result.b.rest.now ≡ c.in_ok-later.later.now = search rules in
    let cut : xs ≡ _ ∷ c.in_ok-later.later.now = c.in_ok-later.ensures.cases.0 in
    (0, omega (arith, ap length cut), first, later ∙ ap (drop 1) (sym cut), λ i p l. absurd (omega arith))

pub loop-left-preserved-then-is_with : goal.loop-left-preserved-then-is_with
loop-left-preserved-then-is_with c =
    let xs = c.args.sorted.now in
    let i = c.loop-left.invariant in
    let n = i.0 in
    let s = c.in-Some.ensures.steps in
    let p = on_pair xs n _ _ _ _ (sym s.0 ∙ i.2) (sym s.1 ∙ i.3) in (
      suc n,
      p.0,
      p.1,
      p.2,
      subst (λ k. Lowest xs (suc (suc n)) (Some k)) (ap (λ w. lower c.loop-left.lowest w.place) (sym p.4) ∙ sym c.lower_of.ensures)
          (subst (λ m. Lowest xs m (Some (lower c.loop-left.lowest (get_or xs (suc n) blank).place))) (add-one (suc n)) (lowest_found xs (suc n) c.loop-left.lowest (omega arith) (sym p.3 ∙ sym c.is_with.ensures ∙ c.if-is_with.true) i.4)),
    )

pub loop-left-preserved : goal.loop-left-preserved
loop-left-preserved c =
    let xs = c.args.sorted.now in
    let i = c.loop-left.invariant in
    let n = i.0 in
    let s = c.in-Some.ensures.steps in
    let p = on_pair xs n _ _ _ _ (sym s.0 ∙ i.2) (sym s.1 ∙ i.3) in
    (suc n, p.0, p.1, p.2, subst (λ m. Lowest xs m c.loop-left.lowest) (add-one (suc n)) (lowest_passed xs (suc n) c.loop-left.lowest (sym p.3 ∙ sym c.is_with.ensures ∙ c.if-is_with.false) i.4))

pub returns : goal.returns
returns c =
    let xs = c.args.sorted.now in
    let i = c.loop-left.invariant in
    ⊎_elim
    (λ f. absurd (some_left xs i.0 _ i.1 i.2 f.1.0))
    (λ f. subst (λ m. Lowest xs m c.loop-left.lowest) (none_left xs i.0 _ i.1 i.3 f.1.0) i.4)
    c.in-None.ensures.steps
