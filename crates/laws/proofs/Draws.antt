-- A rotation from which one name is drawn is a rotation, and what was laid stays so. Assumes nothing.
use Rattle.std.proofs.Common.{◌≡◌, ℕ, zero, suc, true, false, ℤ, pos, None, Option, sym, refl, ap, ◌∙◌, inl, inr, arith}
use Rattle.std.proofs.lemmas.Bool.{cond-false}
use Rattle.flat.specs.Orbits.{iterate}
use Rattle.flat.specs.Whole.{equal}
use Rattle.turning.specs.Turn.{Turn}
use Rattle.chart.specs.declared.point.Point.{Point}
use Rattle.chart.specs.Points.{told_on_sheet}
use Rattle.chart.specs.Changes.{at, drawn}
use Rattle.laws.specs.Rotations.{Rotation, Located}
use Rattle.laws.proofs.Equal.{tell, Tells}

module _ (n : ℕ) (t : Turn) (w : Rotation n t) (k : ℤ) (here : t.held k ≡ true) where
  pub draw_held : (h : ℤ) → (drawn k t).held h ≡ true → (t.held h ≡ true) × (equal h k ≡ false)
  draw_held h e = (grind (arith, tell h k), grind (arith, tell h k))

  draw_ahead : (h : ℤ) → t.held h ≡ true → equal h k ≡ false → (drawn k t).held ((drawn k t).follower h) ≡ true
  draw_ahead h e d =
      grind (arith, tell h k, tell h (t.predecessor k), tell (t.follower k) k, tell (t.follower h) k, w.ahead h e, w.ahead k here, w.undone h e, w.undone k here, w.redone k here)

  draw_undone : (h : ℤ) → t.held h ≡ true → equal h k ≡ false → (drawn k t).predecessor ((drawn k t).follower h) ≡ h
  draw_undone h e d =
      grind (arith, tell h k, tell h (t.predecessor k), tell (t.follower k) k, tell (t.follower h) k, tell (t.follower k) (t.follower k), tell (t.follower h) (t.follower k), w.undone h e, w.undone k here, w.redone k here)

  draw_behind : (h : ℤ) → t.held h ≡ true → equal h k ≡ false → (drawn k t).held ((drawn k t).predecessor h) ≡ true
  draw_behind h e d =
      grind (arith, tell h k, tell h (t.follower k), tell (t.predecessor k) k, tell (t.predecessor h) k, w.behind h e, w.behind k here, w.redone h e, w.undone k here, w.redone k here)

  draw_redone : (h : ℤ) → t.held h ≡ true → equal h k ≡ false → (drawn k t).follower ((drawn k t).predecessor h) ≡ h
  draw_redone h e d =
      grind (arith, tell h k, tell h (t.follower k), tell (t.predecessor k) k, tell (t.predecessor h) k, tell (t.predecessor k) (t.predecessor k), tell (t.predecessor h) (t.predecessor k), w.redone h e, w.undone k here, w.redone k here)

  pub drawn_rotation : Rotation n (drawn k t)
  drawn_rotation = record {
    no_zero = grind (arith, tell (pos 0) k, w.no_zero);
    low = λ h e. w.low h (draw_held h e).0;
    high = λ h e. w.high h (draw_held h e).0;
    ahead = λ h e. draw_ahead h (draw_held h e).0 (draw_held h e).1;
    behind = λ h e. draw_behind h (draw_held h e).0 (draw_held h e).1;
    undone = λ h e. draw_undone h (draw_held h e).0 (draw_held h e).1;
    redone = λ h e. draw_redone h (draw_held h e).0 (draw_held h e).1;
    no_follower = λ h e. grind (arith, tell h k, tell h (t.predecessor k), w.no_follower h, w.behind k here);
    no_predecessor = λ h e. grind (arith, tell h k, tell h (t.follower k), w.no_predecessor h, w.ahead k here);
  }

  held_on : (u : Turn) → Rotation n u → (g : ℤ) → u.held g ≡ true → (j : ℕ) → u.held (iterate j u.follower g) ≡ true
  held_on u v g e zero = e
  held_on u v g e (suc j) = v.ahead (iterate j u.follower g) (held_on u v g e j)

  y_held : (g : ℤ) → (drawn k t).held g ≡ true → (j : ℕ) → (t.held (iterate j (drawn k t).follower g) ≡ true) × (equal (iterate j (drawn k t).follower g) k ≡ false)
  y_held g held j = draw_held (iterate j (drawn k t).follower g) (held_on (drawn k t) drawn_rotation g held j)

  -- how far the drawn rotation comes when the whole one has come to x
  Come : ℤ → ℤ → Type 0
  Come g x = (j : ℕ) × ((x ≡ k → iterate j (drawn k t).follower g ≡ t.predecessor k) × ((x ≡ k → ⊥) → iterate j (drawn k t).follower g ≡ x))

  step : (g : ℤ) → (drawn k t).held g ≡ true → (x : ℤ) → t.held x ≡ true → Come g x → Come g (t.follower x)
  unfolding Come
  step g held x hx (j, (at-k, off-k)) = go (tell x k) (tell (t.follower x) k)
    where
      go : Tells x k → Tells (t.follower x) k → (i : ℕ) × ((t.follower x ≡ k → iterate i (drawn k t).follower g ≡ t.predecessor k) × ((t.follower x ≡ k → ⊥) → iterate i (drawn k t).follower g ≡ t.follower x))
      go (inl p) (inl q) = absurd (let y = at-k p.1 in let d = y_held g held j in grind (arith, tell (iterate j (drawn k t).follower g) k, w.undone k here))
      go (inl p) (inr q) = (suc j, ((λ z. absurd (q.1 z)), (λ z. let y = at-k p.1 in let d = y_held g held j in grind (arith, tell (iterate j (drawn k t).follower g) (t.predecessor k)))))
      go (inr p) (inl q) = (j, ((λ z. let y = off-k p.1 in grind (arith, w.undone x hx)), (λ z. absurd (z q.1))))
      go (inr p) (inr q) = (suc j, ((λ z. absurd (q.1 z)), (λ z. let y = off-k p.1 in let d = y_held g held j in grind (arith, tell (iterate j (drawn k t).follower g) (t.predecessor k), w.redone k here))))

  come : (g : ℤ) → (drawn k t).held g ≡ true → (j : ℕ) → Come g (iterate j t.follower g)
  unfolding Come
  come g held zero = (0, ((λ z. let d = y_held g held 0 in absurd (grind (arith, tell g k))), (λ z. refl)))
  come g held (suc j) = step g held (iterate j t.follower g) (held_on t w g (draw_held g held).0 j) (come g held j)

  module _ (pl : ℤ → Option Point) (p : Located t pl) where
    same_place : (h : ℤ) → (drawn k t).held h ≡ true → at k None pl h ≡ pl h
    same_place h e = cond-false _ _ _ (draw_held h e).1

    pub drawn_laid : Located (drawn k t) (at k None pl)
    unfolding Come
    drawn_laid = record {
      nowhere = λ h z. grind (arith, tell h k, p.nowhere h);
      somewhere = λ h e. ap told_on_sheet (same_place h e) ∙ p.somewhere h (draw_held h e).0;
      together = λ g h hg hh s.
          let d = p.together g h (draw_held g hg).0 (draw_held h hh).0 (sym (same_place g hg) ∙ s ∙ same_place h hh) in
          let f = come g hg d.0 in
          let u = (draw_held h hh).1 in
          (f.0, f.1.1 (λ z. absurd (grind (arith, tell h k, d.1))) ∙ d.1);
      alike = λ g hg.
          let d = draw_held g hg in
          grind (arith, tell g k, tell g (t.predecessor k), tell (t.follower g) k, tell (t.follower k) k, p.alike g d.0, p.alike k here, p.alike (t.predecessor k) (w.behind k here), w.redone k here, w.undone g d.0, w.undone k here, d.1);
    }
