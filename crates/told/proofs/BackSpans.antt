-- Where the names of sound line work run: between the strips of their two ends. Assumes nothing.
use Rattle.std.proofs.Common.{◌≡◌, ℕ, zero, suc, ◌≤◌, true, false, ◌&&◌, leb, List, ℤ, pos, negsuc, neg_ℤ, nat_abs, ◌≤ℤ◌, Some, None, Option, sym, refl, ap, ◌∙◌, subst, arith}
use Rattle.std.proofs.lemmas.Int.{ints}
use Rattle.std.proofs.lemmas.Bool.{both_ways, and_parts, and_from, leb-true, le-leb}
use Rattle.chart.specs.declared.point.Point.{Point}
use Rattle.chart.specs.Points.{told_west}
use Rattle.chart.specs.Linework.{Linework}
use Rattle.laws.specs.Keeps.{Sound}
use Rattle.laws.proofs.Equal.{tell}
use Rattle.strips.specs.Borders.{strip_of, x_of, home_strip, first_strip, last_strip, runs_through}
use Rattle.strips.proofs.Cutting.{strip_monotone}

west_x : (p q : Option Point) → told_west p q ≡ true → x_of p ≤ℤ x_of q
west_x None q e = absurd (both_ways false refl e)
west_x (Some p) None e = absurd (both_ways false refl e)
west_x (Some p) (Some q) e = grind (arith, ints, tell p.x q.x)

-- ---- a name runs through a strip
module _ (bs : List ℤ) (l : Linework) (i : ℕ) (h : ℤ) where
  pub runs_parts : runs_through bs l i h ≡ true → (l.turn.held h ≡ true) × (first_strip bs l h ≤ i) × (i ≤ last_strip bs l h)
  runs_parts r =
      let p = and_parts (l.turn.held h && leb (first_strip bs l h) i) (leb i (last_strip bs l h)) r in
      let q = and_parts (l.turn.held h) (leb (first_strip bs l h) i) p.0 in
      (q.0, leb-true (first_strip bs l h) i q.1, leb-true i (last_strip bs l h) p.1)

  pub runs_from : l.turn.held h ≡ true → first_strip bs l h ≤ i → i ≤ last_strip bs l h → runs_through bs l i h ≡ true
  runs_from held a b =
      and_from (l.turn.held h && leb (first_strip bs l h) i) (leb i (last_strip bs l h))
      (and_from (l.turn.held h) (leb (first_strip bs l h) i) held (le-leb (first_strip bs l h) i a)) (le-leb i (last_strip bs l h) b)

abs_opposite : (h : ℤ) → nat_abs (neg_ℤ h) ≡ nat_abs h
abs_opposite (pos zero) = refl
abs_opposite (pos (suc e)) = refl
abs_opposite (negsuc e) = refl

module _ (n : ℕ) (bs : List ℤ) (l : Linework) (sound : Sound n l) where
  -- the western end lies no further east than the eastern
  first_last : (e : ℕ) → l.turn.held (pos e) ≡ true → home_strip bs l (pos e) ≤ home_strip bs l (neg_ℤ (pos e))
  first_last e held = strip_monotone bs _ _ (west_x (l.points (pos e)) (l.points (neg_ℤ (pos e))) (sound.1.westward e held))

  -- the home of a held name is one of the strips of its edge
  pub home_between : (h : ℤ) → l.turn.held h ≡ true → (first_strip bs l h ≤ home_strip bs l h) × (home_strip bs l h ≤ last_strip bs l h)
  home_between (pos e) held = let r = first_last e held in (omega arith, r)
  home_between (negsuc e) held = let r = first_last (suc e) (sound.0.closed (negsuc e) held) in (r, omega arith)

  -- it runs through its home
  pub home_runs : (h : ℤ) → l.turn.held h ≡ true → (i : ℕ) → home_strip bs l h ≡ i → runs_through bs l i h ≡ true
  home_runs h held i e =
      let r = home_between h held in
      runs_from bs l i h held (subst (λ k. first_strip bs l h ≤ k) e r.0) (subst (λ k. k ≤ last_strip bs l h) e r.1)

  -- where a name runs, its opposite does
  pub runs_opposite : (i : ℕ) (h : ℤ) → runs_through bs l i h ≡ true → runs_through bs l i (neg_ℤ h) ≡ true
  runs_opposite i h r =
      let p = runs_parts bs l i h r in
      let same = abs_opposite h in
      runs_from bs l i (neg_ℤ h) (sound.0.closed h p.0)
      (subst (λ k. home_strip bs l (pos k) ≤ i) (sym same) p.1) (subst (λ k. i ≤ home_strip bs l (neg_ℤ (pos k))) (sym same) p.2)

  -- a name and its follower have one home
  pub home_alike : (h : ℤ) → l.turn.held h ≡ true → home_strip bs l (l.turn.follower h) ≡ home_strip bs l h
  home_alike h held = ap (λ p. strip_of bs (x_of p)) (sound.1.alike h held)

  -- a name and its predecessor too
  pub home_before : (h : ℤ) → l.turn.held h ≡ true → home_strip bs l (l.turn.predecessor h) ≡ home_strip bs l h
  home_before h held = sym (home_alike (l.turn.predecessor h) (sound.0.behind h held)) ∙ ap (home_strip bs l) (sound.0.redone h held)
