-- The home of a halfedge by the strips of its two ends. Assumes nothing.
use Rattle.std.proofs.Common.{◌≡◌, ℕ, zero, suc, ◌≤◌, Bool, true, cond, ◌&&◌, leb, min, max, List, [], ◌∷◌, ℤ, pos, negsuc, neg_ℤ, Some, None, Ok, Err, Option, Result, sym, ap, ◌∙◌, ap₂, arith}
use Rattle.std.proofs.lemmas.Bool.{both_ways, cond-true}
use Rattle.std.proofs.lemmas.Bool.Decides.{leb_tells}
use Rattle.turning.specs.Refusals.{asked}
use Rattle.turning.specs.Turn.{Lawful}
use Rattle.turning.specs.declared.refusal.Refusal.{Refusal}
use Rattle.turning.specs.declared.refusal.Refusal.TheVariants.{NotThere}
use Rattle.chart.specs.declared.point.Point.{Point}
use Rattle.chart.specs.Linework.{Linework}
use Rattle.laws.specs.Keeps.{Sound}
use Rattle.halfedges.specs.View.{View, row_of}
use Rattle.halfedges.specs.Rows.{turn_of, points_of, row_point}
use Rattle.strips.specs.declared.home.Home.{Home}
use Rattle.strips.specs.Borders.{strip_count, strip_of, apart, x_of, home_strip, first_strip, last_strip}
use Rattle.strips.specs.Answers.{home_of, told_home}
use Rattle.strips.proofs.Cutting.{strip_low, strip_high}
use Rattle.strips.proofs.Gains.{held_on}

-- a strip between the first and the last is there
between : (i f t c : ℕ) (held : Bool) → held ≡ true → 1 ≤ f → t ≤ c → (leb 1 i && leb i c && (held && leb f i && leb i t)) ≡ (leb f i && leb i t)
between i f t c held e low high = grind (arith, leb_tells 1 i, leb_tells i c, leb_tells f i, leb_tells i t, e)

min_first : (a b : ℕ) → a ≤ b → min a b ≡ a
min_first a b l = omega arith

max_last : (a b : ℕ) → a ≤ b → max a b ≡ b
max_last a b l = omega arith

min_last : (a b : ℕ) → a ≤ b → min b a ≡ a
min_last a b l = omega arith

max_first : (a b : ℕ) → a ≤ b → max b a ≡ b
max_first a b l = omega arith

-- the halfedge starts at p and its opposite at q
module _ (n : ℕ) (bs : List ℤ) (l : Linework) (sound : Sound n l) (i : ℕ) (p q : Point) where
  law : Lawful n l.turn
  law = sound.0

  -- the answer, from the first and the last strip
  abbrev Between : ℕ → ℕ → ℕ → Result Home Refusal
  Between f t a = asked ((leb f i && leb i t, NotThere) ∷ []) (record { strip = a; crossed = apart i a })

  found : (h : ℤ) → l.turn.held h ≡ true → Between (first_strip bs l h) (last_strip bs l h) (home_strip bs l h) ≡ told_home bs l i h
  found h held =
      ap (λ b. cond b (Ok (home_of bs l i h)) (Err NotThere))
      (sym (between i (first_strip bs l h) (last_strip bs l h) (strip_count bs) (l.turn.held h) held (strip_low bs _) (strip_high bs _)))

  -- the first and the last strip of the edge, by the strips of its two ends
  abbrev Ends : ℕ → ℕ → Result Home Refusal
  Ends a b = Between (min a b) (max a b) a

  pub home_told : (h : ℤ) → l.turn.held h ≡ true → l.points h ≡ Some p → l.points (neg_ℤ h) ≡ Some q → Ends (strip_of bs p.x) (strip_of bs q.x) ≡ told_home bs l i h
  home_told (pos zero) held here there = absurd (both_ways _ law.no_zero held)
  home_told (pos (suc k)) held here there =
      let east : home_strip bs l (pos (suc k)) ≤ home_strip bs l (neg_ℤ (pos (suc k))) = (held_on bs n l sound (suc k) held).order in
      ap₂ (λ u v. Ends (strip_of bs (x_of u)) (strip_of bs (x_of v))) (sym here) (sym there)
      ∙ ap₂ (λ f t. Between f t (home_strip bs l (pos (suc k)))) (min_first _ _ east) (max_last _ _ east)
      ∙ found (pos (suc k)) held
  home_told (negsuc k) held here there =
      let east : home_strip bs l (pos (suc k)) ≤ home_strip bs l (negsuc k) = (held_on bs n l sound (suc k) (sound.0.closed (negsuc k) held)).order in
      ap₂ (λ u v. Ends (strip_of bs (x_of u)) (strip_of bs (x_of v))) (sym here) (sym there)
      ∙ ap₂ (λ f t. Between f t (home_strip bs l (negsuc k))) (min_last _ _ east) (max_first _ _ east)
      ∙ found (negsuc k) held

  -- the same by the strips that were found
  pub home_by : (h : ℤ) → l.turn.held h ≡ true → l.points h ≡ Some p → l.points (neg_ℤ h) ≡ Some q → (a b : ℕ) → a ≡ strip_of bs p.x → b ≡ strip_of bs q.x → Ends a b ≡ told_home bs l i h
  home_by h held here there a b a_is b-is = ap₂ Ends a_is b-is ∙ home_told h held here there

-- a held halfedge starts somewhere
pub somewhere : (v : View) (h : ℤ) → (turn_of v).held h ≡ true → points_of v h ≡ None → ⊥
somewhere v h held none = apart_none (row_point (row_of v h)) (sym none ∙ cond-true _ _ _ held)
  where
    apart_none : (x : Point) → ◌≡◌ {A = Option Point} None (Some x) → ⊥
    apart_none x z = let q : ◌≡◌ {A = ℕ} 0 1 = cc in omega arith
