-- Line work with one edge more: the slots that it takes. Assumes nothing.
use Rattle.std.proofs.Common.{◌≡◌, ℕ, suc, ◌+◌, ◌-◌, ◌*◌, ◌≤◌, Bool, true, false, List, ℤ, pos, neg_ℤ, ◌≤ℤ◌, Some, None, Option, sym, refl, ap, ◌∙◌, ap₂, arith}
use lib.IntN.{neg_ℤ-neg_ℤ}
use Rattle.std.proofs.lemmas.Int.{ints}
use Rattle.std.proofs.lemmas.Bool.{cond-true, cond-false, both_ways}
use Rattle.flat.specs.Orbits.{indicator}
use Rattle.flat.specs.Whole.{equal}
use Rattle.chart.specs.declared.point.Point.{Point}
use Rattle.chart.specs.Points.{west, told_west}
use Rattle.chart.specs.Changes.{at}
use Rattle.chart.specs.Linework.{Linework}
use Rattle.laws.specs.Keeps.{Sound}
use Rattle.laws.proofs.Equal.{tell}
use Rattle.strips.specs.Borders.{strip_of, apart, x_of, home_strip, first_strip, last_strip, runs_through, slots_of, slots_taken}
use Rattle.strips.proofs.Cutting.{strip_monotone}
use Rattle.strips.proofs.Spans.{spanned, AgreeOff, slots_same, beside_same, split_held, split_not}
use Rattle.strips.proofs.Totals.{taken_swap}

-- the edge e is held, from strip a to strip b
pub record On (bs : List ℤ) (e a b : ℕ) (l : Linework) : Type 0 where
  pub plus : l.turn.held (pos e) ≡ true
  pub minus : l.turn.held (neg_ℤ (pos e)) ≡ true
  pub starts : first_strip bs l (pos e) ≡ a
  pub ends : last_strip bs l (pos e) ≡ b
  pub order : a ≤ b

-- the edge e is not held
pub record Off (e : ℕ) (l : Linework) : Type 0 where
  pub plus : l.turn.held (pos e) ≡ false
  pub minus : l.turn.held (neg_ℤ (pos e)) ≡ false

-- l' is l with the edge e
module _ (bs : List ℤ) (n e : ℕ) (one : 1 ≤ e) (high : e ≤ n) (l l' : Linework) (agree : AgreeOff e l l') (off : Off e l) (a b : ℕ) (on : On bs e a b l') where
  pub gain_runs : (i : ℕ) (h : ℤ) → indicator (runs_through bs l' i h) ≡ spanned e a b i h + indicator (runs_through bs l i h)
  gain_runs i h =
      split_held bs e l' on.plus on.minus a b on.starts on.ends i h
      ∙ ap (λ k. spanned e a b i h + k) (beside_same bs e one l l' agree i h ∙ sym (split_not bs e l off.plus off.minus i h))

  pub gain_taken : slots_taken bs l' n ≡ 2 * suc (b - a) + slots_taken bs l n
  gain_taken =
      let swap = taken_swap bs n l l' e one high (slots_same bs e one l l' agree) in
      let none : slots_of bs l e ≡ 0 = cond-false (l.turn.held (pos e)) _ 0 off.plus in
      let all : slots_of bs l' e ≡ 2 * suc (apart a b) =
      cond-true (l'.turn.held (pos e)) _ 0 on.plus ∙ ap₂ (λ x y. 2 * suc (apart x y)) on.starts on.ends in
      sum (slots_taken bs l n) (slots_taken bs l' n) (slots_of bs l e) (slots_of bs l' e) a b swap none all on.order
    where
      sum : (t t' x y a b : ℕ) → t' + x ≡ t + y → x ≡ 0 → y ≡ 2 * suc ((a - b) + (b - a)) → a ≤ b → t' ≡ 2 * suc (b - a) + t
      sum t t' x y a b p q r s = omega arith

-- ---- a map changed at one name
pub at_on : {A : Type 0} (k : ℤ) (v : A) (f : ℤ → A) → at k v f k ≡ v
at_on k v f = let e : equal k k ≡ true = grind (arith, tell k k) in cond-true (equal k k) v (f k) e

pub at_off : {A : Type 0} (k : ℤ) (v : A) (f : ℤ → A) (h : ℤ) → (h ≡ k → ⊥) → at k v f h ≡ f h
at_off k v f h d = let e : equal h k ≡ false = grind (arith, tell h k, d) in cond-false (equal h k) v (f h) e

pub two_names : (e : ℕ) → 1 ≤ e → pos e ≡ neg_ℤ (pos e) → ⊥
two_names e l z = omega (arith, ints)

-- ---- west and east
pub west_order : (bs : List ℤ) (p q : Point) → west p q ≡ true → strip_of bs p.x ≤ strip_of bs q.x
west_order bs p q w =
    let le : p.x ≤ℤ q.x = grind (arith, ints, tell p.x q.x, w) in
    strip_monotone bs p.x q.x le

pub told_order : (bs : List ℤ) (p q : Option Point) → told_west p q ≡ true → strip_of bs (x_of p) ≤ strip_of bs (x_of q)
told_order bs None q w = absurd (both_ways false refl w)
told_order bs (Some p) None w = absurd (both_ways false refl w)
told_order bs (Some p) (Some q) w = west_order bs p q w

-- an edge of sound line work runs from west to east
pub held_on : (bs : List ℤ) (n : ℕ) (l : Linework) → Sound n l → (e : ℕ) → l.turn.held (pos e) ≡ true → On bs e (home_strip bs l (pos e)) (home_strip bs l (neg_ℤ (pos e))) l
held_on bs n l s e here = record {
  plus = here;
  minus = s.0.closed (pos e) here;
  starts = refl;
  ends = refl;
  order = told_order bs (l.points (pos e)) (l.points (neg_ℤ (pos e))) (s.1.westward e here);
}

pub not_held : (n : ℕ) (l : Linework) → Sound n l → (e : ℕ) → l.turn.held (pos e) ≡ false → Off e l
not_held n l s e new = record { plus = new; minus = go (l.turn.held (neg_ℤ (pos e))) refl }
  where
    go : (b : Bool) → l.turn.held (neg_ℤ (pos e)) ≡ b → l.turn.held (neg_ℤ (pos e)) ≡ false
    go true z = absurd (both_ways _ new (ap l.turn.held (sym (neg_ℤ-neg_ℤ (pos e))) ∙ s.0.closed (neg_ℤ (pos e)) z))
    go false z = z
