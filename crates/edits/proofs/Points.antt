-- What the code finds of names and points. Assumes nothing.
use Rattle.std.proofs.Common.{◌≡◌, ℕ, true, false, ◌⊎◌, ℤ, Some, None, Option, sym, refl, ap, ◌∙◌, ap₂, inl, inr, arith}
use Rattle.std.proofs.lemmas.Bool.{and_from, and_parts, cases_Bool, both_ways}
use Rattle.flat.specs.Whole.{equal}
use Rattle.flat.proofs.Basics.{any_has, T_true, true_T}
use Rattle.flat.proofs.Whole.{equal_is}
use Rattle.turning.specs.Turn.{Lawful}
use Rattle.turning.specs.Counts.{holding}
use Rattle.turning.proofs.Listed.{in_holding}
use Rattle.chart.specs.declared.point.Point.{Point}
use Rattle.chart.specs.Points.{is_point, same_point, told_on_sheet}
use Rattle.chart.specs.Linework.{Linework, Placed}
use Rattle.chart.specs.Changes.{vertex_at}
use Rattle.edits.specs.Asked.{Started}

equal_eq : (a b : ℤ) → equal a b ≡ true → a ≡ b
equal_eq a b q = (equal_is a b).0 (true_T _ q)

equal_refl : (a : ℤ) → equal a a ≡ true
equal_refl a = T_true _ ((equal_is a a).1 refl)

pub point_refl : (p : Point) → same_point p p ≡ true
point_refl p = and_from _ _ (equal_refl p.x) (equal_refl p.y)

point_eq : (p q : Point) → same_point p q ≡ true → p ≡ q
point_eq p q h =
    let r = and_parts (equal p.x q.x) (equal p.y q.y) h in
    ap₂ (λ (x y : ℤ). record { x = x; y = y }) (equal_eq p.x q.x r.0) (equal_eq p.y q.y r.1)

-- a vertex stands where a held name starts
vertex_of : (n : ℕ) (l : Linework) → Lawful n l.turn → (p : Point) (h : ℤ) → l.turn.held h ≡ true → is_point p (l.points h) ≡ true → vertex_at n l p ≡ true
vertex_of n l law p h y q = T_true _ (any_has (λ k. is_point p (l.points k)) (holding n l.turn) h (in_holding n l.turn law h y) (true_T _ q))

-- a point on no vertex is none where a held name starts
pub apart_from : (n : ℕ) (l : Linework) → Lawful n l.turn → (p at : Point) (h : ℤ) → l.turn.held h ≡ true → l.points h ≡ Some at → vertex_at n l p ≡ false → same_point at p ≡ false
apart_from n l law p at h y s f = go (cases_Bool (same_point at p))
  where
    go : (same_point at p ≡ true) ⊎ (same_point at p ≡ false) → same_point at p ≡ false
    go (inr z) = z
    go (inl q) = absurd (both_ways _ f (vertex_of n l law p h y (ap (is_point p) s ∙ ap (same_point p) (point_eq at p q) ∙ point_refl p)))

zero_one : ◌≡◌ {A = ℕ} 0 1 → ⊥
zero_one e = omega arith

-- what the code finds of a name
pub started_is : (n : ℕ) (l : Linework) → Placed n l.turn l.points → (h : ℤ) (r : Option Point) → r ≡ l.points h → Started l h r
started_is n l placed h r e = go r e (cases_Bool (l.turn.held h))
  where
    go : (r : Option Point) → r ≡ l.points h → (l.turn.held h ≡ true) ⊎ (l.turn.held h ≡ false) → Started l h r
    go None e (inr z) = z
    go None e (inl y) = absurd (both_ways _ (ap told_on_sheet (sym e)) (placed.somewhere h y))
    go (Some p) e (inl y) = (y, sym e, ap told_on_sheet e ∙ placed.somewhere h y)
    go (Some p) e (inr z) = let q : Some p ≡ None = e ∙ placed.nowhere h z in let w : ◌≡◌ {A = ℕ} 0 1 = cc in absurd (zero_one w)
