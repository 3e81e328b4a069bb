-- Being placed has one proof at most, so that it comes out of a truncation. Assumes nothing.
use Rattle.std.proofs.Common.{◌≡◌, ℕ, ℤ, Some, None, Option, refl, ap, arith}
use mathlib.Core.Bool.{Bool-set}
use mathlib.Core.HLevel.{hedberg, Discrete}
use lib.IntN.{ℤ_discrete}
use Rattle.turning.specs.Turn.{Turn}
use Rattle.chart.specs.declared.point.Point.{Point}
use Rattle.chart.specs.Linework.{Placed}

some_apart : (p q : Point) → ◌≡◌ {A = Option Point} (Some p) (Some q) → p ≡ q
some_apart p q e = cc

none_some : (p : Point) → ◌≡◌ {A = Option Point} None (Some p) → ⊥
none_some p e = let z : ◌≡◌ {A = ℕ} 0 1 = cc in omega arith

told_discrete : Discrete (Option Point)
told_discrete None None = yes refl
told_discrete None (Some q) = no (none_some q)
told_discrete (Some p) None = no (λ e. let z : ◌≡◌ {A = ℕ} 0 1 = cc in omega arith)
told_discrete (Some p) (Some q) = go (ℤ_discrete p.x q.x) (ℤ_discrete p.y q.y)
  where
    go : Dec (p.x ≡ q.x) → Dec (p.y ≡ q.y) → Dec (◌≡◌ {A = Option Point} (Some p) (Some q))
    go (yes x) (yes y) = yes (λ i. Some (record { x = x i; y = y i }))
    go (no x) b = no (λ e. x (ap (λ r. r.x) (some_apart p q e)))
    go (yes x) (no y) = no (λ e. y (ap (λ r. r.y) (some_apart p q e)))

pub told_set : IsSet (Option Point)
told_set = hedberg told_discrete

pub placed_prop : (n : ℕ) (t : Turn) (pl : ℤ → Option Point) → IsProp (Placed n t pl)
placed_prop n t pl p q = λ i. record {
  nowhere = λ h e. told_set _ _ (p.nowhere h e) (q.nowhere h e) i;
  somewhere = λ h e. Bool-set _ _ (p.somewhere h e) (q.somewhere h e) i;
  together = λ g h e f s. Bool-set _ _ (p.together g h e f s) (q.together g h e f s) i;
  alike = λ h e. told_set _ _ (p.alike h e) (q.alike h e) i;
  westward = λ k e. Bool-set _ _ (p.westward k e) (q.westward k e) i;
}
