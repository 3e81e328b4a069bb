-- The names that a rotation holds as a list, its rounds as numbers of steps, and where a point is taken. Assumes nothing.
use Rattle.std.proofs.Common.{◌≡◌, ℕ, zero, suc, true, false, T, [], ◌∷◌, ℤ, pos, negsuc, neg_ℤ, ◌≤ℤ◌, Some, Option, sym, refl, ap, ◌∙◌, subst, inl, inr, arith}
use Rattle.std.proofs.lemmas.Bool.{both_ways}
use Rattle.std.proofs.lemmas.Int.{ints}
use Rattle.flat.specs.Orbits.{◌∈◌, Reach, ClosedUnder, iterate}
use Rattle.flat.specs.Whole.{equal}
use Rattle.flat.proofs.Basics.{any_has, T_true, true_T}
use Rattle.flat.proofs.Walks.{linked_walk, walk_linked}
use Rattle.flat.proofs.Trails.{filter_is, reach_times, reach_steps}
use Rattle.flat.proofs.Whole.{equal_is}
use Rattle.turning.specs.Turn.{Turn}
use Rattle.turning.specs.Counts.{names, holding, same_round}
use Rattle.turning.proofs.Listed.{Named, in_names}
use Rattle.chart.specs.declared.point.Point.{Point}
use Rattle.chart.specs.Points.{same_point, is_point}
use Rattle.chart.specs.Changes.{vertex_at}
use Rattle.laws.specs.Rotations.{Rotation}
use Rattle.laws.proofs.Equal.{tell}
-- one step over and over, as a walk
pub use Rattle.flat.proofs.Trails.{reach_times as walked, iterate_shift as shift, reach_steps as steps}

point_is_itself : (p : Point) → T (same_point p p)
point_is_itself p = true_T _ (grind (arith, tell p.x p.x, tell p.y p.y))

named : (n : ℕ) (h : ℤ) → neg_ℤ (pos n) ≤ℤ h → h ≤ℤ pos n → (h ≡ pos 0 → ⊥) → Named n h
named n (pos zero) l u z = absurd (z refl)
named n (pos (suc k)) l u z = omega (arith, ints)
named n (negsuc k) l u z = omega (arith, ints)

module _ (n : ℕ) (t : Turn) (w : Rotation n t) where
  pub in_holding : (h : ℤ) → t.held h ≡ true → h ∈ holding n t
  unfolding holding
  in_holding h e =
      ((filter_is t.held (names n)).1 h).1 (in_names n h (named n h (w.low h e) (w.high h e) (λ z. both_ways _ w.no_zero (ap t.held (sym z) ∙ e))), true_T _ e)

  holding_held : (h : ℤ) → h ∈ holding n t → t.held h ≡ true
  unfolding holding
  holding_held h m = T_true _ (((filter_is t.held (names n)).1 h).0 m).1

  keeps : ClosedUnder (t.follower ∷ []) (holding n t)
  keeps x y m (inl e) = subst (λ z. z ∈ holding n t) (sym e) (in_holding (t.follower x) (w.ahead x (holding_held x m)))
  keeps x y m (inr e) = absurd e

  pub round_steps : (g h : ℤ) → t.held g ≡ true → same_round n t g h ≡ true → (k : ℕ) × (iterate k t.follower g ≡ h)
  unfolding same_round
  round_steps g h e s = reach_steps t.follower g h (linked_walk equal equal_is (t.follower ∷ []) (holding n t) keeps g h (in_holding g e) (true_T _ s))

  pub steps_round : (g h : ℤ) → t.held g ≡ true → (k : ℕ) → iterate k t.follower g ≡ h → same_round n t g h ≡ true
  unfolding same_round
  steps_round g h e k s =
      T_true _ (walk_linked equal equal_is (t.follower ∷ []) (holding n t) keeps g h (in_holding g e) (subst (λ z. Reach (t.follower ∷ []) g z) s (reach_times t.follower g k)))

  -- no held name starts at a point that is not taken
  pub untaken : (points : ℤ → Option Point) (p : Point) → vertex_at n (record { turn = t; points = points }) p ≡ false → (g : ℤ) → t.held g ≡ true → points g ≡ Some p → ⊥
  untaken points p e g held s =
      both_ways _ e (T_true _ (any_has (λ h. is_point p (points h)) (holding n t) g (in_holding g held) (subst (λ o. T (is_point p o)) (sym s) (point_is_itself p))))
