-- The test for a turning that is written out.
-- Assumes nothing.
use Rattle.std.proofs.Common.{◌≡◌, Bool, true, false, not, ◌&&◌, T, ◌↔◌, List, [], ◌∷◌, sym, subst, inl, inr, T_not}
use Rattle.flat.specs.Orbits.{◌∈◌, Distinct, contains}
use Rattle.flat.specs.Turnings.{Turning, Lawful, apart?, every, right_at, lawful?}
use Rattle.flat.proofs.Basics.{has_in, in_has}

both : (a b : Bool) → T (a && b) → T a × T b
both true b t = (tt, t)
both false b t = absurd t

seven : (a b c d e f g : Bool) → T (a && b && c && d && e && f && g) → T a × T b × T c × T d × T e × T f × T g
seven a b c d e f g t =
    let q₆ = both (a && b && c && d && e && f) g t in
    let q₅ = both (a && b && c && d && e) f q₆.0 in
    let q₄ = both (a && b && c && d) e q₅.0 in
    let q₃ = both (a && b && c) d q₄.0 in
    let q₂ = both (a && b) c q₃.0 in
    let q₁ = both a b q₂.0 in
    (q₁.0, q₁.1, q₂.1, q₃.1, q₄.1, q₅.1, q₆.1)

module _ {A : Type 0} (same : A → A → Bool) (same_is : (x y : A) → T (same x y) ↔ (x ≡ y)) (neg : A → A) where
  apart_is : (xs : List A) → T (apart? neg same xs) → Distinct xs
  apart_is [] t = tt
  apart_is (x ∷ xs) t =
      let q = both (not (contains same x xs)) (apart? neg same xs) t in
      ((λ m. T_not (contains same x xs) q.0 (in_has same same_is x xs m)), apart_is xs q.1)

  every_is : (p : A → Bool) (xs : List A) → T (every neg same p xs) → (x : A) → x ∈ xs → T (p x)
  every_is p [] t x m = absurd m
  every_is p (y ∷ ys) t x (inl e) = subst (λ w. T (p w)) (sym e) (both (p y) (every neg same p ys) t).0
  every_is p (y ∷ ys) t x (inr m) = every_is p ys (both (p y) (every neg same p ys) t).1 x m

  pub test_is_law : (t : Turning A) → T (lawful? neg same t) → Lawful neg t
  test_is_law t h = record {
    apart = apart_is t.held q.0;
    paired = λ x m. has_in same same_is (neg x) t.held (at x m).0;
    twice = λ x m. (same_is (neg (neg x)) x).0 (at x m).1;
    proper = λ x m e. T_not (same (neg x) x) (at x m).2 ((same_is (neg x) x).1 e);
    ahead = λ x m. has_in same same_is (t.follower x) t.held (at x m).3;
    behind = λ x m. has_in same same_is (t.predecessor x) t.held (at x m).4;
    undone = λ x m. (same_is (t.predecessor (t.follower x)) x).0 (at x m).5;
    redone = λ x m. (same_is (t.follower (t.predecessor x)) x).0 (at x m).6;
  }
    where
      q : T (apart? neg same t.held) × T (every neg same (right_at neg same t) t.held)
      q = both (apart? neg same t.held) (every neg same (right_at neg same t) t.held) h

      at : (x : A) → x ∈ t.held
          → T (contains same (neg x) t.held) × T (same (neg (neg x)) x) × T (not (same (neg x) x)) × T (contains same (t.follower x) t.held) × T (contains same (t.predecessor x) t.held)
          × T (same (t.predecessor (t.follower x)) x) × T (same (t.follower (t.predecessor x)) x)
      at x m = seven (contains same (neg x) t.held) (same (neg (neg x)) x) (not (same (neg x) x)) (contains same (t.follower x) t.held) (contains same (t.predecessor x) t.held)
          (same (t.predecessor (t.follower x)) x) (same (t.follower (t.predecessor x)) x) (every_is (right_at neg same t) t.held q.1 x m)
