-- The points of a list of names, each where its first name stands. Assumes nothing.
use Rattle.std.proofs.Common.{◌≡◌, ℕ, zero, suc, ◌<◌, ◌≤◌, Bool, true, false, cond, ◌||◌, List, [], ◌∷◌, ◌++◌, length, get_or, ℤ, sym, refl, ap, ◌∙◌, ap₂, inl, inr, arith}
use Rattle.std.proofs.lemmas.Bool.{and_parts, and_from}
use Rattle.flat.specs.Orbits.{◌∈◌}
use Rattle.flat.specs.Whole.{equal}
use Rattle.flat.proofs.Basics.{T_true, true_T}
use Rattle.flat.proofs.Whole.{equal_is}
use Rattle.chart.specs.declared.point.Point.{Point}
use Rattle.chart.specs.Points.{same_point}
use Rattle.chart.specs.Linework.{Linework}
use Rattle.writing.specs.Written.{start_of, starts_at, new_points}

-- ---- the test of two points
pub point_is : (p q : Point) → same_point p q ≡ true → p ≡ q
point_is p q e =
    let r = and_parts (equal p.x q.x) (equal p.y q.y) e in
    ap₂ (λ (x y : ℤ). record { x = x; y = y }) ((equal_is p.x q.x).0 (true_T _ r.0)) ((equal_is p.y q.y).0 (true_T _ r.1))

pub is_point : (p q : Point) → p ≡ q → same_point p q ≡ true
is_point p q e = and_from _ _ (T_true _ ((equal_is p.x q.x).1 (ap (λ z. z.x) e))) (T_true _ ((equal_is p.y q.y).1 (ap (λ z. z.y) e)))

-- ---- tests in another order
or_swap : (a b c : Bool) → (a || (b || c)) ≡ (b || (a || c))
or_swap true true c = refl
or_swap true false c = refl
or_swap false b c = refl

or_shift : (a b c : Bool) → ((b || a) || c) ≡ (a || (b || c))
or_shift true true c = refl
or_shift true false c = refl
or_shift false true c = refl
or_shift false false c = refl

or_known : (a b c : Bool) → (b ≡ true → a ≡ true) → (a || c) ≡ (a || (b || c))
or_known true b c f = refl
or_known false true c f = ap (λ x. x || c) (f refl)
or_known false false c f = refl

module _ (l : Linework) where
  -- ---- one name more
  pub starts_more : (xs : List ℤ) (h : ℤ) (p : Point) → starts_at l (xs ++ (h ∷ [])) p ≡ (same_point (start_of l h) p || starts_at l xs p)
  starts_more [] h p = refl
  starts_more (x ∷ xs) h p = ap (λ b. same_point (start_of l x) p || b) (starts_more xs h p) ∙ or_swap (same_point (start_of l x) p) (same_point (start_of l h) p) (starts_at l xs p)

  pub new_more : (before xs : List ℤ) (h : ℤ)
      → new_points l before (xs ++ (h ∷ [])) ≡ new_points l before xs ++ cond (starts_at l before (start_of l h) || starts_at l xs (start_of l h)) [] (start_of l h ∷ [])
  new_more before [] h = alone (starts_at l before (start_of l h))
    where
      alone : (b : Bool) → cond b [] (start_of l h ∷ []) ≡ cond (b || false) [] (start_of l h ∷ [])
      alone true = refl
      alone false = refl
  new_more before (x ∷ xs) h = go (starts_at l before (start_of l x)) refl (new_more before xs h) (new_more (x ∷ before) xs h)
    where
      go : (b : Bool) → starts_at l before (start_of l x) ≡ b
          → new_points l before (xs ++ (h ∷ [])) ≡ new_points l before xs ++ cond (starts_at l before (start_of l h) || starts_at l xs (start_of l h)) [] (start_of l h ∷ [])
          → new_points l (x ∷ before) (xs ++ (h ∷ []))
          ≡ new_points l (x ∷ before) xs ++ cond ((same_point (start_of l x) (start_of l h) || starts_at l before (start_of l h)) || starts_at l xs (start_of l h)) [] (start_of l h ∷ [])
          → cond b (new_points l before (xs ++ (h ∷ []))) (start_of l x ∷ new_points l (x ∷ before) (xs ++ (h ∷ [])))
          ≡ cond b (new_points l before xs) (start_of l x ∷ new_points l (x ∷ before) xs)
          ++ cond (starts_at l before (start_of l h) || (same_point (start_of l x) (start_of l h) || starts_at l xs (start_of l h))) [] (start_of l h ∷ [])
      go true e old new =
          old ∙ ap (λ b. new_points l before xs ++ cond b [] (start_of l h ∷ []))
          (or_known (starts_at l before (start_of l h)) (same_point (start_of l x) (start_of l h)) (starts_at l xs (start_of l h))
          (λ q. ap (starts_at l before) (sym (point_is (start_of l x) (start_of l h) q)) ∙ e))
      go false e old new =
          ap (λ ps. start_of l x ∷ ps)
          (new ∙ ap (λ b. new_points l (x ∷ before) xs ++ cond b [] (start_of l h ∷ []))
          (or_shift (starts_at l before (start_of l h)) (same_point (start_of l x) (start_of l h)) (starts_at l xs (start_of l h))))

  -- ---- how many, and which
  pub new_few : (before xs : List ℤ) → length (new_points l before xs) ≤ length xs
  new_few before [] = omega arith
  new_few before (x ∷ xs) = go (starts_at l before (start_of l x)) (new_few before xs) (new_few (x ∷ before) xs)
    where
      go : (b : Bool) → length (new_points l before xs) ≤ length xs → length (new_points l (x ∷ before) xs) ≤ length xs
          → length (cond b (new_points l before xs) (start_of l x ∷ new_points l (x ∷ before) xs)) ≤ length (x ∷ xs)
      go true old new = omega arith
      go false old new = omega arith

  -- what holds where each name starts holds of each point
  pub new_all : (P : Point → Type 0) (d : Point) (before xs : List ℤ) → ((h : ℤ) → h ∈ xs → P (start_of l h)) → (k : ℕ) → k < length (new_points l before xs) → P (get_or (new_points l before xs) k d)
  new_all P d before [] f k h = absurd (omega arith)
  new_all P d before (x ∷ xs) f k h =
      go (starts_at l before (start_of l x)) (new_all P d before xs (λ z m. f z (inr m))) (new_all P d (x ∷ before) xs (λ z m. f z (inr m))) k h
    where
      go : (b : Bool) → ((k : ℕ) → k < length (new_points l before xs) → P (get_or (new_points l before xs) k d))
          → ((k : ℕ) → k < length (new_points l (x ∷ before) xs) → P (get_or (new_points l (x ∷ before) xs) k d))
          → (k : ℕ) → k < length (cond b (new_points l before xs) (start_of l x ∷ new_points l (x ∷ before) xs))
          → P (get_or (cond b (new_points l before xs) (start_of l x ∷ new_points l (x ∷ before) xs)) k d)
      go true old new k h = old k h
      go false old new zero h = f x (inl refl)
      go false old new (suc k) h = new k (omega arith)
