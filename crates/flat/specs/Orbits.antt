-- Names in a list, the walks that a list of steps allows, and the number of classes that a test sorts a list into.
-- Assumes nothing.
use Rattle.std.specs.Prelude.{◌≡◌, ℕ, zero, suc, ◌+◌, Bool, true, false, cond, not, ◌||◌, ◌⊎◌, List, [], ◌∷◌, ◌++◌, length}
use Rattle.std.proofs.Math.Option.{Option, none, some}

-- 1 for a yes, 0 for a no
abbrev pub indicator : Bool → ℕ
indicator true = 1
indicator false = 0

module _ {A : Type 0} where
  infix 4 ◌∈◌
  -- x stands in the list
  abbrev pub ◌∈◌ : A → List A → Type 0
  x ∈ [] = ⊥
  x ∈ (y ∷ ys) = (x ≡ y) ⊎ (x ∈ ys)

  -- no name stands in the list twice
  abbrev pub Distinct : List A → Type 0
  Distinct [] = Unit {0}
  Distinct (x ∷ xs) = (¬ (x ∈ xs)) × Distinct xs

  -- where each of the steps leads from x
  abbrev pub ends : List (A → A) → A → List A
  ends [] x = []
  ends (s ∷ ss) x = s x ∷ ends ss x

  -- where one step leads from any of xs
  abbrev pub frontier : List (A → A) → List A → List A
  frontier ss [] = []
  frontier ss (x ∷ xs) = ends ss x ++ frontier ss xs

  -- a walk of any length, each step of it by one of ss
  pub data Reach (ss : List (A → A)) : A → A → Type 0 where
    stay : {x : A} → Reach ss x x
    walk : {x y z : A} → y ∈ ends ss x → Reach ss y z → Reach ss x z

  -- no step leads out of the list
  abbrev pub ClosedUnder : List (A → A) → List A → Type 0
  ClosedUnder ss xs = (x y : A) → x ∈ xs → y ∈ ends ss x → y ∈ xs

  -- each step from a name of the list can be walked back
  abbrev pub Reversible : List (A → A) → List A → Type 0
  Reversible ss xs = (x y : A) → x ∈ xs → y ∈ ends ss x → Reach ss y x

  -- no two of the list are related
  abbrev pub Unrelated : (A → A → Type 0) → List A → Type 0
  Unrelated R [] = Unit {0}
  Unrelated R (x ∷ xs) = ((y : A) → y ∈ xs → ¬ R x y) × Unrelated R xs

  -- f taken k times
  abbrev pub iterate : ℕ → (A → A) → A → A
  iterate zero f x = x
  iterate (suc k) f x = f (iterate k f x)

  -- x and where f leads from it in k steps, the last first
  abbrev pub trail : ℕ → (A → A) → A → List A
  trail zero f x = x ∷ []
  trail (suc k) f x = iterate (suc k) f x ∷ trail k f x

  -- the names of the list that pass the test
  abbrev pub filter : (A → Bool) → List A → List A
  filter p [] = []
  filter p (x ∷ xs) = cond (p x) (x ∷ filter p xs) (filter p xs)

  -- some name of the list passes the test
  abbrev pub any : (A → Bool) → List A → Bool
  any p [] = false
  any p (x ∷ xs) = p x || any p xs

  -- the number of classes that r sorts the list into: each class is counted at its last name
  unfoldable pub classes : (A → A → Bool) → List A → ℕ
  classes r [] = 0
  classes r (x ∷ xs) = indicator (not (any (r x) xs)) + classes r xs

  module _ (same : A → A → Bool) where
    -- x stands in the list, by the test of two names
    abbrev pub contains : A → List A → Bool
    contains x xs = any (same x) xs

    -- the first of the candidates that is not in xs
    abbrev pub fresh : List A → List A → Option A
    fresh xs [] = none
    fresh xs (c ∷ cs) = cond (contains c xs) (fresh xs cs) (some c)

    -- while a step leads out of xs, add where it leads; at most n times
    unfoldable pub closure : ℕ → List (A → A) → List A → List A
    closure zero ss xs = xs
    closure (suc n) ss xs = elim (fresh xs (frontier ss xs)) [ none ↦ xs | some y ↦ closure n ss (y ∷ xs) ]

    -- a walk within held leads from x to y
    unfoldable pub linked : List (A → A) → List A → A → A → Bool
    linked ss held x y = contains y (closure (length held) ss (x ∷ []))

    -- the number of classes of held under "a walk leads from one to the other"
    unfoldable pub orbits : List (A → A) → List A → ℕ
    orbits ss held = classes (linked ss held) held

    -- b for a, a for b, and every other name for itself
    abbrev pub swapped : A → A → A → A
    swapped a b x = cond (same x a) b (cond (same x b) a x)

    -- f with the images of a and b swapped
    abbrev pub spliced : A → A → (A → A) → A → A
    spliced a b f x = f (swapped a b x)
