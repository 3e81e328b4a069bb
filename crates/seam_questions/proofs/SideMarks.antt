-- Marks by side. Assumes nothing.
use Rattle.std.proofs.Common.{◌≡◌, ℕ, zero, suc, ◌+◌, ◌<◌, Bool, true, false, cond, not, ◌&&◌, ◌||◌, eqb, ltb, List, ℤ, pos, negsuc, Some, None, sym, refl, ap, ◌∙◌, subst, add-one, arith}
use mathlib.Core.Bool.{beq}
use Rattle.turning.specs.Limits.{max_edge}
use Rattle.file.specs.Strips.{Strip, home, names}
use Rattle.file.specs.Questions.{named, positive}
use Rattle.seam_questions.specs.Sides.{side_names, west_of, east_of, neighbour_names, stands_right}
use Rattle.flat.specs.Orbits.{indicator}
use Rattle.file.specs.Questions.{beyond, name_good}
use Rattle.file.specs.Layout.{strip}
use Rattle.file.specs.Judged.{Judged}
use Rattle.std.proofs.lemmas.Bool.Decides.{nat_tests}

-- the names of the neighbour to the east, by one test
east_names : (n : ℕ) (at : ℕ → Strip) (j : ℕ) (z : ℤ) → neighbour_names false at (east_of n j) z ≡ (ltb (j + 1) n && side_names false (at (j + 1)) (at (j + 1)).slots z)
east_names n at j z = by_test (ltb (j + 1) n)
  where
    by_test : (b : Bool) → neighbour_names false at (cond b (Some (j + 1)) None) z ≡ (b && side_names false (at (j + 1)) (at (j + 1)).slots z)
    by_test true = refl
    by_test false = refl

off : (b p x : Bool) (w : ℕ) → p ≡ true → cond (b && (not p && x)) 1 w ≡ w
off true p x w e = ap (λ q. cond (not q && x) 1 w) e
off false p x w e = refl

on : (p x : Bool) → p ≡ true → cond (p && x) 1 0 ≡ indicator x
on p true e = ap (λ q. cond (q && true) 1 0) e
on p false e = ap (λ q. cond (q && false) 1 0) e

east : (b x : Bool) → cond (b && x) 1 0 ≡ indicator (b && x)
east true true = refl
east true false = refl
east false x = refl

plus : (e : ℕ) → named max_edge (pos e) ≡ true → positive (pos e) ≡ true
plus e h = grind (arith, nat_tests)

sides_by : (n : ℕ) (at : ℕ → Strip) (j : ℕ) (z : ℤ) → named max_edge z ≡ true
    → cond (ltb (j + 1) n && side_names false (at (j + 1)) (at (j + 1)).slots z) 1 (cond (neighbour_names true at (west_of j) z) 1 0) ≡ indicator (beyond n at j z)
sides_by n at zero (pos e) h = off (ltb 1 n) (positive (pos e)) (names (at 1) (at 1).slots (pos e)) 0 (plus e h)
sides_by n at (suc j) (pos e) h =
    off (ltb (suc j + 1) n) (positive (pos e)) (names (at (suc j + 1)) (at (suc j + 1)).slots (pos e)) (cond (positive (pos e) && names (at j) (at j).slots (pos e)) 1 0) (plus e h)
    ∙ on (positive (pos e)) (names (at j) (at j).slots (pos e)) (plus e h)
sides_by n at zero (negsuc e) h = east (ltb 1 n) (names (at 1) (at 1).slots (negsuc e))
sides_by n at (suc j) (negsuc e) h =
    east (ltb (suc j + 1) n) (names (at (suc j + 1)) (at (suc j + 1)).slots (negsuc e))
    ∙ ap (λ k. indicator (ltb k n && names (at k) (at k).slots (negsuc e))) (add-one (suc j))

-- a name stands beyond just where it stands on its side
pub sides_are : (n : ℕ) (at : ℕ → Strip) (j : ℕ) (z : ℤ) → named max_edge z ≡ true
    → cond (neighbour_names false at (east_of n j) z) 1 (cond (neighbour_names true at (west_of j) z) 1 0) ≡ indicator (beyond n at j z)
sides_are n at j z h = ap (λ b. cond b 1 (cond (neighbour_names true at (west_of j) z) 1 0)) (east_names n at j z) ∙ sides_by n at j z h

-- the names of a strip that was lent are good
pub lent_good : (b : List ℕ) (n j : ℕ) (s : Strip) → Judged b n → j < n → s ≡ strip b j → (k : ℕ) → k < s.slots → name_good max_edge s k ≡ true
lent_good b n j s g h e k l = subst (λ y. name_good max_edge y k ≡ true) (sym e) (g.named j h k (subst (λ y. k < y.slots) e l))

pub told_mark : (m : ℕ) (b : Bool) → m ≡ indicator b → not (eqb m 0) ≡ b
told_mark m true e = ap (λ n. not (eqb n 0)) e
told_mark m false e = ap (λ n. not (eqb n 0)) e

-- ---- the answer at a slot: where the name is of the other kind, and where it is asked
apart : (b : Bool) → b ≡ true → b ≡ false → ⊥
apart b t f = let y : ◌≡◌ {A = ℕ} 0 1 = cc in omega arith

or_first : (h a b : Bool) → h ≡ a → not (beq h false) ≡ true → not (beq h false) ≡ (a || b)
or_first true a b e t = ap (λ x. x || b) e
or_first false a b e t = absurd (apart false t refl)

or_second : (h a x b : Bool) → h ≡ a → x ≡ b → not (beq h false) ≡ false → not (beq x false) ≡ (a || b)
or_second true a x b e f t = absurd (apart true refl t)
or_second false a true b e f t = f ∙ ap (λ y. y || b) e
or_second false a false b e f t = f ∙ ap (λ y. y || b) e

and_first : (h a b : Bool) → h ≡ a → not (beq h true) ≡ true → not (beq h true) ≡ not (a && b)
and_first true a b e t = absurd (apart false t refl)
and_first false a b e t = ap (λ y. not (y && b)) e

and_second : (h a x b : Bool) → h ≡ a → x ≡ b → not (beq h true) ≡ false → not (beq x true) ≡ not (a && b)
and_second true a true b e f t = ap not f ∙ ap (λ y. not (y && b)) e
and_second true a false b e f t = ap not f ∙ ap (λ y. not (y && b)) e
and_second false a x b e f t = absurd (apart true refl t)

module _ (n : ℕ) (at : ℕ → Strip) (j i : ℕ) (h : Bool) (e : h ≡ home (at j) i) where
  pub other_kind : (homes : Bool) → not (beq h homes) ≡ true → not (beq h homes) ≡ stands_right homes n at j i
  other_kind false t = or_first h (home (at j) i) (beyond n at j ((at j).name i)) e t
  other_kind true t = and_first h (home (at j) i) (beyond n at j ((at j).name i)) e t

  pub asked_kind : (homes x : Bool) → x ≡ beyond n at j ((at j).name i) → not (beq h homes) ≡ false → not (beq x homes) ≡ stands_right homes n at j i
  asked_kind false x f t = or_second h (home (at j) i) x (beyond n at j ((at j).name i)) e f t
  asked_kind true x f t = and_second h (home (at j) i) x (beyond n at j ((at j).name i)) e f t
