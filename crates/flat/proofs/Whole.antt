-- Whole numbers are told apart by `equal`.
-- Assumes nothing.
use Rattle.std.proofs.Common.{◌≡◌, T, ◌↔◌, ℤ, pos, negsuc, ap, subst, eqb→eq}
use lib.Dec.{eqb_refl}
use Rattle.flat.specs.Whole.{equal}

same_eq : (x y : ℤ) → T (equal x y) → x ≡ y
same_eq (pos a) (pos b) t = ap pos (eqb→eq a b t)
same_eq (pos a) (negsuc b) t = absurd t
same_eq (negsuc a) (pos b) t = absurd t
same_eq (negsuc a) (negsuc b) t = ap negsuc (eqb→eq a b t)

equal_refl : (x : ℤ) → T (equal x x)
equal_refl (pos a) = eqb_refl a
equal_refl (negsuc a) = eqb_refl a

pub equal_is : (x y : ℤ) → T (equal x y) ↔ (x ≡ y)
equal_is x y = (same_eq x y, λ e. subst (λ z. T (equal x z)) e (equal_refl x))
