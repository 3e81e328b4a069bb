-- Names as they go through 16 bits, and their negations. Assumes nothing.
use Rattle.std.proofs.Common.{◌≡◌, ℕ, ◌^◌, ◌<◌, ◌≤◌, true, ℤ, pos, ◌-ℤ◌, neg_ℤ, sym, ap, ◌∙◌, arith, w16, Fits, SFits, to_z, of_z}
use lib.IntN.{+ℤ_idl}
use Rattle.std.proofs.lemmas.Int.{ints, to_z_pos, to_z-of_z, of_z-to_z}
use Rattle.turning.specs.Limits.{max_edge}
use Rattle.turning.specs.Turn.{Turn, Lawful}

pub minus : (z : ℤ) → SFits w16 z → pos 0 -ℤ to_z w16 (of_z w16 z) ≡ neg_ℤ z
minus z f = ap (λ x. pos 0 -ℤ x) (to_z-of_z w16 z f) ∙ +ℤ_idl (neg_ℤ z)

-- the negation as it comes out of 16 bits again
pub minus_back : (z : ℤ) → SFits w16 z → SFits w16 (pos 0 -ℤ to_z w16 (of_z w16 z)) → to_z w16 (of_z w16 (pos 0 -ℤ to_z w16 (of_z w16 z))) ≡ neg_ℤ z
minus_back z f n = to_z-of_z w16 _ n ∙ minus z f

pub same_name : (a b : ℤ) → SFits w16 a → SFits w16 b → of_z w16 a ≡ of_z w16 b → a ≡ b
same_name a b f g e = sym (to_z-of_z w16 a f) ∙ ap (to_z w16) e ∙ to_z-of_z w16 b g

-- ---- the two names of an edge, from its number
pub plus_fits : (e : ℕ) → e < 2 ^ 15 → SFits w16 (pos e)
plus_fits e l = omega (arith, ints)

pub plus_name : (e : ℕ) → e < 2 ^ 15 → to_z w16 e ≡ pos e
plus_name e l = to_z_pos w16 e l

pub minus_fits : (e : ℕ) → e < 2 ^ 15 → SFits w16 (pos 0 -ℤ to_z w16 e)
minus_fits e l = let p = plus_name e l in omega (arith, ints)

pub minus_name : (e : ℕ) → e < 2 ^ 15 → to_z w16 (of_z w16 (pos 0 -ℤ to_z w16 e)) ≡ neg_ℤ (pos e)
minus_name e l = to_z-of_z w16 _ (minus_fits e l) ∙ (let p = plus_name e l in omega (arith, ints))

-- the bits of a name
pub bits_of : (b : ℕ) (a : ℤ) → Fits w16 b → to_z w16 b ≡ a → b ≡ of_z w16 a
bits_of b a f e = sym (of_z-to_z w16 b f.fits) ∙ ap (of_z w16) e

-- ---- the numbers up to the limit
pub small : (e : ℕ) → e ≤ max_edge → e < 2 ^ 15
small e l = omega arith

pub held_small : (t : Turn) → Lawful max_edge t → (e : ℕ) → t.held (pos e) ≡ true → e < 2 ^ 15
held_small t l e h = let u = l.high (pos e) h in omega (arith, ints)
