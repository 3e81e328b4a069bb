-- Buffers of which a part was lent and came back zero. Assumes nothing.
use Rattle.std.proofs.Common.{◌≡◌, ℕ, ◌<◌, ◌≤◌, Bool, true, false, leb, ◌&&◌, List, ◌++◌, length, take, drop, replicate, ℤ, sym, refl, ap, ◌∙◌, length-take-le, arith}
use Rattle.std.proofs.lemmas.Bool.{and_from, le-leb, leb-true, cond-true, cond-false}
use Rattle.std.proofs.lemmas.List.{take-append-drop}
use Rattle.turning.specs.Limits.{marks_for, line_for}
use Rattle.search.specs.Buffers.{wiped, enough, enough_marks, given_back}

-- ---- whether the buffers are long enough
pub enough_both : (n : ℕ) (m : List ℕ) (l : List ℤ) → marks_for n ≤ length m → line_for n ≤ length l → enough n m l ≡ true
enough_both n m l a b = and_from (leb (marks_for n) (length m)) (leb (line_for n) (length l)) (le-leb (marks_for n) (length m) a) (le-leb (line_for n) (length l) b)

below_no : (a b : ℕ) → b < a → leb a b ≡ false
below_no a b l = go (leb a b) refl
  where
    go : (r : Bool) → leb a b ≡ r → leb a b ≡ false
    go true e = absurd (omega (arith, leb-true a b e))
    go false e = e

and_no : (a b : Bool) → b ≡ false → (a && b) ≡ false
and_no true b e = e
and_no false b e = refl

pub short_marks : (n : ℕ) (m : List ℕ) → length m < marks_for n → enough_marks n m ≡ false
short_marks n m l = below_no (marks_for n) (length m) l

pub marks_short : (n : ℕ) (m : List ℕ) (l : List ℤ) → length m < marks_for n → enough n m l ≡ false
marks_short n m l k = ap (λ b. b && leb (line_for n) (length l)) (below_no (marks_for n) (length m) k)

pub line_short : (n : ℕ) (m : List ℕ) (l : List ℤ) → length l < line_for n → enough n m l ≡ false
line_short n m l k = and_no (leb (marks_for n) (length m)) (leb (line_for n) (length l)) (below_no (line_for n) (length l) k)

-- ---- how a buffer is given back
module _ {A : Type 0} (answer : Bool) (n : ℕ) (z : A) (xs : List A) where
  -- its part ys was lent, and came back zero
  pub given_zero : answer ≡ true → (ys zs : List A) → n ≤ length xs → ys ≡ take n xs → zs ≡ replicate (length ys) z → zs ++ drop n xs ≡ given_back answer n z xs
  unfolding wiped
  given_zero h ys zs l i e =
      ap (λ q. q ++ drop n xs) (e ∙ ap (λ k. replicate k z) (ap length i ∙ length-take-le n xs l)) ∙ sym (cond-true answer _ _ h)

  -- its part ys was lent, and came back as it was
  pub given_same : answer ≡ false → (ys : List A) → ys ≡ take n xs → ys ++ drop n xs ≡ given_back answer n z xs
  unfolding wiped
  given_same h ys i = ap (λ q. q ++ drop n xs) i ∙ take-append-drop n xs ∙ sym (cond-false answer _ _ h)

  pub given_whole : answer ≡ false → xs ≡ given_back answer n z xs
  unfolding wiped
  given_whole h = sym (cond-false answer _ _ h)
