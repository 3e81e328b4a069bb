-- The bytes of a part of a file, and the numbers that they tell. Assumes nothing.
use Rattle.std.proofs.Common.{◌≡◌, ℕ, ◌+◌, ◌*◌, ◌<◌, List, get_or, ap, ◌∙◌, arith}
use Rattle.std.specs.List.{between}
use Rattle.std.proofs.lemmas.List.Edits.{get_or-between}

module _ (b part : List ℕ) (k n : ℕ) (e : part ≡ between k (k + n) b) where
  byte : (i : ℕ) → i < n → get_or part i 0 ≡ get_or b (k + i) 0
  byte i h = ap (λ m. get_or m i 0) e ∙ get_or-between b k (k + n) i 0 (omega arith)

  first : 0 < n → get_or part 0 0 ≡ get_or b k 0
  first h = let z : k + 0 ≡ k = omega arith in byte 0 h ∙ ap (λ j. get_or b j 0) z

-- two bytes, and four
pub two_bytes : (b part : List ℕ) (k : ℕ) → part ≡ between k (k + 2) b → get_or part 0 0 + get_or part 1 0 * 256 ≡ get_or b k 0 + get_or b (k + 1) 0 * 256
two_bytes b part k e = omega (arith, first b part k 2 e (omega arith), byte b part k 2 e 1 (omega arith))

pub four_bytes : (b part : List ℕ) (k : ℕ) → part ≡ between k (k + 4) b
    → get_or part 0 0 + get_or part 1 0 * 256 + get_or part 2 0 * 65536 + get_or part 3 0 * 16777216 ≡ get_or b k 0 + get_or b (k + 1) 0 * 256 + get_or b (k + 2) 0 * 65536 + get_or b (k + 3) 0 * 16777216
four_bytes b part k e = omega (arith, first b part k 4 e (omega arith), byte b part k 4 e 1 (omega arith), byte b part k 4 e 2 (omega arith), byte b part k 4 e 3 (omega arith))
