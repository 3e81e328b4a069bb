-- Bytes that stand in a file, and the numbers that they tell. Assumes nothing.
use Rattle.std.proofs.Common.{◌≡◌, ℕ, zero, suc, ◌+◌, ◌*◌, ◌/◌, ◌%◌, ◌<◌, List, [], ◌∷◌, ◌++◌, length, get_or, ℤ, sym, ap, ◌∙◌, subst, ap₂, mod-eq_of_lt, mul-zero, mul-suc, arith, length-append, w16, w32, SFits, to_z, of_z}
use native.Mathlib.Nat.{div-div-eq-div-mul, mod-add-div'}
use Rattle.std.specs.List.{flat_map, between}
use Rattle.std.proofs.lemmas.List.Edits.{get_or-between}
use Rattle.std.proofs.lemmas.List.{get_or_append_left, get_or-append-add}
use Rattle.std.proofs.lemmas.Int.{ints, to_z-of_z}
use Rattle.file.specs.Bytes.{u16_at, i16_at, i32_at}
use Rattle.writing.specs.Written.{u16_bytes, i16_bytes, i32_bytes}

-- the bytes c stand in b from place k on
abbrev pub Stands : List ℕ → ℕ → List ℕ → Type 0
Stands b k c = (i : ℕ) → i < length c → get_or b (k + i) 0 ≡ get_or c i 0

pub stands_whole : (b : List ℕ) → Stands b 0 b
stands_whole b i l = let e : 0 + i ≡ i = omega arith in ap (λ m. get_or b m 0) e

pub stands_left : (b : List ℕ) (k : ℕ) (c d : List ℕ) → Stands b k (c ++ d) → Stands b k c
stands_left b k c d s i l = s i (omega (arith, length-append c d)) ∙ get_or_append_left c d 0 i l

pub stands_right : (b : List ℕ) (k m : ℕ) (c d : List ℕ) → m ≡ k + length c → Stands b k (c ++ d) → Stands b m d
stands_right b k m c d q s i l =
    let e : m + i ≡ k + (length c + i) = omega arith in
    ap (λ p. get_or b p 0) e ∙ s (length c + i) (omega (arith, length-append c d)) ∙ get_or-append-add c d i 0

-- cut out of the file, they stand at its front
pub stands_between : (b : List ℕ) (k m : ℕ) (c : List ℕ) → length c ≡ m → Stands b k c → Stands (between k (k + m) b) 0 c
stands_between b k m c q s i l =
    let e : 0 + i ≡ i = omega arith in
    ap (λ p. get_or (between k (k + m) b) p 0) e ∙ get_or-between b k (k + m) i 0 (omega arith) ∙ s i l

-- ---- lists of encoded elements
module _ {X : Type 0} (enc : X → List ℕ) (d : X) where
  -- each element stands where the one before it ends
  abbrev pub Places : List X → (ℕ → ℕ) → Type 0
  Places xs at = (i : ℕ) → i < length xs → at (suc i) ≡ at i + length (enc (get_or xs i d))

  pub stands_joined : (b : List ℕ) (xs : List X) (at : ℕ → ℕ) → Places xs at → Stands b (at 0) (flat_map enc xs) → (i : ℕ) → i < length xs → Stands b (at i) (enc (get_or xs i d))
  stands_joined b [] at p s i l = absurd (omega arith)
  stands_joined b (x ∷ xs) at p s zero l = stands_left b (at 0) (enc x) (flat_map enc xs) s
  stands_joined b (x ∷ xs) at p s (suc i) l =
      stands_joined b xs (λ m. at (suc m)) (λ m h. p (suc m) (omega arith)) (stands_right b (at 0) (at 1) (enc x) (flat_map enc xs) (p 0 (omega arith)) s) i (omega arith)

  pub joined_length : (xs : List X) (at : ℕ → ℕ) → Places xs at → at (length xs) ≡ at 0 + length (flat_map enc xs)
  joined_length [] at p = omega arith
  joined_length (x ∷ xs) at p =
      omega (arith, joined_length xs (λ m. at (suc m)) (λ m h. p (suc m) (omega arith)), p 0 (omega arith), length-append (enc x) (flat_map enc xs))

  -- ---- elements of one width
  module _ (w : ℕ) (width : (x : X) → length (enc x) ≡ w) where
    wide_places : (k : ℕ) (xs : List X) → Places xs (λ i. k + w * i)
    wide_places k xs i l = omega (arith, mul-suc w i, width (get_or xs i d))

    pub wide_length : (xs : List X) → length (flat_map enc xs) ≡ w * length xs
    wide_length xs = omega (arith, mul-zero w, joined_length xs (λ i. 0 + w * i) (wide_places 0 xs))

    pub stands_wide : (b : List ℕ) (k m : ℕ) (xs : List X) (i : ℕ) → i < length xs → m ≡ k + w * i → Stands b k (flat_map enc xs) → Stands b m (enc (get_or xs i d))
    stands_wide b k m xs i l e s =
        let z : k ≡ k + w * 0 = omega (arith, mul-zero w) in
        subst (λ p. Stands b p (enc (get_or xs i d))) (sym e) (stands_joined b xs (λ j. k + w * j) (wide_places k xs) (subst (λ p. Stands b p (flat_map enc xs)) z s) i l)

-- ---- numbers
two_bytes : (n : ℕ) → n < 65536 → n % 256 + n / 256 % 256 * 256 ≡ n
two_bytes n l = omega arith

four_bytes : (n : ℕ) → n < 4294967296 → n % 256 + n / 256 % 256 * 256 + n / 65536 % 256 * 65536 + n / 16777216 % 256 * 16777216 ≡ n
four_bytes n l =
    let second : n / 256 / 256 ≡ n / 65536 = div-div-eq-div-mul n 256 256 in
    let third : n / 65536 / 256 ≡ n / 16777216 = div-div-eq-div-mul n 65536 256 in
    let last : n / 16777216 % 256 ≡ n / 16777216 = mod-eq_of_lt (omega arith) in
    omega (arith, mod-add-div' n 256, mod-add-div' (n / 256) 256, mod-add-div' (n / 65536) 256)

here : (b c : List ℕ) (k : ℕ) → Stands b k c → 0 < length c → get_or b k 0 ≡ get_or c 0 0
here b c k s l = let e : k ≡ k + 0 = omega arith in ap (λ m. get_or b m 0) e ∙ s 0 l

pub u16_read : (b : List ℕ) (k n : ℕ) → n < 65536 → Stands b k (u16_bytes n) → u16_at b k ≡ n
u16_read b k n l s = ap₂ (λ x y. x + y * 256) (here b (u16_bytes n) k s (omega arith)) (s 1 (omega arith)) ∙ two_bytes n l

bits_16 : (z : ℤ) → SFits w16 z → of_z w16 z < 65536
bits_16 z f = omega (arith, ints)

bits_32 : (z : ℤ) → SFits w32 z → of_z w32 z < 4294967296
bits_32 z f = omega (arith, ints)

pub i16_read : (b : List ℕ) (k : ℕ) (z : ℤ) → SFits w16 z → Stands b k (i16_bytes z) → i16_at b k ≡ z
unfolding i16_at
i16_read b k z f s = ap (to_z w16) (u16_read b k (of_z w16 z) (bits_16 z f) s) ∙ to_z-of_z w16 z f

pub i32_read : (b : List ℕ) (k : ℕ) (z : ℤ) → SFits w32 z → Stands b k (i32_bytes z) → i32_at b k ≡ z
unfolding i32_at
i32_read b k z f s =
    ap (to_z w32)
    (ap₂ (λ x y. x + y) (ap₂ (λ x y. x + y * 65536) (ap₂ (λ x y. x + y * 256) (here b (i32_bytes z) k s (omega arith)) (s 1 (omega arith))) (s 2 (omega arith))) (ap (λ y. y * 16777216) (s 3 (omega arith)))
    ∙ four_bytes (of_z w32 z) (bits_32 z f))
    ∙ to_z-of_z w32 z f
