-- What is gathered of a strip, and how many bytes it takes. Assumes nothing.
use Rattle.std.proofs.Common.{◌≡◌, ℕ, ◌+◌, ◌*◌, List, [], ◌∷◌, ◌++◌, map, length, ℤ, sym, refl, ap, ◌∙◌, ap₂, mul-suc, arith}
use Rattle.std.specs.List.{flat_map as joined}
use Rattle.std.proofs.lemmas.List.{length-append, length-map}
use Rattle.chart.specs.Linework.{Linework}
use Rattle.writing.specs.Written.{u16_bytes, i16_bytes, i32_bytes, names_in, follower_slot, start_of, points_in, strip_bytes}
use Rattle.writing.specs.Gathers.{size_of, Gathered}
use Rattle.writing.proofs.CodeParts.{joined_map}

-- elements of one width
pub length_joined : {X : Type 0} (enc : X → List ℕ) (w : ℕ) → ((x : X) → length (enc x) ≡ w) → (xs : List X) → length (joined enc xs) ≡ w * length xs
length_joined enc w wide [] = omega arith
length_joined enc w wide (x ∷ xs) =
    let e = wide x in
    let rest = length_joined enc w wide xs in
    length-append (enc x) (joined enc xs) ∙ (let m = mul-suc w (length xs) in omega arith)

module _ (n : ℕ) (bs : List ℤ) (l : Linework) (i : ℕ) where
  -- the lists are as long as the sizes tell
  pub sizes_are : (names firsts : List ℤ) → Gathered n bs l i names firsts → record { vertices = length firsts; slots = length names } ≡ size_of n bs l i
  sizes_are names firsts g = ap₂ (λ v s. record { vertices = v; slots = s }) (sym (length-map firsts (start_of l)) ∙ ap length g.started) (ap length g.named)

  -- four bytes for each slot, eight for each vertex
  pub strip_long : length (strip_bytes n bs l i) ≡ 4 * length (names_in n bs l i) + 8 * length (points_in n bs l i)
  unfolding strip_bytes
  strip_long =
      let names = names_in n bs l i in
      let points = points_in n bs l i in
      let a = joined i16_bytes names in
      let b = joined (λ h. u16_bytes (follower_slot n bs l i h)) names in
      let x = joined (λ p. i32_bytes p.x) points in
      let y = joined (λ p. i32_bytes p.y) points in
      let la : length a ≡ 2 * length names = length_joined i16_bytes 2 (λ _. refl) names in
      let lb : length b ≡ 2 * length names = length_joined (λ h. u16_bytes (follower_slot n bs l i h)) 2 (λ _. refl) names in
      let lx : length x ≡ 4 * length points = length_joined (λ p. i32_bytes p.x) 4 (λ _. refl) points in
      let ly : length y ≡ 4 * length points = length_joined (λ p. i32_bytes p.y) 4 (λ _. refl) points in
      let p = length-append a (b ++ (x ++ y)) in
      let q = length-append b (x ++ y) in
      let r = length-append x y in
      omega arith

  -- the four arrays, by the names and by a name of each vertex
  pub arrays_are : (names firsts : List ℤ) → names ≡ names_in n bs l i → map (start_of l) firsts ≡ points_in n bs l i
      → joined i16_bytes names ++ (joined (λ h. u16_bytes (follower_slot n bs l i h)) names ++ (joined (λ h. i32_bytes (start_of l h).x) firsts ++ joined (λ h. i32_bytes (start_of l h).y) firsts)) ≡ strip_bytes n bs l i
  unfolding strip_bytes
  arrays_are names firsts named started =
      ap₂ (λ x y. joined i16_bytes names ++ (joined (λ h. u16_bytes (follower_slot n bs l i h)) names ++ (x ++ y)))
      (sym (joined_map (λ p. i32_bytes p.x) (start_of l) firsts) ∙ ap (joined (λ p. i32_bytes p.x)) started)
      (sym (joined_map (λ p. i32_bytes p.y) (start_of l) firsts) ∙ ap (joined (λ p. i32_bytes p.y)) started)
      ∙ ap (λ zs. joined i16_bytes zs ++ (joined (λ h. u16_bytes (follower_slot n bs l i h)) zs ++ (joined (λ p. i32_bytes p.x) (points_in n bs l i) ++ joined (λ p. i32_bytes p.y) (points_in n bs l i)))) named
