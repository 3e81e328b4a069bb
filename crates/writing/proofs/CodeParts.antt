-- Lists of numbers that are written one after the other, each over its own part. Assumes nothing.
use Rattle.std.proofs.Common.{◌≡◌, ℕ, ◌+◌, ◌-◌, ◌*◌, ◌≤◌, List, [], ◌∷◌, ◌++◌, map, length, take, drop, sym, refl, ap, ◌∙◌, arith}
use borrow.Rule.Slice.PartMut.{put_mid}
use Rattle.std.specs.List.{flat_map}
use Rattle.std.proofs.lemmas.List.{append_assoc, length-append, length-take-le, length-drop, take_all, take_at}
use Rattle.std.proofs.lemmas.Slice.{take-put_mid}

module _ {X : Type 0} (enc : X → List ℕ) where
  pub joined_map : {Y : Type 0} (f : Y → X) (ys : List Y) → flat_map enc (map f ys) ≡ flat_map (λ y. enc (f y)) ys
  joined_map f [] = refl
  joined_map f (y ∷ ys) = ap (λ z. enc (f y) ++ z) (joined_map f ys)

-- one part more is written, from place a to place b
pub part_more : (p head ys : List ℕ) (a b k : ℕ) → take a p ≡ head → b ≡ a + length ys → a ≤ length p → take b (put_mid a k p ys) ≡ head ++ ys
part_more p head ys a b k before end room = take-put_mid a k p ys b end room ∙ ap (λ x. x ++ ys) before

pub length_put_mid : (a k : ℕ) (p ys : List ℕ) → a + k ≤ length p → length ys ≡ k → length (put_mid a k p ys) ≡ length p
length_put_mid a k p ys fits long =
    let room : a ≤ length p = omega arith in
    length-append (take a p) (ys ++ drop k (drop a p))
    ∙ (let t = length-take-le a p room in let u = length-append ys (drop k (drop a p)) in let v = length-drop k (drop a p) in let w = length-drop a p in omega arith)

-- four parts that make up the whole, written one after the other
pub four_parts : (part a b x y : List ℕ) (h v : ℕ) → length part ≡ 4 * h + 8 * v → length a ≡ 2 * h → length b ≡ 2 * h → length x ≡ 4 * v → length y ≡ 4 * v
    → put_mid (4 * h + 4 * v) (length part - (4 * h + 4 * v)) (put_mid (4 * h) (4 * h + 4 * v - 4 * h) (put_mid (2 * h) (4 * h - 2 * h) (a ++ drop (2 * h - 0) part) b) x) y ≡ a ++ (b ++ (x ++ y))
four_parts part a b x y h v long la lb lx ly = sym (take_all (length part) last (omega (arith, long₄))) ∙ whole ∙ append_assoc (a ++ b) x y ∙ append_assoc a b (x ++ y)
  where
    first : List ℕ
    first = a ++ drop (2 * h - 0) part

    second : List ℕ
    second = put_mid (2 * h) (4 * h - 2 * h) first b

    third : List ℕ
    third = put_mid (4 * h) (4 * h + 4 * v - 4 * h) second x

    last : List ℕ
    last = put_mid (4 * h + 4 * v) (length part - (4 * h + 4 * v)) third y

    long₁ : length first ≡ length part
    long₁ = length-append a (drop (2 * h - 0) part) ∙ (let d = length-drop (2 * h - 0) part in omega arith)

    long₂ : length second ≡ length part
    long₂ = length_put_mid (2 * h) (4 * h - 2 * h) first b (omega (arith, long₁)) (omega arith) ∙ long₁

    long₃ : length third ≡ length part
    long₃ = length_put_mid (4 * h) (4 * h + 4 * v - 4 * h) second x (omega (arith, long₂)) (omega arith) ∙ long₂

    long₄ : length last ≡ length part
    long₄ = length_put_mid (4 * h + 4 * v) (length part - (4 * h + 4 * v)) third y (omega (arith, long₃)) (omega arith) ∙ long₃

    whole : take (length part) last ≡ ((a ++ b) ++ x) ++ y
    whole = part_more third ((a ++ b) ++ x) y (4 * h + 4 * v) (length part) _
        (part_more second (a ++ b) x (4 * h) (4 * h + 4 * v) _ (part_more first a b (2 * h) (4 * h) _ (take_at a (drop (2 * h - 0) part) (2 * h) la) (omega arith) (omega (arith, long₁))) (omega arith) (omega (arith, long₂)))
        (omega arith) (omega (arith, long₃))
