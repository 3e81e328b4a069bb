-- Once sorted, the vertices that have the point of an earlier one are those that have the point of their left neighbour. Assumes nothing.
use Rattle.std.proofs.Common.{◌≡◌, ℕ, suc, ◌∷◌, drop, ◌+◌, ◌-◌, ◌<◌, ◌≤◌, true, false, cond, not, eqb, ltb, ◌⊎◌, List, length, get_or, set, Some, None, Option, sym, refl, ap, ◌∙◌, subst, ⊎_elim, arith}
use Rattle.std.proofs.Math.Seq.{drop-cons}
use Rattle.std.specs.List.Sorted.{IsPermutation, IsSorted}
use Rattle.std.specs.List.{swap, Contains}
use Rattle.std.proofs.lemmas.List.Edits.{swap_is, length-swap}
use Rattle.std.proofs.lemmas.List.Elements.{All-get_or, All-from_get_or, Contains-get_or, at_from_Contains}
use Rattle.std.proofs.lemmas.List.{length-drop}
use Rattle.std.proofs.lemmas.List.{get_or-set_same, get_or-set_other, length-set}
use Rattle.std.proofs.lemmas.List.Sorted.{IsPermutation-keeps, All-permutation, Contains-permutation}
use Rattle.std.proofs.lemmas.Bool.{cases_Bool, cases_cond, cases_eq, cases_order, not-false}
use Rattle.std.proofs.lemmas.Bool.Decides.{nat_tests}
use Rattle.chart.specs.Points.{same_point}
use Rattle.file.specs.Places.{each}
use Rattle.file.specs.Questions.{point_new}
use Rattle.file.specs.Strips.{Strip}
use Rattle.file.proofs.Places.{any_here, any_where, first_bad_is, first_bad_none, bool_apart}
use Rattle.strip_questions.specs.declared.points.Vertex.{Vertex}
use Rattle.strip_questions.specs.Repeats.{blank, vertex_at, together, Listed, repeats, lower, Lowest}
use Rattle.strip_questions.proofs.Ordering.{by_point, in_order, places_rise, places_fall, between}

-- ---- places stay apart as a list is shuffled
-- entry i comes from this one, where the entries a and b are exchanged
abbrev from : ℕ → ℕ → ℕ → ℕ
from a b i = cond (eqb i b) a (cond (eqb i a) b i)

from_below : (a b i n : ℕ) → a < n → b < n → i < n → from a b i < n
from_below a b i n p q h = grind arith

from_once : (a b i j : ℕ) → from a b i ≡ from a b j → i ≡ j
from_once a b i j e = grind arith

read : (l : List Vertex) (a b i : ℕ) → a < length l → b < length l → get_or (swap l a b) i blank ≡ get_or l (from a b i) blank
read l a b i p q =
    let w : List Vertex = set l a (get_or l b blank) in
    let long : b < length w = simp length-set (omega arith) in
    ap (λ m. get_or m i blank) (sym (swap_is l a b blank p q))
    ∙ ⊎_elim
    (λ e. let f : a ≡ from a b i = grind arith in
    ap (λ n. get_or (set w b (get_or l a blank)) n blank) e ∙ get_or-set_same w b (get_or l a blank) blank long ∙ ap (λ n. get_or l n blank) f)
    (λ n. get_or-set_other w b i (get_or l a blank) blank n
    ∙ ⊎_elim
    (λ e. let f : b ≡ from a b i = grind arith in
    ap (λ n. get_or w n blank) e ∙ get_or-set_same l a (get_or l b blank) blank p ∙ ap (λ n. get_or l n blank) f)
    (λ m. let f : i ≡ from a b i = grind arith in
    get_or-set_other l a i (get_or l b blank) blank m ∙ ap (λ n. get_or l n blank) f)
    (cases_eq i a))
    (cases_eq i b)

-- no two entries have one place
abbrev Apart : List Vertex → Type 0
Apart l = (i j : ℕ) → i < length l → j < length l → (get_or l i blank).place ≡ (get_or l j blank).place → i ≡ j

apart_kept : (l : List Vertex) (a b : ℕ) → a < length l → b < length l → Apart l → Apart (swap l a b)
apart_kept l a b p q h i j g k e =
    let long = length-swap l a b in
    from_once a b i j (h (from a b i) (from a b j) (from_below a b i (length l) p q (omega arith)) (from_below a b j (length l) p q (omega arith))
    (sym (ap (λ u. u.place) (read l a b i p q)) ∙ e ∙ ap (λ u. u.place) (read l a b j p q)))

module _ (s : Strip) (xs ys : List Vertex) (listed : Listed s xs) (shuffled : IsPermutation xs ys) (up : IsSorted by_point ys) where
  -- u is a vertex of the strip
  abbrev Own : Vertex → Type 0
  Own u = (u.place < s.vertices) × (u ≡ vertex_at s u.place)

  own : (i : ℕ) → i < length ys → Own (get_or ys i blank)
  own i h = All-get_or Own ys i blank h (All-permutation Own xs ys shuffled (All-from_get_or Own xs blank (λ k g.
      let l : k < s.vertices = omega (arith, listed.count) in
      subst Own (sym (listed.all k l)) (l, refl))))

  found : (k : ℕ) → k < s.vertices → (i : ℕ) × (i < length ys) × (get_or ys i blank ≡ vertex_at s k)
  found k h =
      let l : k < length xs = omega (arith, listed.count) in
      let has : Contains xs (vertex_at s k) = subst (Contains xs) (listed.all k h) (Contains-get_or xs k blank l) in
      let r = at_from_Contains ys (vertex_at s k) (Contains-permutation xs ys (vertex_at s k) shuffled has) in
      (r.0, r.1, r.2 blank)

  apart : Apart ys
  apart = IsPermutation-keeps xs Apart start apart_kept ys shuffled
    where
      start : Apart xs
      start i j g h e =
          sym (ap (λ u. u.place) (listed.all i (omega (arith, listed.count)))) ∙ e ∙ ap (λ u. u.place) (listed.all j (omega (arith, listed.count)))

  -- a vertex with the point of its left neighbour has the point of an earlier one
  repeat_old : (i : ℕ) → 0 < i → i < length ys → repeats ys i ≡ true → point_new s (get_or ys i blank).place ≡ false
  repeat_old i g h e =
      let u = get_or ys (i - 1) blank in
      let w = get_or ys i blank in
      let rise : u.place ≤ w.place = places_rise u w e (in_order ys up (i - 1) i blank (omega arith) h) in
      let other : u.place ≡ w.place → ⊥ = λ q. let z : i - 1 ≡ i = apart (i - 1) i (omega arith) h q in omega arith in
      let same : same_point (s.point u.place) (s.point w.place) ≡ true =
      sym (ap (λ v. together v w) (own (i - 1) (omega arith)).1 ∙ ap (together (vertex_at s u.place)) (own i h).1) ∙ e in
      ap not (any_here (λ m. same_point (s.point m) (s.point w.place)) u.place w.place (omega arith) same)

  -- two vertices with one point: the later one stands right of the other, beside one with that point
  module _ (m k i j : ℕ) (less : m < k) (same : same_point (s.point m) (s.point k) ≡ true) (in_i : i < length ys) (at_i : get_or ys i blank ≡ vertex_at s m) (in_j : j < length ys) (at_j : get_or ys j blank ≡ vertex_at s k) where
    one_point : together (get_or ys i blank) (get_or ys j blank) ≡ true
    one_point = ap (λ u. together u (get_or ys j blank)) at_i ∙ ap (together (vertex_at s m)) at_j ∙ same

    right : i < j
    right = ⊎_elim
        (λ e. let z : m ≡ k = sym (ap (λ u. u.place) at_i) ∙ ap (λ n. (get_or ys n blank).place) e ∙ ap (λ u. u.place) at_j in absurd (omega arith))
        (⊎_elim
        (λ l. l)
        (λ l. absurd (omega (arith, ap (λ u. u.place) at_i, ap (λ u. u.place) at_j, places_fall (get_or ys i blank) (get_or ys j blank) one_point (in_order ys up j i blank (omega arith) in_i)))))
        (cases_order i j)

    beside : repeats ys j ≡ true
    beside = between (get_or ys i blank) (get_or ys j blank) one_point (get_or ys (j - 1) blank) (in_order ys up i (j - 1) blank (omega (arith, right)) (omega arith)) (in_order ys up (j - 1) j blank (omega arith) in_j)

  -- a vertex with the point of an earlier one has that of its left neighbour
  old_repeat : (k : ℕ) → k < s.vertices → point_new s k ≡ false → (i : ℕ) × (0 < i) × (i < length ys) × (repeats ys i ≡ true) × ((get_or ys i blank).place ≡ k)
  old_repeat k h e =
      let r = any_where (λ m. same_point (s.point m) (s.point k)) k (not-false _ e) in
      let less : r.0 < k = r.1 in
      let a = found r.0 (omega arith) in
      let b = found k h in
      let l : a.0 < b.0 = right r.0 k a.0 b.0 less r.2 a.1 a.2 b.1 b.2 in
      (b.0, omega arith, b.1, beside r.0 k a.0 b.0 less r.2 a.1 a.2 b.1 b.2, ap (λ u. u.place) b.2)

  pub earliest : (r : Option ℕ) → Lowest ys (length ys) r → r ≡ each s.vertices (point_new s)
  earliest None h = sym (first_bad_none (point_new s) s.vertices (λ k l. ⊎_elim
      (λ t. t)
      (λ f. let c = old_repeat k l f in absurd (bool_apart _ c.3 (h c.0 c.1 c.2)))
      (cases_Bool (point_new s k))))
  earliest (Some k) h =
      let i = h.0.0 in
      let place : (get_or ys i blank).place ≡ k = h.0.4 in
      let below : k < s.vertices = omega (arith, (own i h.0.2).0) in
      let old : point_new s k ≡ false = subst (λ n. point_new s n ≡ false) place (repeat_old i h.0.1 h.0.2 h.0.3) in
      sym (first_bad_is (point_new s) s.vertices k below (λ n l. ⊎_elim
      (λ t. t)
      (λ f. let c = old_repeat n (omega arith) f in absurd (omega (arith, h.1 c.0 c.1 c.2 c.3, c.4)))
      (cases_Bool (point_new s n))) old)

-- ---- the search for the lowest
pub lowest_passed : (xs : List Vertex) (n : ℕ) (o : Option ℕ) → repeats xs n ≡ false → Lowest xs n o → Lowest xs (n + 1) o
lowest_passed xs n None e h = λ i p l. ⊎_elim (λ q. subst (λ m. repeats xs m ≡ false) (sym q) e) (λ q. h i p (omega arith)) (cases_eq i n)
lowest_passed xs n (Some k) e h =
    let l : h.0.0 < n = h.0.2 in
    ((h.0.0, h.0.1, omega arith, h.0.3, h.0.4), λ i p l t. ⊎_elim (λ q. absurd (bool_apart (repeats xs n) (subst (λ m. repeats xs m ≡ true) q t) e)) (λ q. h.1 i p (omega arith) t) (cases_eq i n))

lower_is : (k m : ℕ) → (lower (Some k) m ≡ k) ⊎ (lower (Some k) m ≡ m)
lower_is k m = cases_cond (ltb k m) k m _ refl

lower_least : (k m : ℕ) → (lower (Some k) m ≤ k) × (lower (Some k) m ≤ m)
lower_least k m = (grind (arith, nat_tests), grind (arith, nat_tests))

pub lowest_found : (xs : List Vertex) (n : ℕ) (o : Option ℕ) → 0 < n → repeats xs n ≡ true → Lowest xs n o → Lowest xs (n + 1) (Some (lower o (get_or xs n blank).place))
lowest_found xs n None p e h =
    ((n, p, omega arith, e, refl), λ i g l t. ⊎_elim (λ q. omega (arith, ap (λ m. (get_or xs m blank).place) q)) (λ q. absurd (bool_apart (repeats xs i) t (h i g (omega arith)))) (cases_eq i n))
lowest_found xs n (Some k) p e h =
    let m = (get_or xs n blank).place in
    let l : h.0.0 < n = h.0.2 in
    let least = lower_least k m in (
      ⊎_elim (λ q. (h.0.0, h.0.1, omega arith, h.0.3, h.0.4 ∙ sym q)) (λ q. (n, p, omega arith, e, sym q)) (lower_is k m),
      λ i g l t. ⊎_elim (λ q. omega (arith, ap (λ j. (get_or xs j blank).place) q, least.1)) (λ q. omega (arith, least.0, h.1 i g (omega arith) t)) (cases_eq i n),
    )

-- ---- the pairs of neighbours, one after the other
-- what a list has from place n on begins with its entry n
next_of : (xs : List Vertex) (n : ℕ) (u : Vertex) (us : List Vertex) → u ∷ us ≡ drop n xs → (n < length xs) × (u ≡ get_or xs n blank) × (us ≡ drop (suc n) xs)
next_of xs n u us e =
    let l : n < length xs = omega (arith, ap length e, length-drop n xs) in
    let p = e ∙ drop-cons xs n blank l in
    (l, ap (λ zs. get_or zs 0 blank) p, ap (drop 1) p)

pub on_pair : (xs : List Vertex) (n : ℕ) (u w : Vertex) (us ws : List Vertex) → u ∷ us ≡ drop n xs → w ∷ ws ≡ drop (suc n) xs
    → (suc n < length xs) × (us ≡ drop (suc n) xs) × (ws ≡ drop (suc (suc n)) xs) × (together u w ≡ repeats xs (suc n)) × (w ≡ get_or xs (suc n) blank)
on_pair xs n u w us ws a b =
    let p = next_of xs n u us a in
    let q = next_of xs (suc n) w ws b in
    let back : n ≡ suc n - 1 = omega arith in
    (q.0, p.2, q.2, ap (λ v. together v w) (p.1 ∙ ap (λ m. get_or xs m blank) back) ∙ ap (together (get_or xs (suc n - 1) blank)) q.1, q.1)

pub some_left : (xs : List Vertex) (n : ℕ) (us : List Vertex) → n < length xs → us ≡ drop n xs → length us ≡ 0 → ⊥
some_left xs n us l e z = omega (arith, ap length e, length-drop n xs)

pub none_left : (xs : List Vertex) (n : ℕ) (ws : List Vertex) → n < length xs → ws ≡ drop (suc n) xs → length ws ≡ 0 → suc n ≡ length xs
none_left xs n ws l e z = omega (arith, ap length e, length-drop (suc n) xs)
