-- Vertices in the order of their points and places. Assumes nothing.
use Rattle.std.proofs.Common.{◌≡◌, ℕ, ◌<◌, ◌≤◌, true, false, List, length, get_or, ℤ, ◌≤ℤ◌, ◌<ℤ◌, Ordering, Less, Equal, Greater, sym, refl, ap, ◌∙◌, arith}
use Rattle.std.specs.Cmp.{IsTotalOrder, IsStrictWeakOrder, nat_cmp_total, int_cmp_total, ranks, int_ranks, then_total, on_total}
use Rattle.std.specs.Ordering.{is_lt, ordering_then, MatchOrdering, nat_cmp, int_cmp}
use Rattle.std.specs.List.Sorted.{IsSorted}
use Rattle.std.proofs.lemmas.Int.{ints}
use Rattle.std.proofs.lemmas.List.Sorted.{ranks_by, sorted_far}
use Rattle.std.proofs.lemmas.Bool.{and_parts, and_from}
use Rattle.flat.specs.Whole.{equal}
use Rattle.strip_questions.specs.declared.points.Vertex.{Vertex}
use Rattle.strip_questions.specs.Repeats.{together}
use Rattle.strip_questions.proofs.Marks.{equal_true, equal_same}

-- ---- the order
-- the order of the vertices: by x, by y, and by place
abbrev pub by_point : Vertex → Vertex → Ordering
by_point u w = ordering_then (ordering_then (int_cmp u.point.x w.point.x) (int_cmp u.point.y w.point.y)) (nat_cmp u.place w.place)

by_point_total : IsTotalOrder by_point
by_point_total = then_total (then_total (on_total (λ u. u.point.x) int_cmp_total) (on_total (λ u. u.point.y) int_cmp_total)) (on_total (λ u. u.place) nat_cmp_total)

-- u does not come after w
pub record NotAfter (u w : Vertex) : Type 0 where
  pub in_x : u.point.x ≤ℤ w.point.x
  pub in_y : u.point.x ≡ w.point.x → u.point.y ≤ℤ w.point.y
  pub in_place : u.point.x ≡ w.point.x → u.point.y ≡ w.point.y → u.place ≤ w.place

-- what it tells that the second of two does not come before the first: by coordinates, and then by the rest
first_decides : (a b : ℤ) (o rest : Ordering) → MatchOrdering o (b <ℤ a) (b ≡ a) (a <ℤ b) → is_lt (ordering_then o rest) ≡ false → (a ≤ℤ b) × (a ≡ b → is_lt rest ≡ false)
first_decides a b Less rest r h = let y : ◌≡◌ {A = ℕ} 0 1 = cc in absurd (omega arith)
first_decides a b Equal rest r h = (omega (arith, ints), λ e. h)
first_decides a b Greater rest r h = (omega (arith, ints), λ e. absurd (omega (arith, ints)))

-- the same by places
last_decides : (m n : ℕ) (o : Ordering) → MatchOrdering o (n < m) (n ≡ m) (m < n) → is_lt o ≡ false → m ≤ n
last_decides m n Less r h = let y : ◌≡◌ {A = ℕ} 0 1 = cc in absurd (omega arith)
last_decides m n Equal r h = omega arith
last_decides m n Greater r h = omega arith

then_next : (a b c : Ordering) → ordering_then (ordering_then a b) c ≡ ordering_then a (ordering_then b c)
then_next Less b c = refl
then_next Equal b c = refl
then_next Greater b c = refl

not_after : (u w : Vertex) → is_lt (by_point w u) ≡ false → NotAfter u w
not_after u w h =
    let far = sym (ap is_lt (then_next (int_cmp w.point.x u.point.x) (int_cmp w.point.y u.point.y) (nat_cmp w.place u.place))) ∙ h in
    let x = first_decides u.point.x w.point.x _ _ (int_ranks w.point.x u.point.x) far in
    let y = λ (e : u.point.x ≡ w.point.x). first_decides u.point.y w.point.y _ _ (int_ranks w.point.y u.point.y) (x.1 e) in
    record { in_x = x.0; in_y = λ e. (y e).0; in_place = λ e f. last_decides u.place w.place _ (ranks w.place u.place) ((y e).1 f) }

weak_order : IsStrictWeakOrder (λ u w. is_lt (by_point u w))
weak_order = ranks_by by_point_total (λ (u : Vertex). u)

-- in a sorted list no vertex comes after a later one
pub in_order : (ys : List Vertex) → IsSorted by_point ys → (i j : ℕ) (d : Vertex) → i ≤ j → j < length ys → NotAfter (get_or ys i d) (get_or ys j d)
in_order ys up i j d le lt = not_after (get_or ys i d) (get_or ys j d) (sorted_far (λ u w. is_lt (by_point u w)) weak_order ys up i j d le lt)

-- ---- vertices with one point
module _ (u w : Vertex) (e : together u w ≡ true) where
  same_x : u.point.x ≡ w.point.x
  same_x = equal_true u.point.x w.point.x (and_parts (equal u.point.x w.point.x) (equal u.point.y w.point.y) e).0

  same_y : u.point.y ≡ w.point.y
  same_y = equal_true u.point.y w.point.y (and_parts (equal u.point.x w.point.x) (equal u.point.y w.point.y) e).1

  pub places_rise : NotAfter u w → u.place ≤ w.place
  places_rise n = n.in_place same_x same_y

  pub places_fall : NotAfter w u → w.place ≤ u.place
  places_fall n = n.in_place (sym same_x) (sym same_y)

  -- what stands between them has that point too
  pub between : (v : Vertex) → NotAfter u v → NotAfter v w → together v w ≡ true
  between v m n =
      let x : v.point.x ≡ w.point.x = omega (arith, ints, same_x, m.in_x, n.in_x) in
      let y : v.point.y ≡ w.point.y = omega (arith, ints, same_y, m.in_y (same_x ∙ sym x), n.in_y x) in
      and_from _ _ (equal_same v.point.x w.point.x x) (equal_same v.point.y w.point.y y)
