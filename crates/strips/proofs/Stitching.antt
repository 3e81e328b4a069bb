-- One border more or less: the strips, the slots, and the borders' order. Assumes nothing.
use Rattle.std.proofs.Common.{◌≡◌, ℕ, zero, suc, ◌+◌, ◌*◌, ◌≤◌, Bool, true, false, cond, not, ◌&&◌, ◌||◌, List, [], ◌∷◌, ℤ, pos, negsuc, neg_ℤ, ◌≤ℤ◌, Some, None, Option, sym, refl, ap, ◌∙◌, subst, ap₂, arith}
use lib.Signed.{lt_z}
use Rattle.std.proofs.lemmas.Int.{ints}
use Rattle.std.proofs.lemmas.Bool.{cond-true, cond-false, and_from, or_parts, both_ways}
use Rattle.flat.specs.Orbits.{filter, contains, indicator}
use Rattle.flat.specs.Whole.{equal}
use Rattle.turning.specs.Limits.{max_coordinate}
use Rattle.chart.specs.declared.point.Point.{Point}
use Rattle.chart.specs.Points.{within, west, told_west}
use Rattle.chart.specs.Linework.{Linework, Placed}
use Rattle.laws.proofs.Equal.{tell}
use Rattle.strips.specs.Borders.{rise_after, rising, strip_of, apart, x_of, slots_of, slots_taken}
use Rattle.strips.specs.Seams.{with_border, without_border, is_border, crosses, crossings}
use Rattle.strips.proofs.Cutting.{strip_none, strip_west, strip_east, strip_monotone, rise_parts, rise_first}

-- ---- the list, case by case
pub with_here : (x b : ℤ) (bs : List ℤ) → lt_z x b ≡ true → with_border x (b ∷ bs) ≡ x ∷ (b ∷ bs)
unfolding with_border
with_here x b bs e = cond-true _ _ _ e

pub with_later : (x b : ℤ) (bs : List ℤ) → lt_z x b ≡ false → with_border x (b ∷ bs) ≡ b ∷ with_border x bs
unfolding with_border
with_later x b bs e = cond-false _ _ _ e

pub with_none : (x : ℤ) → with_border x [] ≡ x ∷ []
unfolding with_border
with_none x = refl

without_here : (x b : ℤ) (bs : List ℤ) → equal x b ≡ true → without_border x (b ∷ bs) ≡ without_border x bs
unfolding without_border
without_here x b bs e = ap (λ t. cond (not t) (b ∷ filter (λ c. not (equal x c)) bs) (filter (λ c. not (equal x c)) bs)) e

without_later : (x b : ℤ) (bs : List ℤ) → equal x b ≡ false → without_border x (b ∷ bs) ≡ b ∷ without_border x bs
unfolding without_border
without_later x b bs e = ap (λ t. cond (not t) (b ∷ filter (λ c. not (equal x c)) bs) (filter (λ c. not (equal x c)) bs)) e

pub without_none : (x : ℤ) → without_border x [] ≡ []
unfolding without_border
without_none x = refl

border_parts : (x b : ℤ) (bs : List ℤ) → is_border x (b ∷ bs) ≡ false → (equal x b ≡ false) × (is_border x bs ≡ false)
unfolding is_border
border_parts x b bs e = or_parts (equal x b) (contains equal x bs) e

border_later : (x b : ℤ) (bs : List ℤ) → is_border x (b ∷ bs) ≡ true → equal x b ≡ false → is_border x bs ≡ true
unfolding is_border
border_later x b bs e f = sym (ap (λ t. t || contains equal x bs) f) ∙ e

pub border_none : (x : ℤ) → is_border x [] ≡ false
unfolding is_border
border_none x = refl

-- ---- the strips
module _ (x y : ℤ) where
  west_all : (b : ℤ) (bs : List ℤ) → lt_z x b ≡ true → lt_z y x ≡ true → strip_of (b ∷ bs) y ≡ 1
  west_all b bs e f = strip_west b bs y (grind (arith, ints))

  pub strip_with : (bs : List ℤ) → strip_of (with_border x bs) y ≡ strip_of bs y + indicator (not (lt_z y x))
  strip_with [] = ap (λ cs. strip_of cs y) (with_none x) ∙ go (lt_z y x) refl
    where
      go : (t : Bool) → lt_z y x ≡ t → strip_of (x ∷ []) y ≡ strip_of [] y + indicator (not (lt_z y x))
      go true f = let a = strip_west x [] y f in let b = strip_none y in let c = ap (λ u. indicator (not u)) f in omega arith
      go false f = let a = strip_east x [] y f in let b = strip_none y in let c = ap (λ u. indicator (not u)) f in omega arith
  strip_with (b ∷ bs) = go (lt_z x b) refl (lt_z y x) refl (lt_z y b) refl (strip_with bs)
    where
      go : (s : Bool) → lt_z x b ≡ s → (t : Bool) → lt_z y x ≡ t → (u : Bool) → lt_z y b ≡ u → strip_of (with_border x bs) y ≡ strip_of bs y + indicator (not (lt_z y x))
          → strip_of (with_border x (b ∷ bs)) y ≡ strip_of (b ∷ bs) y + indicator (not (lt_z y x))
      go true e true f u g rec =
          let w = ap (λ cs. strip_of cs y) (with_here x b bs e) in
          let p = strip_west x (b ∷ bs) y f in
          let q = west_all b bs e f in
          let c = ap (λ v. indicator (not v)) f in
          omega arith
      go true e false f u g rec =
          let w = ap (λ cs. strip_of cs y) (with_here x b bs e) in
          let p = strip_east x (b ∷ bs) y f in
          let c = ap (λ v. indicator (not v)) f in
          omega arith
      go false e t f true g rec =
          let w = ap (λ cs. strip_of cs y) (with_later x b bs e) in
          let p = strip_west b (with_border x bs) y g in
          let q = strip_west b bs y g in
          let z : lt_z y x ≡ true = grind (arith, ints) in
          let c = ap (λ v. indicator (not v)) z in
          omega arith
      go false e t f false g rec =
          let w = ap (λ cs. strip_of cs y) (with_later x b bs e) in
          let p = strip_east b (with_border x bs) y g in
          let q = strip_east b bs y g in
          omega arith

-- ---- the slots
west_x : (p q : Point) → west p q ≡ true → p.x ≤ℤ q.x
west_x p q w = grind (arith, ints, tell p.x q.x)

-- the eastern end is not west of the western one
told_x : (o u : Option Point) → told_west o u ≡ true → x_of o ≤ℤ x_of u
told_x None u w = absurd (both_ways _ refl w)
told_x (Some p) None w = absurd (both_ways _ refl w)
told_x (Some p) (Some q) w = west_x p q w

-- one border more between two strips, where it lies between
apart_more : (a b : ℕ) (s t : Bool) → a ≤ b → (t ≡ true → s ≡ true) → 2 * suc (apart (a + indicator (not s)) (b + indicator (not t))) ≡ 2 * suc (apart a b) + 2 * indicator (s && not t)
apart_more a b true true l u = omega arith
apart_more a b true false l u = omega arith
apart_more a b false true l u = absurd (both_ways _ refl (u refl))
apart_more a b false false l u = omega arith

module _ (n : ℕ) (l : Linework) (placed : Placed n l.turn l.points) (x : ℤ) (bs : List ℤ) where
  slots_with : (e : ℕ) → slots_of (with_border x bs) l e ≡ slots_of bs l e + 2 * indicator (crosses x l e)
  slots_with e = go (l.turn.held (pos e)) refl
    where
      p : ℤ
      p = x_of (l.points (pos e))

      q : ℤ
      q = x_of (l.points (neg_ℤ (pos e)))

      held : p ≤ℤ q → 2 * suc (apart (strip_of (with_border x bs) p) (strip_of (with_border x bs) q)) ≡ 2 * suc (apart (strip_of bs p) (strip_of bs q)) + 2 * indicator (lt_z p x && not (lt_z q x))
      held le =
          ap₂ (λ a b. 2 * suc (apart a b)) (strip_with x p bs) (strip_with x q bs)
          ∙ apart_more (strip_of bs p) (strip_of bs q) (lt_z p x) (lt_z q x) (strip_monotone bs p q le) (λ h. below p q x le h)
        where
          below : (p q x : ℤ) → p ≤ℤ q → lt_z q x ≡ true → lt_z p x ≡ true
          below p q x le h = grind (arith, ints)

      go : (t : Bool) → l.turn.held (pos e) ≡ t
          → cond (l.turn.held (pos e)) (2 * suc (apart (strip_of (with_border x bs) p) (strip_of (with_border x bs) q))) 0
          ≡ cond (l.turn.held (pos e)) (2 * suc (apart (strip_of bs p) (strip_of bs q))) 0 + 2 * indicator (l.turn.held (pos e) && lt_z p x && not (lt_z q x))
      go true h =
          cond-true (l.turn.held (pos e)) _ _ h ∙ held (told_x (l.points (pos e)) (l.points (neg_ℤ (pos e))) (placed.westward e h))
          ∙ ap₂ (λ a b. a + 2 * indicator b) (sym (cond-true (l.turn.held (pos e)) _ _ h)) (sym (ap (λ t. t && lt_z p x && not (lt_z q x)) h))
      go false h =
          cond-false (l.turn.held (pos e)) _ _ h
          ∙ sym (ap₂ (λ a b. a + 2 * indicator b) (cond-false (l.turn.held (pos e)) _ _ h) (ap (λ t. t && lt_z p x && not (lt_z q x)) h))

  pub taken_with : (k : ℕ) → slots_taken (with_border x bs) l k ≡ slots_taken bs l k + 2 * crossings x l k
  unfolding slots_taken crossings
  taken_with zero = refl
  taken_with (suc k) = sum (slots_of (with_border x bs) l (suc k)) (slots_of bs l (suc k)) (indicator (crosses x l (suc k))) (slots_taken (with_border x bs) l k) (slots_taken bs l k) (crossings x l k) (slots_with (suc k)) (taken_with k)
    where
      sum : (a b c d e f : ℕ) → a ≡ b + 2 * c → d ≡ e + 2 * f → a + d ≡ (b + e) + 2 * (c + f)
      sum a b c d e f p q = omega arith

-- ---- the order
rise_from : (last b : ℤ) (bs : List ℤ) → within b ≡ true → lt_z last b ≡ true → rise_after b bs ≡ true → rise_after last (b ∷ bs) ≡ true
rise_from last b bs u v w = and_from (within b && lt_z last b) (rise_after b bs) (and_from (within b) (lt_z last b) u v) w

rise_with_after : (x : ℤ) → within x ≡ true → (last : ℤ) (bs : List ℤ) → rise_after last bs ≡ true → lt_z last x ≡ true → is_border x bs ≡ false → rise_after last (with_border x bs) ≡ true
rise_with_after x inside last [] r up new = ap (rise_after last) (with_none x) ∙ rise_from last x [] inside up refl
rise_with_after x inside last (b ∷ bs) r up new = go (lt_z x b) refl (rise_with_after x inside b bs)
  where
    p : (within b ≡ true) × (lt_z last b ≡ true) × (rise_after b bs ≡ true)
    p = rise_parts last b bs r

    q : (equal x b ≡ false) × (is_border x bs ≡ false)
    q = border_parts x b bs new

    go : (t : Bool) → lt_z x b ≡ t → (rise_after b bs ≡ true → lt_z b x ≡ true → is_border x bs ≡ false → rise_after b (with_border x bs) ≡ true) → rise_after last (with_border x (b ∷ bs)) ≡ true
    go true e rec = ap (rise_after last) (with_here x b bs e) ∙ rise_from last x (b ∷ bs) inside up (rise_from x b bs p.0 e p.2)
    go false e rec =
        let apart = q.0 in
        let above : lt_z b x ≡ true = grind (arith, ints, tell x b) in
        ap (rise_after last) (with_later x b bs e) ∙ rise_from last b (with_border x bs) p.0 p.1 (rec p.2 above q.1)

pub rise_with : (x : ℤ) (bs : List ℤ) → rising bs ≡ true → within x ≡ true → is_border x bs ≡ false → rising (with_border x bs) ≡ true
rise_with x bs r inside new =
    sym (rise_first (with_border x bs))
    ∙ rise_with_after x inside (negsuc max_coordinate) bs (rise_first bs ∙ r) (in_range x inside) new
  where
    in_range : (x : ℤ) → within x ≡ true → lt_z (negsuc max_coordinate) x ≡ true
    in_range x e = grind (arith, ints)

-- what rises after one that is above rises after it too
rise_lower : (a b : ℤ) (bs : List ℤ) → lt_z a b ≡ true → rise_after b bs ≡ true → rise_after a bs ≡ true
rise_lower a b [] up r = refl
rise_lower a b (c ∷ bs) up r =
    let p = rise_parts b c bs r in
    let above : lt_z b c ≡ true = p.1 in
    let over : lt_z a c ≡ true = grind (arith, ints) in
    rise_from a c bs p.0 over p.2

rise_without_after : (x last : ℤ) (bs : List ℤ) → rise_after last bs ≡ true → rise_after last (without_border x bs) ≡ true
rise_without_after x last [] r = ap (rise_after last) (without_none x)
rise_without_after x last (b ∷ bs) r = go (equal x b) refl (rise_without_after x b bs p.2)
  where
    p : (within b ≡ true) × (lt_z last b ≡ true) × (rise_after b bs ≡ true)
    p = rise_parts last b bs r

    go : (t : Bool) → equal x b ≡ t → rise_after b (without_border x bs) ≡ true → rise_after last (without_border x (b ∷ bs)) ≡ true
    go true e rec = ap (rise_after last) (without_here x b bs e) ∙ rise_lower last b (without_border x bs) p.1 rec
    go false e rec = ap (rise_after last) (without_later x b bs e) ∙ rise_from last b (without_border x bs) p.0 p.1 rec

pub rise_without : (x : ℤ) (bs : List ℤ) → rising bs ≡ true → rising (without_border x bs) ≡ true
rise_without x bs r = sym (rise_first (without_border x bs)) ∙ rise_without_after x (negsuc max_coordinate) bs (rise_first bs ∙ r)

-- ---- a border put in and taken out again
none_there : (x : ℤ) (bs : List ℤ) → is_border x bs ≡ false → without_border x bs ≡ bs
none_there x [] new = without_none x
none_there x (b ∷ bs) new = let p = border_parts x b bs new in without_later x b bs p.0 ∙ ap (λ cs. b ∷ cs) (none_there x bs p.1)

equal_self : (x : ℤ) → equal x x ≡ true
equal_self x = grind (arith, tell x x)

pub without_with : (x : ℤ) (bs : List ℤ) → is_border x bs ≡ false → without_border x (with_border x bs) ≡ bs
without_with x [] new = ap (without_border x) (with_none x) ∙ without_here x x [] (equal_self x) ∙ without_none x
without_with x (b ∷ bs) new = go (lt_z x b) refl (without_with x bs)
  where
    p : (equal x b ≡ false) × (is_border x bs ≡ false)
    p = border_parts x b bs new

    go : (t : Bool) → lt_z x b ≡ t → (is_border x bs ≡ false → without_border x (with_border x bs) ≡ bs) → without_border x (with_border x (b ∷ bs)) ≡ b ∷ bs
    go true e rec = ap (without_border x) (with_here x b bs e) ∙ without_here x x (b ∷ bs) (equal_self x) ∙ none_there x (b ∷ bs) new
    go false e rec = ap (without_border x) (with_later x b bs e) ∙ without_later x b (with_border x bs) p.0 ∙ ap (λ cs. b ∷ cs) (rec p.1)

border_in : (x : ℤ) (bs : List ℤ) → is_border x (x ∷ bs) ≡ true
unfolding is_border
border_in x bs = ap (λ t. t || contains equal x bs) (equal_self x)

border_more : (x b : ℤ) (bs : List ℤ) → is_border x bs ≡ true → is_border x (b ∷ bs) ≡ true
unfolding is_border
border_more x b bs e = go (equal x b)
  where
    go : (t : Bool) → (t || contains equal x bs) ≡ true
    go true = refl
    go false = e

-- a border that was put in is there
pub border_with : (x : ℤ) (bs : List ℤ) → is_border x (with_border x bs) ≡ true
border_with x [] = ap (is_border x) (with_none x) ∙ border_in x []
border_with x (b ∷ bs) = go (lt_z x b) refl (border_with x bs)
  where
    go : (t : Bool) → lt_z x b ≡ t → is_border x (with_border x bs) ≡ true → is_border x (with_border x (b ∷ bs)) ≡ true
    go true e rec = ap (is_border x) (with_here x b bs e) ∙ border_in x (b ∷ bs)
    go false e rec = ap (is_border x) (with_later x b bs e) ∙ border_more x b (with_border x bs) rec

border_new : (x b : ℤ) (bs : List ℤ) → equal x b ≡ false → is_border x bs ≡ false → is_border x (b ∷ bs) ≡ false
unfolding is_border
border_new x b bs e f = ap (λ t. t || contains equal x bs) e ∙ f

-- what lies after x is not x
after_new : (x last : ℤ) (bs : List ℤ) → rise_after last bs ≡ true → lt_z x last ≡ true → is_border x bs ≡ false
after_new x last [] r up = border_none x
after_new x last (b ∷ bs) r up =
    let p = rise_parts last b bs r in
    let above : lt_z last b ≡ true = p.1 in
    let over : lt_z x b ≡ true = grind (arith, ints) in
    let other : equal x b ≡ false = grind (arith, ints, tell x b) in
    border_new x b bs other (after_new x b bs p.2 over)

first_new : (x : ℤ) (bs : List ℤ) → rise_after x bs ≡ true → is_border x bs ≡ false
first_new x [] r = border_none x
first_new x (b ∷ bs) r =
    let p = rise_parts x b bs r in
    let above : lt_z x b ≡ true = p.1 in
    let other : equal x b ≡ false = grind (arith, ints, tell x b) in
    border_new x b bs other (after_new x b bs p.2 above)

with_first : (x : ℤ) (bs : List ℤ) → rise_after x bs ≡ true → with_border x bs ≡ x ∷ bs
with_first x [] r = with_none x
with_first x (b ∷ bs) r = with_here x b bs (rise_parts x b bs r).1

with_without_after : (x last : ℤ) (bs : List ℤ) → rise_after last bs ≡ true → is_border x bs ≡ true → with_border x (without_border x bs) ≡ bs
with_without_after x last [] r here = absurd (both_ways _ (border_none x) here)
with_without_after x last (b ∷ bs) r here = go (equal x b) refl (lt_z x b) refl (with_without_after x b bs p.2)
  where
    p : (within b ≡ true) × (lt_z last b ≡ true) × (rise_after b bs ≡ true)
    p = rise_parts last b bs r

    same : (x b : ℤ) → equal x b ≡ true → b ≡ x
    same x b e = grind (arith, tell x b)

    go : (t : Bool) → equal x b ≡ t → (s : Bool) → lt_z x b ≡ s → (is_border x bs ≡ true → with_border x (without_border x bs) ≡ bs) → with_border x (without_border x (b ∷ bs)) ≡ b ∷ bs
    go true e s f rec =
        let is = same x b e in
        let r' : rise_after x bs ≡ true = subst (λ c. rise_after c bs ≡ true) is p.2 in
        ap (with_border x) (without_here x b bs e ∙ none_there x bs (first_new x bs r')) ∙ with_first x bs r' ∙ ap (λ c. c ∷ bs) (sym is)
    go false e true f rec = absurd (both_ways _ (after_new x b bs p.2 f) (border_later x b bs here e))
    go false e false f rec = ap (with_border x) (without_later x b bs e) ∙ with_later x b (without_border x bs) f ∙ ap (λ cs. b ∷ cs) (rec (border_later x b bs here e))

pub with_without : (x : ℤ) (bs : List ℤ) → rising bs ≡ true → is_border x bs ≡ true → with_border x (without_border x bs) ≡ bs
with_without x bs r here = with_without_after x (negsuc max_coordinate) bs (rise_first bs ∙ r) here

-- one border less takes no more slots
pub taken_without : (n : ℕ) (l : Linework) → Placed n l.turn l.points → (x : ℤ) (bs : List ℤ) → rising bs ≡ true → is_border x bs ≡ true → (k : ℕ) → slots_taken (without_border x bs) l k ≤ slots_taken bs l k
taken_without n l placed x bs r here k =
    let a = taken_with n l placed x (without_border x bs) k in
    let b = ap (λ cs. slots_taken cs l k) (with_without x bs r here) in
    less (slots_taken (with_border x (without_border x bs)) l k) (slots_taken bs l k) (slots_taken (without_border x bs) l k) (crossings x l k) a b
  where
    less : (w s t c : ℕ) → w ≡ t + 2 * c → w ≡ s → t ≤ s
    less w s t c p q = omega arith
