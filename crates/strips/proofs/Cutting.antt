-- The strip of an x by the borders passed, and borders that rise. Assumes nothing.
use Rattle.std.proofs.Common.{◌≡◌, ℕ, zero, suc, ◌-◌, ◌<◌, ◌≤◌, Bool, true, false, cond, ◌&&◌, ◌⊎◌, ◌↔◌, List, [], ◌∷◌, length, get_or, ℤ, pos, negsuc, ◌≤ℤ◌, ◌<ℤ◌, sym, refl, ap, ◌∙◌, subst, ap₂, inl, inr, add-one, arith}
use lib.Signed.{lt_z}
use Rattle.std.specs.List.{list_all, IsAllAdjacentAnswer}
use Rattle.std.proofs.lemmas.Int.{ints}
use Rattle.std.proofs.lemmas.Bool.{cond-true, cond-false, both_ways, and_parts, and_from, and_left, and_right, cases_eq}
use Rattle.turning.specs.Limits.{max_coordinate}
use Rattle.chart.specs.Points.{within}
use Rattle.strips.specs.Borders.{rise_after, rising, strip_count, strip_of}
use Rattle.strips.specs.Cuts.{StripIs, StripsRise}

-- ---- the strip of an x
pub strip_none : (x : ℤ) → strip_of [] x ≡ 1
unfolding strip_of
strip_none x = refl

pub strip_west : (b : ℤ) (bs : List ℤ) (x : ℤ) → lt_z x b ≡ true → strip_of (b ∷ bs) x ≡ 1
unfolding strip_of
strip_west b bs x e = cond-true _ _ _ e

pub strip_east : (b : ℤ) (bs : List ℤ) (x : ℤ) → lt_z x b ≡ false → strip_of (b ∷ bs) x ≡ suc (strip_of bs x)
unfolding strip_of
strip_east b bs x e = cond-false _ _ _ e

pub strip_low : (bs : List ℤ) (x : ℤ) → 1 ≤ strip_of bs x
unfolding strip_of
strip_low [] x = omega arith
strip_low (b ∷ bs) x = go (lt_z x b)
  where
    go : (t : Bool) → 1 ≤ cond t 1 (suc (strip_of bs x))
    go true = omega arith
    go false = omega arith

pub strip_high : (bs : List ℤ) (x : ℤ) → strip_of bs x ≤ strip_count bs
unfolding strip_of
strip_high [] x = omega arith
strip_high (b ∷ bs) x = go (lt_z x b) (strip_high bs x)
  where
    go : (t : Bool) → strip_of bs x ≤ strip_count bs → cond t 1 (suc (strip_of bs x)) ≤ strip_count (b ∷ bs)
    go true rec = omega arith
    go false rec = omega arith

-- a greater x lies no further west
pub strip_monotone : (bs : List ℤ) (x y : ℤ) → x ≤ℤ y → strip_of bs x ≤ strip_of bs y
strip_monotone [] x y l = let a = strip_none x in let b = strip_none y in omega arith
strip_monotone (b ∷ bs) x y l = go (lt_z x b) refl (lt_z y b) refl (strip_monotone bs x y l)
  where
    go : (s : Bool) → lt_z x b ≡ s → (t : Bool) → lt_z y b ≡ t → strip_of bs x ≤ strip_of bs y → strip_of (b ∷ bs) x ≤ strip_of (b ∷ bs) y
    go true e t f rec = let p = strip_west b bs x e in let q = strip_low (b ∷ bs) y in omega arith
    go false e true f rec = absurd (grind (arith, ints))
    go false e false f rec = let p = strip_east b bs x e in let q = strip_east b bs y f in omega arith

pub strips_rise : StripsRise
strips_rise bs x y = (strip_low bs x, strip_high bs x, strip_monotone bs x y)

-- ---- borders that rise
pub rise_parts : (last b : ℤ) (bs : List ℤ) → rise_after last (b ∷ bs) ≡ true → (within b ≡ true) × (lt_z last b ≡ true) × (rise_after b bs ≡ true)
rise_parts last b bs r =
    let p = and_parts (within b && lt_z last b) (rise_after b bs) r in
    let q = and_parts (within b) (lt_z last b) p.0 in
    (q.0, q.1, p.1)

-- the first border is at most each of them
first_least : (b : ℤ) (bs : List ℤ) → rise_after b bs ≡ true → (k : ℕ) → k < length (b ∷ bs) → b ≤ℤ get_or (b ∷ bs) k (pos 0)
first_least b bs r zero l = grind (arith, ints)
first_least b [] r (suc k) l = absurd (omega arith)
first_least b (c ∷ bs) r (suc k) l =
    let p = rise_parts b c bs r in
    let above : lt_z b c ≡ true = p.1 in
    let rec = first_least c bs p.2 k (omega arith) in
    grind (arith, ints)

rise_rest : (last : ℤ) (bs : List ℤ) → rise_after last bs ≡ true → rising bs ≡ true
rise_rest last [] r = refl
rise_rest last (b ∷ bs) r = let p = rise_parts last b bs r in and_from (within b) (rise_after b bs) p.0 p.2

-- one below the range stands before the first border
pub rise_first : (bs : List ℤ) → rise_after (negsuc max_coordinate) bs ≡ rising bs
rise_first [] = refl
rise_first (b ∷ bs) = go (within b) refl
  where
    go : (t : Bool) → within b ≡ t → rise_after (negsuc max_coordinate) (b ∷ bs) ≡ rising (b ∷ bs)
    go true e = let above : lt_z (negsuc max_coordinate) b ≡ true = grind (arith, ints) in ap (λ t. (within b && t) && rise_after b bs) above ∙ ap (λ t. (t && true) && rise_after b bs) e ∙ sym (ap (λ t. t && rise_after b bs) e)
    go false e = ap (λ t. (t && lt_z (negsuc max_coordinate) b) && rise_after b bs) e ∙ sym (ap (λ t. t && rise_after b bs) e)

-- where each border is below the next, the borders after b rise if all are in range
rise_up : (b : ℤ) (bs : List ℤ) → ((k : ℕ) (d : ℤ) → suc k < length (b ∷ bs) → true ≡ lt_z (get_or (b ∷ bs) k d) (get_or (b ∷ bs) (suc k) d)) → rise_after b bs ≡ list_all within bs
rise_up b [] up = refl
rise_up b (x ∷ bs) up =
    ap₂ (λ s t. (within x && s) && t) (sym (up 0 b (omega arith))) (rise_up x bs (λ k d l. up (suc k) d (omega arith)))
    ∙ ap (λ t. t && list_all within bs) (same (within x))
  where
    same : (t : Bool) → (t && true) ≡ t
    same true = refl
    same false = refl

-- where some border is not, they do not
rise_down : (b : ℤ) (bs : List ℤ) (k : ℕ) → suc k < length (b ∷ bs) → ((d : ℤ) → false ≡ lt_z (get_or (b ∷ bs) k d) (get_or (b ∷ bs) (suc k) d)) → rise_after b bs ≡ false
rise_down b [] k l e = absurd (omega arith)
rise_down b (x ∷ bs) zero l e = and_left (within x && lt_z b x) _ (and_right (within x) _ (sym (e b)))
rise_down b (x ∷ bs) (suc k) l e = and_right (within x && lt_z b x) _ (rise_down x bs k (omega arith) e)

-- nor where one is out of range
rise_out : (b : ℤ) (bs : List ℤ) → list_all within bs ≡ false → rise_after b bs ≡ false
rise_out b [] e = absurd (both_ways _ e refl)
rise_out b (x ∷ bs) e = go (within x) refl e (rise_out x bs)
  where
    go : (t : Bool) → within x ≡ t → (t && list_all within bs) ≡ false → (list_all within bs ≡ false → rise_after x bs ≡ false) → ((within x && lt_z b x) && rise_after x bs) ≡ false
    go true is e later = and_right (within x && lt_z b x) _ (later e)
    go false is e later = and_left _ _ (and_left (within x) _ is)

pub rising_out : (bs : List ℤ) → list_all within bs ≡ false → rising bs ≡ false
rising_out bs e = sym (rise_first bs) ∙ rise_out (negsuc max_coordinate) bs e

-- borders in range rise where each is answered to be below the next
pub rising_by : (bs : List ℤ) (r : Bool) → IsAllAdjacentAnswer (λ x y b. b ≡ lt_z x y) bs r → list_all within bs ≡ true → r ≡ rising bs
rising_by [] true up all = refl
rising_by [] false (k, l, e) all = absurd (omega arith)
rising_by (b ∷ bs) true up all = sym (ap (λ t. within b && t) (rise_up b bs (λ k d l. subst (λ j. true ≡ lt_z (get_or (b ∷ bs) k d) (get_or (b ∷ bs) j d)) (add-one k) (up k d (omega arith)))) ∙ all)
rising_by (b ∷ bs) false (k, l, e) all = sym (and_right (within b) _ (rise_down b bs k (omega arith) (λ d. subst (λ j. false ≡ lt_z (get_or (b ∷ bs) k d) (get_or (b ∷ bs) j d)) (add-one k) (e d))))

-- ---- a strip has its western border and not its eastern one
abbrev Western : List ℤ → ℤ → ℕ → Type 0
Western bs x i = (i ≡ 1) ⊎ (get_or bs (i - 2) (pos 0) ≤ℤ x)

abbrev Eastern : List ℤ → ℤ → ℕ → Type 0
Eastern bs x i = (i ≡ strip_count bs) ⊎ (x <ℤ get_or bs (i - 1) (pos 0))

abbrev Is : List ℤ → ℤ → ℕ → Type 0
Is bs x i = (strip_of bs x ≡ i) ↔ (Western bs x i × Eastern bs x i)

-- the border at a place after the first
later : (b : ℤ) (bs : List ℤ) (m k : ℕ) → m ≡ suc k → get_or (b ∷ bs) m (pos 0) ≡ get_or bs k (pos 0)
later b bs m k e = ap (λ j. get_or (b ∷ bs) j (pos 0)) e

module _ (b : ℤ) (bs : List ℤ) (r : rise_after b bs ≡ true) (x : ℤ) (i : ℕ) (l : 1 ≤ i) (u : i ≤ strip_count (b ∷ bs)) where
  -- x lies west of all borders
  first_is : lt_z x b ≡ true → Is (b ∷ bs) x i
  first_is e = (there, back)
    where
      one : strip_of (b ∷ bs) x ≡ 1
      one = strip_west b bs x e

      there : strip_of (b ∷ bs) x ≡ i → Western (b ∷ bs) x i × Eastern (b ∷ bs) x i
      there s =
          let same : i ≡ 1 = sym s ∙ one in
          let place : 0 ≡ i - 1 = omega arith in
          let under : x <ℤ b = grind (arith, ints) in
          (inl same, inr (subst (λ k. x <ℤ get_or (b ∷ bs) k (pos 0)) place under))

      west : Western (b ∷ bs) x i → i ≡ 1
      west (inl s) = s
      west (inr s) = go (cases_eq i 1)
        where
          go : (i ≡ 1) ⊎ (i ≡ 1 → ⊥) → i ≡ 1
          go (inl s) = s
          go (inr d) = absurd (let least = first_least b bs r (i - 2) (omega arith) in grind (arith, ints))

      back : Western (b ∷ bs) x i × Eastern (b ∷ bs) x i → strip_of (b ∷ bs) x ≡ i
      back (w, _) = one ∙ sym (west w)

  -- x does not lie in the first strip, and i is the first
  not_first : lt_z x b ≡ false → i ≡ 1 → Is (b ∷ bs) x i
  not_first e s = (λ z. absurd (let a = strip_east b bs x e in let c = strip_low bs x in omega arith), λ (_, z). absurd (go z))
    where
      go : Eastern (b ∷ bs) x i → ⊥
      go (inl z) = omega arith
      go (inr z) = let place : i - 1 ≡ 0 = omega arith in let y = subst (λ k. x <ℤ get_or (b ∷ bs) k (pos 0)) place z in grind (arith, ints)

  -- neither is the first
  next_is : lt_z x b ≡ false → (i ≡ 1 → ⊥) → Is bs x (i - 1) → Is (b ∷ bs) x i
  next_is e d rec = (there, back)
    where
      east : strip_of (b ∷ bs) x ≡ suc (strip_of bs x)
      east = strip_east b bs x e

      east_place : get_or (b ∷ bs) (i - 1) (pos 0) ≡ get_or bs (i - 1 - 1) (pos 0)
      east_place = later b bs (i - 1) (i - 1 - 1) (omega arith)

      west_place : (i ≡ 2 → ⊥) → get_or (b ∷ bs) (i - 2) (pos 0) ≡ get_or bs (i - 1 - 2) (pos 0)
      west_place q = later b bs (i - 2) (i - 1 - 2) (omega arith)

      second : i ≡ 2 → get_or (b ∷ bs) (i - 2) (pos 0) ≤ℤ x
      second q = let place : 0 ≡ i - 2 = omega arith in let above : b ≤ℤ x = grind (arith, ints) in subst (λ k. get_or (b ∷ bs) k (pos 0) ≤ℤ x) place above

      west_there : Western bs x (i - 1) → Western (b ∷ bs) x i
      west_there (inl q) = inr (second (omega arith))
      west_there (inr q) = go (cases_eq i 2)
        where
          go : (i ≡ 2) ⊎ (i ≡ 2 → ⊥) → Western (b ∷ bs) x i
          go (inl z) = inr (second z)
          go (inr z) = inr (subst (λ c. c ≤ℤ x) (sym (west_place z)) q)

      west_back : Western (b ∷ bs) x i → Western bs x (i - 1)
      west_back (inl q) = absurd (d q)
      west_back (inr q) = go (cases_eq i 2)
        where
          go : (i ≡ 2) ⊎ (i ≡ 2 → ⊥) → Western bs x (i - 1)
          go (inl z) = inl (omega arith)
          go (inr z) = inr (subst (λ c. c ≤ℤ x) (west_place z) q)

      east_there : Eastern bs x (i - 1) → Eastern (b ∷ bs) x i
      east_there (inl q) = inl (omega arith)
      east_there (inr q) = inr (subst (λ c. x <ℤ c) (sym east_place) q)

      east_back : Eastern (b ∷ bs) x i → Eastern bs x (i - 1)
      east_back (inl q) = inl (omega arith)
      east_back (inr q) = inr (subst (λ c. x <ℤ c) east_place q)

      there : strip_of (b ∷ bs) x ≡ i → Western (b ∷ bs) x i × Eastern (b ∷ bs) x i
      there s = let p = rec.0 (omega (arith, east)) in (west_there p.0, east_there p.1)

      back : Western (b ∷ bs) x i × Eastern (b ∷ bs) x i → strip_of (b ∷ bs) x ≡ i
      back (w, z) = let p = rec.1 (west_back w, east_back z) in omega (arith, east)

pub strip_is : StripIs
strip_is [] r x i l u = let e : i ≡ 1 = omega arith in let s = strip_none x in ((λ _. (inl e, inl e)), (λ _. s ∙ sym e))
strip_is (b ∷ bs) r x i l u = go (lt_z x b) refl (cases_eq i 1) (strip_is bs (rise_rest b bs rises) x (i - 1))
  where
    rises : rise_after b bs ≡ true
    rises = (and_parts (within b) (rise_after b bs) r).1

    go : (t : Bool) → lt_z x b ≡ t → (i ≡ 1) ⊎ (i ≡ 1 → ⊥) → (1 ≤ i - 1 → i - 1 ≤ strip_count bs → Is bs x (i - 1)) → Is (b ∷ bs) x i
    go true e s rec = first_is b bs rises x i l u e
    go false e (inl s) rec = not_first b bs rises x i l u e s
    go false e (inr d) rec = next_is b bs rises x i l u e d (rec (omega arith) (omega arith))
