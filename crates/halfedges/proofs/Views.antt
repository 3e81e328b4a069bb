-- What one write does to the two maps. Assumes nothing.
use Rattle.std.proofs.Common.{◌≡◌, ℕ, zero, suc, ◌+◌, ◌*◌, ◌/◌, ◌%◌, ◌<◌, ◌≤◌, Bool, true, false, cond, ◌&&◌, eqb, leb, ◌≢◌, ◌⊎◌, List, length, ◌++◌, get_or, set, ℤ, pos, negsuc, ◌+ℤ◌, neg_ℤ, nat_abs, ◌≤ℤ◌, sym, refl, ap, ◌∙◌, inl, inr, arith}
use Rattle.std.proofs.lemmas.List.{get_or-set_same, get_or-set_other, length-set, length-append, set-append_left}
use Rattle.std.proofs.Math.ListN.{get_or-append}
use Rattle.std.proofs.lemmas.Int.{ints}
use Rattle.std.proofs.lemmas.Bool.{cond-true, cond-false, cases_eq, le-leb}
use Rattle.std.proofs.lemmas.Bool.Decides.{eqb_tells, leb_tells}
use Rattle.chart.specs.Changes.{at}
use Rattle.laws.proofs.Equal.{tell, Tells}
use Rattle.halfedges.specs.declared.halfedge.Halfedge.{Halfedge}
use Rattle.halfedges.specs.View.{none, bare, key, is_name, entry_at, row_at, view, written, noted}

pub name_is : (n : ℕ) (h : ℤ) → neg_ℤ (pos n) ≤ℤ h → h ≤ℤ pos n → is_name n h ≡ true
name_is n h a b = grind (arith, ints)

pub name_low : (n : ℕ) (h : ℤ) → is_name n h ≡ true → neg_ℤ (pos n) ≤ℤ h
name_low n h a = grind (arith, ints)

pub name_high : (n : ℕ) (h : ℤ) → is_name n h ≡ true → h ≤ℤ pos n
name_high n h a = grind (arith, ints)

pub key_is : (n : ℕ) (h : ℤ) → neg_ℤ (pos n) ≤ℤ h → h ≤ℤ pos n → pos (key n h) ≡ h +ℤ pos n
key_is n (pos m) a b = omega (arith, ints)
key_is n (negsuc m) a b = omega (arith, ints)

pub key_nat_abs : (n : ℕ) (h : ℤ) → neg_ℤ (pos n) ≤ℤ h → h ≤ℤ pos n → nat_abs (h +ℤ pos n) ≡ key n h
key_nat_abs n h a b = ap nat_abs (sym (key_is n h a b))

pub key_below : (n : ℕ) (h : ℤ) → neg_ℤ (pos n) ≤ℤ h → h ≤ℤ pos n → key n h ≤ n + n
key_below n (pos m) a b = omega (arith, ints)
key_below n (negsuc m) a b = omega (arith, ints)

key_apart : (n : ℕ) (g h : ℤ) → neg_ℤ (pos n) ≤ℤ g → g ≤ℤ pos n → neg_ℤ (pos n) ≤ℤ h → h ≤ℤ pos n → key n g ≡ key n h → g ≡ h
key_apart n g h a b c d e = let p = key_is n g a b in let q = key_is n h c d in omega (arith, ints)

both : (a b : Bool) → a ≡ true → b ≡ true → (a && b) ≡ true
both true b p q = q
both false b p q = p

neither : (a b : Bool) → b ≡ false → (a && b) ≡ false
neither true b q = q
neither false b q = refl

pub entry_in : (n cap : ℕ) (rs : List Halfedge) → cap ≤ length rs → (h : ℤ) → is_name n h ≡ true → (view n cap rs).entry h ≡ entry_at rs (key n h)
unfolding view
entry_in n cap rs l h e = cond-true (leb cap (length rs) && is_name n h) _ _ (both _ _ (le-leb _ _ l) e)

pub entry_out : (n cap : ℕ) (rs : List Halfedge) (h : ℤ) → is_name n h ≡ false → (view n cap rs).entry h ≡ 0
unfolding view
entry_out n cap rs h e = cond-false (leb cap (length rs) && is_name n h) _ _ (neither _ _ e)

-- nothing is found in a memory that is too short
pub entry_short : (n cap : ℕ) (rs : List Halfedge) (h : ℤ) → length rs < cap → (view n cap rs).entry h ≡ 0
unfolding view
entry_short n cap rs h l = let short : leb cap (length rs) ≡ false = grind (arith, leb_tells cap (length rs)) in cond-false (leb cap (length rs) && is_name n h) _ _ (ap (λ b. b && is_name n h) short)

pub zero_row : (n cap : ℕ) (rs : List Halfedge) → (view n cap rs).row 0 ≡ none
unfolding view row_at
zero_row n cap rs = refl

pub row_is : (n cap : ℕ) (rs : List Halfedge) (i : ℕ) → (view n cap rs).row (suc i) ≡ bare (get_or rs i none)
unfolding view row_at
row_is n cap rs i = refl

-- ---- a row is written, with the index that was there
module _ (n cap : ℕ) (rs : List Halfedge) (i : ℕ) (r : Halfedge) (l : i < length rs) (keep : r.index ≡ (get_or rs i none).index) where
  write_index : (j : ℕ) → (get_or (set rs i r) j none).index ≡ (get_or rs j none).index
  write_index j = go (cases_eq j i)
    where
      go : (j ≡ i) ⊎ (j ≢ i) → (get_or (set rs i r) j none).index ≡ (get_or rs j none).index
      go (inl e) = ap (λ k. (get_or (set rs i r) k none).index) e ∙ ap (λ x. x.index) (get_or-set_same rs i r none l) ∙ keep ∙ ap (λ k. (get_or rs k none).index) (sym e)
      go (inr d) = ap (λ x. x.index) (get_or-set_other rs i j r none d)

  write_entry : (k : ℕ) → entry_at (set rs i r) k ≡ entry_at rs k
  unfolding entry_at
  write_entry k = ap (λ x. get_or x (k % 3) 0) (write_index (k / 3))

  write_row : (j : ℕ) → row_at (set rs i r) j ≡ cond (eqb j (suc i)) (bare r) (row_at rs j)
  unfolding row_at
  write_row zero = sym (cond-false (eqb 0 (suc i)) (bare r) none (grind (arith, eqb_tells 0 (suc i))))
  write_row (suc j) = go (eqb_tells (suc j) (suc i))
    where
      go : ((eqb (suc j) (suc i) ≡ true) × (suc j ≡ suc i)) ⊎ ((eqb (suc j) (suc i) ≡ false) × (suc j ≡ suc i → ⊥)) → bare (get_or (set rs i r) j none) ≡ cond (eqb (suc j) (suc i)) (bare r) (bare (get_or rs j none))
      go (inl e) = let d : j ≡ i = omega (arith, e.1) in ap (λ k. bare (get_or (set rs i r) k none)) d ∙ ap bare (get_or-set_same rs i r none l) ∙ sym (cond-true _ _ _ e.0)
      go (inr e) = let d : j ≢ i = λ z. e.1 (ap suc z) in ap bare (get_or-set_other rs i j r none d) ∙ sym (cond-false _ _ _ e.0)

  pub write_view : view n cap (set rs i r) ≡ written (suc i) (bare r) (view n cap rs)
  unfolding view
  write_view = λ d. record { entry = λ h. cond (leb cap (length-set rs i r d) && is_name n h) (write_entry (key n h) d) 0; row = λ j. write_row j d }

-- ---- the same where the rows after the first ones stand beside
module _ (n cap : ℕ) (items rest : List Halfedge) (i : ℕ) (l : i < length items) where
  first_row : get_or (items ++ rest) i none ≡ get_or items i none
  first_row = get_or-append items rest none i l

  -- the row at slot i + 1 is one of the first
  pub first_is : (view n cap (items ++ rest)).row (suc i) ≡ bare (get_or items i none)
  first_is = row_is n cap (items ++ rest) i ∙ ap bare first_row

  pub first_written : (r : Halfedge) → r.index ≡ (get_or items i none).index → view n cap (set items i r ++ rest) ≡ written (suc i) (bare r) (view n cap (items ++ rest))
  first_written r keep =
      ap (view n cap) (sym (set-append_left items rest i r l))
      ∙ write_view n cap (items ++ rest) i r (let m = length-append items rest in omega arith) (keep ∙ sym (ap (λ x. x.index) first_row))

  pub first_length : (r : Halfedge) → length (set items i r ++ rest) ≡ length (items ++ rest)
  first_length r = ap length (sym (set-append_left items rest i r l)) ∙ length-set (items ++ rest) i r

-- ---- an entry is noted
abbrev pub with_entry : ℕ → ℕ → Halfedge → Halfedge
with_entry j v r = record { strip = r.strip; name = r.name; follower = r.follower; predecessor = r.predecessor; x = r.x; y = r.y; index = set r.index j v }

abbrev pub note_at : List Halfedge → ℕ → ℕ → List Halfedge
note_at rs k v = set rs (k / 3) (with_entry (k % 3) v (get_or rs (k / 3) none))

module _ (rs : List Halfedge) (k v : ℕ) (l : k / 3 < length rs) (w : length (get_or rs (k / 3) none).index ≡ 3) where
  note_same : entry_at (note_at rs k v) k ≡ v
  unfolding entry_at
  note_same =
      ap (λ x. get_or x.index (k % 3) 0) (get_or-set_same rs (k / 3) _ none l)
      ∙ get_or-set_same (get_or rs (k / 3) none).index (k % 3) v 0 (omega (arith, w))

  note_other : (j : ℕ) → (j ≡ k → ⊥) → entry_at (note_at rs k v) j ≡ entry_at rs j
  unfolding entry_at
  note_other j d = go (cases_eq (j / 3) (k / 3))
    where
      go : (j / 3 ≡ k / 3) ⊎ (j / 3 ≢ k / 3) → get_or (get_or (note_at rs k v) (j / 3) none).index (j % 3) 0 ≡ get_or (get_or rs (j / 3) none).index (j % 3) 0
      go (inr e) = ap (λ x. get_or x.index (j % 3) 0) (get_or-set_other rs (k / 3) (j / 3) _ none e)
      go (inl e) =
          let m : j % 3 ≢ k % 3 = λ z. d (omega arith) in
          ap (λ x. get_or (get_or (note_at rs k v) x none).index (j % 3) 0) e
          ∙ ap (λ x. get_or x.index (j % 3) 0) (get_or-set_same rs (k / 3) _ none l)
          ∙ get_or-set_other (get_or rs (k / 3) none).index (k % 3) (j % 3) v 0 m
          ∙ ap (λ x. get_or (get_or rs x none).index (j % 3) 0) (sym e)

  note_row : (j : ℕ) → row_at (note_at rs k v) j ≡ row_at rs j
  unfolding row_at
  note_row zero = refl
  note_row (suc j) = go (cases_eq j (k / 3))
    where
      go : (j ≡ k / 3) ⊎ (j ≢ k / 3) → bare (get_or (note_at rs k v) j none) ≡ bare (get_or rs j none)
      go (inl e) = ap (λ x. bare (get_or (note_at rs k v) x none)) e ∙ ap bare (get_or-set_same rs (k / 3) _ none l) ∙ ap (λ x. bare (get_or rs x none)) (sym e)
      go (inr d) = ap bare (get_or-set_other rs (k / 3) j _ none d)

module _ (n cap : ℕ) (rs : List Halfedge) (long : cap ≤ length rs) (keyed : suc (n + n) ≤ 3 * cap) (h : ℤ) (v : ℕ) (a : neg_ℤ (pos n) ≤ℤ h) (b : h ≤ℤ pos n) (wide : length (get_or rs (key n h / 3) none).index ≡ 3) where
  pub key_inside : key n h / 3 < length rs
  key_inside = let k = key_below n h a b in omega arith

  note_entry : (g : ℤ) → (view n cap (note_at rs (key n h) v)).entry g ≡ at h v (view n cap rs).entry g
  note_entry g = go (tell g h) (is_name n g) refl
    where
      long' : cap ≤ length (note_at rs (key n h) v)
      long' = let s = length-set rs (key n h / 3) (with_entry (key n h % 3) v (get_or rs (key n h / 3) none)) in omega arith

      go : Tells g h → (t : Bool) → is_name n g ≡ t → (view n cap (note_at rs (key n h) v)).entry g ≡ at h v (view n cap rs).entry g
      go (inl e) t s =
          ap (view n cap (note_at rs (key n h) v)).entry e.1 ∙ entry_in n cap (note_at rs (key n h) v) long' h (name_is n h a b) ∙ note_same rs (key n h) v key_inside wide ∙ sym (cond-true _ _ _ e.0)
      go (inr e) true s =
          entry_in n cap (note_at rs (key n h) v) long' g s
          ∙ note_other rs (key n h) v key_inside wide (key n g) (λ z. e.1 (key_apart n g h (name_low n g s) (name_high n g s) a b z))
          ∙ sym (entry_in n cap rs long g s) ∙ sym (cond-false _ _ _ e.0)
      go (inr e) false s = entry_out n cap (note_at rs (key n h) v) g s ∙ sym (entry_out n cap rs g s) ∙ sym (cond-false _ _ _ e.0)

  note_rows : (j : ℕ) → (view n cap (note_at rs (key n h) v)).row j ≡ (view n cap rs).row j
  unfolding view
  note_rows j = note_row rs (key n h) v key_inside wide j

  pub note_view : view n cap (note_at rs (key n h) v) ≡ noted h v (view n cap rs)
  note_view = λ d. record { entry = λ g. note_entry g d; row = λ j. note_rows j d }
