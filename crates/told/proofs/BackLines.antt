-- The line work that strips tell, where they tell sound line work: it is that and no other. Assumes nothing.
use Rattle.std.proofs.Common.{◌≡◌, ℕ, suc, ◌-◌, ◌<◌, ◌≤◌, Bool, true, false, not, ◌&&◌, eqb, ◌⊎◌, List, ℤ, Some, None, sym, ap, ◌∙◌, inl, inr, arith}
use Rattle.std.proofs.lemmas.Bool.{cases_Bool, both_ways, and_parts, and_from, not_from_true, not_from_false, eqb-true, eq-eqb}
use Rattle.flat.specs.Whole.{equal}
use Rattle.chart.specs.Linework.{Linework}
use Rattle.laws.specs.Keeps.{Sound}
use Rattle.strips.specs.Borders.{strip_count, home_strip}
use Rattle.strips.proofs.Cutting.{strip_low, strip_high}
use Rattle.file.specs.Places.{at, each}
use Rattle.file.specs.Strips.{none, Strip, home, start}
use Rattle.file.specs.Lines.{Slot, home_slot, is_some, name_or_0, follower_name, predecessor_name, lines_of}
use Rattle.file.proofs.Places.{first_bad_none, first_bad_is, first_fault_none, first_fault_is}
use Rattle.told.specs.Tells.{TellsStrip}
use Rattle.told.proofs.BackPlaces.{equal_same, equal_true, refuted}
use Rattle.told.proofs.BackStrip.{name_held, found_home, before, before_one}
use Rattle.told.proofs.BackSeam.{starts_at}

-- slot k of strip j
abbrev slot_at : ℕ → ℕ → Slot
slot_at j k = record { strip = j; slot = k }

-- c strips, each of which tells its strip of the line work
module _ (n : ℕ) (bs : List ℤ) (l : Linework) (sound : Sound n l) (c : ℕ) (strip : ℕ → Strip) (count : c ≡ strip_count bs)
    (few : (j : ℕ) → j < c → (strip j).slots ≤ none) (tells : (j : ℕ) → j < c → TellsStrip bs l (suc j) (strip j)) where
  -- slot k of strip j is not the home of z
  abbrev other : ℤ → ℕ → ℕ → Bool
  other z j k = not (home (strip j) k && equal ((strip j).name k) z)

  is_other : (z : ℤ) (j k : ℕ) → (home (strip j) k ≡ true → (strip j).name k ≡ z → ⊥) → other z j k ≡ true
  is_other z j k d = not_from_false _ (refuted (home (strip j) k && equal ((strip j).name k) z)
      (λ e. let a = and_parts (home (strip j) k) (equal ((strip j).name k) z) e in d a.0 (equal_true ((strip j).name k) z a.1)))

  held_at : (j : ℕ) → j < c → (k : ℕ) → k < (strip j).slots → l.turn.held ((strip j).name k) ≡ true
  held_at j h = name_held n bs l sound (suc j) (strip j) (few j h) (tells j h)

  -- a strip without a home of z
  none_in : (z : ℤ) (j : ℕ) → ((k : ℕ) → k < (strip j).slots → other z j k ≡ true) → at (slot_at j) (each (strip j).slots (other z j)) ≡ None
  none_in z j all = ap (at (slot_at j)) (first_bad_none (other z j) (strip j).slots all)

  -- a name that is not held has no home
  no_home : (z : ℤ) → l.turn.held z ≡ false → home_slot c strip z ≡ None
  unfolding home_slot
  no_home z out = first_fault_none (λ j. at (slot_at j) (each (strip j).slots (other z j))) c
      (λ j h. none_in z j (λ k g. is_other z j k (λ e q. both_ways (l.turn.held z) out (ap l.turn.held (sym q) ∙ held_at j h k g))))

  -- a home slot of z is its home
  its_home : (z : ℤ) (j : ℕ) → j < c → (k : ℕ) → k < (strip j).slots → (strip j).name k ≡ z → home (strip j) k ≡ true → home_slot c strip z ≡ Some (slot_at j k)
  unfolding home_slot
  its_home z j h k g q e = first_fault_is (λ m. at (slot_at m) (each (strip m).slots (other z m))) c j (slot_at j k) h
      (λ m u. none_in z m (λ i v. is_other z m i (λ t p. elsewhere m u i v t p)))
      (ap (at (slot_at j)) (first_bad_is (other z j) (strip j).slots k g (λ m u. is_other z j m (λ t p. let s = (tells j h).once m k (omega arith) g (p ∙ sym q) in omega arith)) here))
    where
      here : other z j k ≡ false
      here = not_from_true _ (and_from (home (strip j) k) (equal ((strip j).name k) z) e (equal_same ((strip j).name k) z q))

      elsewhere : (m : ℕ) → m < j → (i : ℕ) → i < (strip m).slots → home (strip m) i ≡ true → (strip m).name i ≡ z → ⊥
      elsewhere m u i v t p =
          let a = starts_at n bs l sound c strip count few tells m (omega arith) i v t in
          let b = starts_at n bs l sound c strip count few tells j h k g e in
          let s = ap (home_strip bs l) (p ∙ sym q) in
          omega arith

  -- where a name starts: its strip, its slot, and what they are
  record Start (z : ℤ) : Type 0 where
    at_strip : ℕ
    at_slot : ℕ
    in_range : at_strip < c
    in_strip : at_slot < (strip at_strip).slots
    names_it : (strip at_strip).name at_slot ≡ z
    is_home : home (strip at_strip) at_slot ≡ true
    found : home_slot c strip z ≡ Some (slot_at at_strip at_slot)

  start_of : (z : ℤ) → l.turn.held z ≡ true → Start z
  start_of z held =
      let low : 1 ≤ home_strip bs l z = strip_low bs _ in
      let high : home_strip bs l z ≤ strip_count bs = strip_high bs _ in
      let j = home_strip bs l z - 1 in
      let h : home_strip bs l z - 1 < c = omega arith in
      let is : home_strip bs l z ≡ suc (home_strip bs l z - 1) = omega arith in
      let r = found_home n bs l sound (suc j) (strip j) (few j h) (tells j h) z held is in
      record { at_strip = j; at_slot = r.0; in_range = h; in_strip = r.1; names_it = r.2; is_home = r.3; found = its_home z j h r.0 r.1 r.2 r.3 }

  -- ---- the line work, name by name
  module _ (z : ℤ) where
    held_is : (l.turn.held z ≡ true) ⊎ (l.turn.held z ≡ false) → is_some (home_slot c strip z) ≡ l.turn.held z
    held_is (inl y) = ap is_some (start_of z y).found ∙ sym y
    held_is (inr y) = ap is_some (no_home z y) ∙ sym y

    follower_is : (l.turn.held z ≡ true) ⊎ (l.turn.held z ≡ false) → follower_name strip (home_slot c strip z) ≡ l.turn.follower z
    follower_is (inl y) =
        let s = start_of z y in
        ap (follower_name strip) s.found ∙ (tells s.at_strip s.in_range).leads s.at_slot s.in_strip s.is_home ∙ ap l.turn.follower s.names_it
    follower_is (inr y) = ap (follower_name strip) (no_home z y) ∙ sym (sound.0.no_follower z y)

    predecessor_is : (l.turn.held z ≡ true) ⊎ (l.turn.held z ≡ false) → predecessor_name strip (home_slot c strip z) ≡ l.turn.predecessor z
    predecessor_is (inl y) =
        let s = start_of z y in
        let j = s.at_strip in
        let k = s.at_slot in
        let r = before n bs l sound (suc j) (strip j) (few j s.in_range) (tells j s.in_range) k s.in_strip s.is_home in
        let first : each (strip j).slots (λ m. not (eqb ((strip j).follower m) k)) ≡ Some r.0 =
        first_bad_is (λ m. not (eqb ((strip j).follower m) k)) (strip j).slots r.0 r.1
        (λ m u. not_from_false _ (refuted (eqb ((strip j).follower m) k) (λ e. one j k s.in_range s.in_strip m r.0 u r.1 (eqb-true ((strip j).follower m) k e) r.2)))
        (not_from_true _ (eq-eqb ((strip j).follower r.0) k r.2)) in
        ap (predecessor_name strip) s.found ∙ ap (name_or_0 (strip j)) first ∙ r.3 ∙ ap l.turn.predecessor s.names_it
      where
        one : (j k : ℕ) (h : j < c) → k < (strip j).slots → (m p : ℕ) → m < p → p < (strip j).slots → (strip j).follower m ≡ k → (strip j).follower p ≡ k → ⊥
        one j k h g m p u v e q = let s = before_one n bs l sound (suc j) (strip j) (few j h) (tells j h) k m p g (omega arith) v e q in omega arith
    predecessor_is (inr y) = ap (predecessor_name strip) (no_home z y) ∙ sym (sound.0.no_predecessor z y)

    point_is : (l.turn.held z ≡ true) ⊎ (l.turn.held z ≡ false) → at (λ a. start (strip a.strip) a.slot) (home_slot c strip z) ≡ l.points z
    point_is (inl y) =
        let s = start_of z y in
        ap (at (λ a. start (strip a.strip) a.slot)) s.found ∙ sym ((tells s.at_strip s.in_range).starts s.at_slot s.in_strip s.is_home) ∙ ap l.points s.names_it
    point_is (inr y) = ap (at (λ a. start (strip a.strip) a.slot)) (no_home z y) ∙ sym (sound.1.nowhere z y)

  pub told_are : lines_of c strip ≡ l
  unfolding lines_of
  told_are = λ i. record {
    turn = record {
      held = λ z. held_is z (cases_Bool (l.turn.held z)) i;
      follower = λ z. follower_is z (cases_Bool (l.turn.held z)) i;
      predecessor = λ z. predecessor_is z (cases_Bool (l.turn.held z)) i;
    };
    points = λ z. point_is z (cases_Bool (l.turn.held z)) i;
  }
