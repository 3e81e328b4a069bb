-- What a search or a count over the records finds, in the words of rows. Assumes nothing.
use Rattle.std.proofs.Common.{◌≡◌, ℕ, zero, suc, ◌+◌, ◌-◌, ◌<◌, ◌≤◌, Bool, true, false, not, cond, ◌⊎◌, inl, inr, List, length, get_or, take, drop, ℤ, pos, Some, None, Option, sym, refl, ap, ◌∙◌, subst, arith, add-one, length-drop, get_or-take, get_or-drop, length-take}
use Rattle.std.specs.List.{filter, AllWithin, HoldsAt}
use Rattle.std.specs.Option.{MatchOption, IsSome}
use Rattle.std.proofs.lemmas.List.Filters.{length-filter_more}
use Rattle.std.proofs.lemmas.Bool.{cases_lt}
use Rattle.flat.specs.Orbits.{indicator}
use Rattle.flat.specs.Whole.{equal}
use Rattle.turning.specs.Limits.{max_edge, slots}
use Rattle.laws.proofs.Equal.{tell}
use Rattle.halfedges.specs.declared.halfedge.Halfedge.{Halfedge}
use Rattle.halfedges.specs.View.{none, seen}
use Rattle.halfedges.specs.Rows.{taken_row, used, Packed, slot_count, row_in, same_place}
use Rattle.halfedges.proofs.Views.{row_is}
use Rattle.halfedges.proofs.Beside.{no_slot}
use Rattle.halfedges.proofs.Counted.{full, used_start, used_more}

abbrev pub has_name : Halfedge → Bool
has_name r = not (equal r.name (pos 0))

abbrev pub Named : Halfedge → Type 0
Named r = true ≡ has_name r

abbrev pub Unnamed : Halfedge → Type 0
Unnamed r = false ≡ has_name r

-- ---- how many records have a name
either : (b : Bool) → indicator b ≡ cond b 1 0
either true = refl
either false = refl

pub used_filtered : (rs : List Halfedge) (i : ℕ) → i ≤ length rs → used i (seen rs) ≡ length (filter has_name (take i rs))
used_filtered rs zero l = used_start (seen rs)
used_filtered rs (suc i) l =
    let rec = used_filtered rs i (omega arith) in
    let e : taken_row (seen rs) (suc i) ≡ has_name (get_or rs i none) = ap has_name (row_is max_edge slots rs i) in
    let more = length-filter_more has_name rs i none (omega arith) in
    let s : length (filter has_name (take (suc i) rs)) ≡ length (filter has_name (take (i + 1) rs)) = ap (λ k. length (filter has_name (take k rs))) (sym (add-one i)) in
    let a = ap indicator e ∙ either (has_name (get_or rs i none)) in
    let u = used_more i (seen rs) in
    omega arith

-- ---- the first record without a name, after those that are known to have one
module _ (rs : List Halfedge) (long : slots ≤ length rs) (known : ℕ) (room : used slots (seen rs) < slots) (packed : Packed known (seen rs)) where
  pub known_within : known ≤ slots
  known_within = go (cases_lt slots known)
    where
      go : (slots < known) ⊎ (known ≤ slots) → known ≤ slots
      go (inl l) = absurd (full slots (seen rs) (λ k m. packed k (omega arith)) room)
      go (inr l) = l

  abbrev pub rest : List Halfedge
  rest = take (slots - known) (drop known rs)

  pub length_rest : length rest ≡ slots - known
  length_rest = let w = known_within in omega (arith, length-take {A = Halfedge}, length-drop {A = Halfedge})

  place : (i : ℕ) → i < slots - known → get_or rest i none ≡ get_or rs (known + i) none
  place i l = get_or-take (slots - known) (drop known rs) i none l ∙ get_or-drop known rs i none

  -- those before place i of the rest are named
  pub passed : (i : ℕ) → i ≤ slots - known → AllWithin Named rest 0 i → Packed (known + i) (seen rs)
  passed i l before k m = go (cases_lt k known)
    where
      go : (k < known) ⊎ (known ≤ k) → taken_row (seen rs) (suc k) ≡ true
      go (inl b) = packed k b
      go (inr b) =
          let j : known + (k - known) ≡ k = omega arith in
          ap has_name (row_is max_edge slots rs k) ∙ sym (subst Named (place (k - known) (omega arith) ∙ ap (λ x. get_or rs x none) j) (before (k - known) none (omega arith) (omega arith)))

  -- there is one
  pub free_found : (r : Option ℕ) → MatchOption r (AllWithin Named rest 0 (length rest)) (λ i. (i < length rest) × HoldsAt Unnamed rest i × AllWithin Named rest 0 i) → IsSome r
  free_found (Some i) h = refl
  free_found None h = absurd (full slots (seen rs) (λ k m. passed (slots - known) (omega arith) (subst (AllWithin Named rest 0) length_rest h) k (let w = known_within in omega arith)) room)

  pub first_low : (i : ℕ) → i < length rest → known + i < slots
  first_low i l = let e = length_rest in omega arith

  pub first_free : (i : ℕ) → i < length rest → HoldsAt Unnamed rest i → ((seen rs).row (suc (known + i))).name ≡ pos 0
  first_free i l here =
      let e : false ≡ has_name ((seen rs).row (suc (known + i))) = subst Unnamed (place i (let e = length_rest in omega arith)) (here none) ∙ ap has_name (sym (row_is max_edge slots rs (known + i))) in
      grind (arith, tell ((seen rs).row (suc (known + i))).name (pos 0), e)

-- ---- the record of a strip and a name
abbrev pub Sought : ℕ → ℤ → Halfedge → Type 0
Sought strip k r = true ≡ same_place r.strip r.name strip k

abbrev pub Other : ℕ → ℤ → Halfedge → Type 0
Other strip k r = false ≡ same_place r.strip r.name strip k

module _ (rs : List Halfedge) (long : slots ≤ length rs) (strip : ℕ) (k : ℤ) (there : 1 ≤ slot_count slots (seen rs) strip k) where
  abbrev pub searched : List Halfedge
  searched = take slots rs

  length_searched : length searched ≡ slots
  length_searched = omega (arith, length-take {A = Halfedge})

  pub slot_found : (r : Option ℕ) → MatchOption r (AllWithin (Other strip k) searched 0 (length searched)) (λ i. (i < length searched) × HoldsAt (Sought strip k) searched i × AllWithin (Other strip k) searched 0 i) → IsSome r
  slot_found (Some i) h = refl
  slot_found None h = absurd (no_slot slots (seen rs) strip k not_there there)
    where
      not_there : (j : ℕ) → j < slots → row_in (seen rs) strip k (suc j) ≡ false
      not_there j m =
          ap (λ r. same_place r.strip r.name strip k) (row_is max_edge slots rs j)
          ∙ sym (subst (Other strip k) (get_or-take slots rs j none m) (h j none (omega arith) (subst (λ x. j < x) (sym length_searched) m)))

  pub found_low : (i : ℕ) → i < length searched → i < slots
  found_low i l = subst (λ x. i < x) length_searched l

  pub found_here : (i : ℕ) → i < length searched → HoldsAt (Sought strip k) searched i → row_in (seen rs) strip k (suc i) ≡ true
  found_here i l here =
      ap (λ r. same_place r.strip r.name strip k) (row_is max_edge slots rs i)
      ∙ sym (subst (Sought strip k) (get_or-take slots rs i none (found_low i l)) (here none))
