-- Where in a list of distinct names each name stands, noted name by name. Assumes nothing.
use Rattle.std.proofs.Common.{◌≡◌, ℕ, zero, suc, ◌+◌, ◌*◌, ◌<◌, ◌≤◌, List, [], ◌∷◌, length, get_or, drop, set, ℤ, pos, sym, refl, ap, ◌∙◌, subst, inl, inr, ⊎_elim, arith}
use Rattle.std.proofs.lemmas.List.{get_or-set_same, get_or-set_other}
use Rattle.std.proofs.lemmas.Bool.{cases_lt}
use Rattle.flat.specs.Orbits.{◌∈◌, Distinct}
use Rattle.search.specs.Marks.{Within, place}
use Rattle.search.proofs.Marking.{place_below, place_apart}
use Rattle.writing.specs.Written.{place_in}
use Rattle.writing.specs.Gathers.{Slotted}
use Rattle.writing.proofs.Listing.{apart_at, place_is}

pub element_in : (names : List ℤ) (k : ℕ) (d : ℤ) → k < length names → get_or names k d ∈ names
element_in [] k d below = absurd (omega arith)
element_in (x ∷ xs) zero d below = inl refl
element_in (x ∷ xs) (suc k) d below = inr (element_in xs k d (omega arith))

pub dropped_in : (names : List ℤ) (k : ℕ) (h : ℤ) → h ∈ drop k names → h ∈ names
dropped_in names zero h m = m
dropped_in [] (suc k) h m = m
dropped_in (x ∷ xs) (suc k) h m = inr (dropped_in xs k h m)

-- the names below place k are noted
abbrev pub NotedTo : ℕ → ℕ → List ℤ → List ℕ → Type 0
NotedTo n k names slots = (m : ℕ) → m < k → get_or slots (place n (get_or names m (pos 0))) 0 ≡ m

pub noted_none : (n : ℕ) (names : List ℤ) (slots : List ℕ) → NotedTo n 0 names slots
noted_none n names slots m below = absurd (omega arith)

module _ (n k : ℕ) (names : List ℤ) (slots : List ℕ) (within : (h : ℤ) → h ∈ names → Within n h) (apart : Distinct names) (long : length slots ≡ 2 * n + 1) (below : k < length names) where
  -- one name more is noted
  pub noted_more : NotedTo n k names slots → NotedTo n (k + 1) names (set slots (place n (get_or names k (pos 0))) k)
  noted_more before m next = ⊎_elim other same (cases_lt m k)
    where
      at : ℕ → ℤ
      at j = get_or names j (pos 0)

      fits : place n (at k) < length slots
      fits = omega (arith, place_below n (at k) (within (at k) (element_in names k (pos 0) below)))

      same : k ≤ m → get_or (set slots (place n (at k)) k) (place n (at m)) 0 ≡ m
      same most =
          let e : k ≡ m = omega arith in
          subst (λ j. get_or (set slots (place n (at k)) k) (place n (at j)) 0 ≡ j) e (get_or-set_same slots (place n (at k)) k 0 fits)

      other : m < k → get_or (set slots (place n (at k)) k) (place n (at m)) 0 ≡ m
      other less =
          let there : m < length names = omega arith in
          get_or-set_other slots (place n (at k)) (place n (at m)) k 0
          (λ q. absurd (not_both (apart_at (pos 0) names apart k m below there (place_apart n (at k) (at m) (within (at k) (element_in names k (pos 0) below)) (within (at m) (element_in names m (pos 0) there)) (sym q)))))
          ∙ before m less
        where
          not_both : k ≡ m → ⊥
          not_both e = absurd (omega arith)

pub noted_all : (n k : ℕ) (names : List ℤ) (slots : List ℕ) → length names ≤ k → NotedTo n k names slots → Slotted n names slots
noted_all n k names slots past all h m =
    let p = place_is names h (pos 0) m in
    ap (λ z. get_or slots (place n z) 0) (sym p.1) ∙ all (place_in names h) (omega (arith, p.0))
