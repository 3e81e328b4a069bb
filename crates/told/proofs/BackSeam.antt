-- The questions of the seams, asked of strips that tell sound line work: all are answered yes. Assumes nothing.
use Rattle.std.proofs.Common.{◌≡◌, ℕ, zero, suc, ◌<◌, ◌≤◌, Bool, true, false, not, ◌&&◌, ◌||◌, eqb, ltb, ◌⊎◌, List, ℤ, pos, negsuc, sym, refl, ap, ◌∙◌, inl, inr, arith}
use Rattle.std.proofs.lemmas.Bool.{cases_eq, and_parts, and_from, or_cases, not_from_false, eq-eqb, ne_eqb, lt-ltb, ltb-true}
use Rattle.flat.specs.Whole.{equal}
use Rattle.chart.specs.Linework.{Linework}
use Rattle.laws.specs.Keeps.{Sound}
use Rattle.strips.specs.Borders.{strip_count, home_strip, first_strip, last_strip, runs_through}
use Rattle.strips.proofs.Cutting.{strip_low, strip_high}
use Rattle.file.specs.Places.{any_below}
use Rattle.file.specs.Strips.{none, Strip, home, names, home_names}
use Rattle.file.specs.Questions.{beyond, runs_on, starts_here, home_before, home_new}
use Rattle.file.proofs.Places.{any_where}
use Rattle.told.specs.Tells.{TellsStrip}
use Rattle.told.proofs.BackPlaces.{equal_true, refuted}
use Rattle.told.proofs.BackSpans.{runs_parts, runs_from}
use Rattle.told.proofs.BackStrip.{name_runs, starts_in}

beyond_east : (c : ℕ) (strip : ℕ → Strip) (j e : ℕ) → beyond c strip j (negsuc e) ≡ (ltb (suc j) c && names (strip (suc j)) (strip (suc j)).slots (negsuc e))
beyond_east c strip zero e = refl
beyond_east c strip (suc j) e = refl

either : (x : Bool) → (x || not x) ≡ true
either true = refl
either false = refl

never_both : (x : Bool) → not (x && not x) ≡ true
never_both true = refl
never_both false = refl

-- c strips, each of which tells its strip of the line work
module _ (n : ℕ) (bs : List ℤ) (l : Linework) (sound : Sound n l) (c : ℕ) (strip : ℕ → Strip) (count : c ≡ strip_count bs)
    (few : (j : ℕ) → j < c → (strip j).slots ≤ none) (each : (j : ℕ) → j < c → TellsStrip bs l (suc j) (strip j)) where
  -- the neighbour of its home has a name of strip j just where its home is another
  beyond_is : (j : ℕ) → j < c → (z : ℤ) → runs_through bs l (suc j) z ≡ true → beyond c strip j z ≡ not (eqb (home_strip bs l z) (suc j))
  beyond_is zero h (pos e) r =
      let p = runs_parts bs l 1 (pos e) r in
      let low : 1 ≤ home_strip bs l (pos e) = strip_low bs _ in
      let one : home_strip bs l (pos e) ≡ 1 = omega arith in
      sym (ap not (eq-eqb (home_strip bs l (pos e)) 1 one))
  beyond_is (suc j) h (pos e) r = (each j (omega arith)).held (pos e) ∙ go (cases_eq (home_strip bs l (pos e)) (suc (suc j)))
    where
      go : (home_strip bs l (pos e) ≡ suc (suc j)) ⊎ (home_strip bs l (pos e) ≡ suc (suc j) → ⊥) → runs_through bs l (suc j) (pos e) ≡ not (eqb (home_strip bs l (pos e)) (suc (suc j)))
      go (inl q) = refuted (runs_through bs l (suc j) (pos e)) (λ t. let p = (runs_parts bs l (suc j) (pos e) t).1 in omega arith) ∙ sym (ap not (eq-eqb (home_strip bs l (pos e)) (suc (suc j)) q))
      go (inr d) =
          let p = runs_parts bs l (suc (suc j)) (pos e) r in
          let west : first_strip bs l (pos e) ≤ suc (suc j) = p.1 in
          let east : suc (suc j) ≤ last_strip bs l (pos e) = p.2 in
          runs_from bs l (suc j) (pos e) p.0 (omega arith) (omega arith) ∙ sym (ap not (ne_eqb (home_strip bs l (pos e)) (suc (suc j)) d))
  beyond_is j h (negsuc e) r = beyond_east c strip j e ∙ go (cases_eq (home_strip bs l (negsuc e)) (suc j))
    where
      go : (home_strip bs l (negsuc e) ≡ suc j) ⊎ (home_strip bs l (negsuc e) ≡ suc j → ⊥) → (ltb (suc j) c && names (strip (suc j)) (strip (suc j)).slots (negsuc e)) ≡ not (eqb (home_strip bs l (negsuc e)) (suc j))
      go (inl q) = refuted _ (λ t.
          let a = and_parts (ltb (suc j) c) (names (strip (suc j)) (strip (suc j)).slots (negsuc e)) t in
          let east = (runs_parts bs l (suc (suc j)) (negsuc e) (sym ((each (suc j) (ltb-true (suc j) c a.0)).held (negsuc e)) ∙ a.1)).2 in
          omega arith)
          ∙ sym (ap not (eq-eqb (home_strip bs l (negsuc e)) (suc j) q))
      go (inr d) =
          let p = runs_parts bs l (suc j) (negsuc e) r in
          let west : first_strip bs l (negsuc e) ≤ suc j = p.1 in
          let east : suc j ≤ home_strip bs l (negsuc e) = p.2 in
          let high : home_strip bs l (negsuc e) ≤ strip_count bs = strip_high bs _ in
          let more : suc j < c = omega arith in
          and_from (ltb (suc j) c) (names (strip (suc j)) (strip (suc j)).slots (negsuc e)) (lt-ltb (suc j) c more)
          ((each (suc j) more).held (negsuc e) ∙ runs_from bs l (suc (suc j)) (negsuc e) p.0 (omega arith) (omega arith))
          ∙ sym (ap not (ne_eqb (home_strip bs l (negsuc e)) (suc j) d))

  -- the same of a slot
  beyond_slot : (j : ℕ) → j < c → (k : ℕ) → k < (strip j).slots → beyond c strip j ((strip j).name k) ≡ not (home (strip j) k)
  beyond_slot j h k g =
      beyond_is j h ((strip j).name k) (name_runs n bs l sound (suc j) (strip j) (few j h) (each j h) k g) ∙ ap not (sym ((each j h).homes k g))

  pub all_run_on : (j : ℕ) → j < c → (k : ℕ) → k < (strip j).slots → runs_on c strip j k ≡ true
  all_run_on j h k g = ap (λ x. home (strip j) k || x) (beyond_slot j h k g) ∙ either (home (strip j) k)

  pub all_start_here : (j : ℕ) → j < c → (k : ℕ) → k < (strip j).slots → starts_here c strip j k ≡ true
  all_start_here j h k g = ap (λ x. not (home (strip j) k && x)) (beyond_slot j h k g) ∙ never_both (home (strip j) k)

  pub starts_at : (j : ℕ) → j < c → (k : ℕ) → k < (strip j).slots → home (strip j) k ≡ true → home_strip bs l ((strip j).name k) ≡ suc j
  starts_at j h = starts_in n bs l sound (suc j) (strip j) (few j h) (each j h)

  -- a home slot with a name, found by its test
  slot_told : (j : ℕ) → j < c → (m : ℕ) → m ≤ (strip j).slots → (z : ℤ) → home_names (strip j) m z ≡ true
      → (k : ℕ) × (k < m) × ((strip j).name k ≡ z) × (home_strip bs l z ≡ suc j)
  slot_told j h m g z e =
      let r = any_where (λ k. home (strip j) k && equal ((strip j).name k) z) m e in
      let low : r.0 < m = r.1 in
      let a = and_parts (home (strip j) r.0) (equal ((strip j).name r.0) z) r.2 in
      let q = equal_true ((strip j).name r.0) z a.1 in
      (r.0, low, q, ap (home_strip bs l) (sym q) ∙ starts_at j h r.0 (omega arith) a.0)

  pub all_home_new : (j : ℕ) → j < c → (k : ℕ) → k < (strip j).slots → home_new strip j k ≡ true
  all_home_new j h k g = not_from_false _ (refuted (home (strip j) k && home_before strip j k z) go)
    where
      z : ℤ
      z = (strip j).name k

      earlier : home_strip bs l z ≡ suc j → any_below (λ m. home_names (strip m) (strip m).slots z) j ≡ true → ⊥
      earlier s e =
          let r = any_where (λ m. home_names (strip m) (strip m).slots z) j e in
          let low : r.0 < j = r.1 in
          let t = (slot_told r.0 (omega arith) (strip r.0).slots (omega arith) z r.2).3 in
          omega arith

      lower : home_names (strip j) k z ≡ true → ⊥
      lower e =
          let r = slot_told j h k (omega arith) z e in
          let low : r.0 < k = r.1 in
          let q = (each j h).once r.0 k (omega arith) g r.2 in
          omega arith

      go : (home (strip j) k && home_before strip j k z) ≡ true → ⊥
      go e = let a = and_parts (home (strip j) k) (home_before strip j k z) e in cases a.0 (or_cases (any_below (λ m. home_names (strip m) (strip m).slots z) j) (home_names (strip j) k z) a.1)
        where
          cases : home (strip j) k ≡ true → (any_below (λ m. home_names (strip m) (strip m).slots z) j ≡ true) ⊎ (home_names (strip j) k z ≡ true) → ⊥
          cases t (inl x) = earlier (starts_at j h k g t) x
          cases t (inr x) = lower x
