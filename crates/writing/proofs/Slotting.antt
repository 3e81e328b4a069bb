-- The names of a strip, slot by slot: which they are, and how many. Assumes nothing.
use Rattle.std.proofs.Common.{◌≡◌, ℕ, zero, suc, ◌*◌, ◌≤◌, Bool, true, false, cond, leb, List, [], ◌∷◌, length, ℤ, pos, negsuc, neg_ℤ, refl, ap, ap₂, arith, length-append}
use Rattle.std.proofs.lemmas.Bool.{cond-true, and_parts, and_from, and_left, le-leb}
use Rattle.flat.specs.Orbits.{◌∈◌, Distinct, filter}
use Rattle.flat.proofs.Basics.{T_true, true_T}
use Rattle.flat.proofs.Trails.{filter_is}
use Rattle.turning.specs.Counts.{names}
use Rattle.turning.proofs.Listed.{in_names, held_named, names_apart}
use Rattle.chart.specs.Linework.{Linework}
use Rattle.laws.specs.Keeps.{Sound}
use Rattle.strips.specs.Borders.{apart, home_strip, first_strip, last_strip, runs_through, slots_of, slots_taken}
use Rattle.strips.proofs.Gains.{told_order, not_held}
use Rattle.writing.specs.Written.{names_in}
use Rattle.writing.proofs.Listing.{filter_join, filter_few}

-- a strip has each name once
pub strip_apart : (n : ℕ) (bs : List ℤ) (l : Linework) (i : ℕ) → Distinct (names_in n bs l i)
unfolding names_in
strip_apart n bs l i = (filter_is (runs_through bs l i) (names n)).0 (names_apart n)

module _ (n : ℕ) (bs : List ℤ) (l : Linework) (sound : Sound n l) where
  -- ---- where an edge runs
  eastward : (e : ℕ) → l.turn.held (pos e) ≡ true → home_strip bs l (pos e) ≤ home_strip bs l (neg_ℤ (pos e))
  eastward e h = told_order bs (l.points (pos e)) (l.points (neg_ℤ (pos e))) (sound.1.westward e h)

  -- a halfedge runs through the strip that it starts in
  pub runs_home : (h : ℤ) (i : ℕ) → l.turn.held h ≡ true → home_strip bs l h ≡ i → runs_through bs l i h ≡ true
  runs_home h i held e = and_from _ _ (and_from _ _ held (le-leb _ i (first h held e))) (le-leb i _ (last h held e))
    where
      first : (h : ℤ) → l.turn.held h ≡ true → home_strip bs l h ≡ i → first_strip bs l h ≤ i
      first (pos k) t q = omega arith
      first (negsuc k) t q = let o = eastward (suc k) (sound.0.closed (negsuc k) t) in omega arith

      last : (h : ℤ) → l.turn.held h ≡ true → home_strip bs l h ≡ i → i ≤ last_strip bs l h
      last (pos k) t q = let o = eastward k t in omega arith
      last (negsuc k) t q = omega arith

  -- ---- which names a strip has
  pub runs_held : (i : ℕ) (h : ℤ) → runs_through bs l i h ≡ true → l.turn.held h ≡ true
  runs_held i h e = (and_parts (l.turn.held h) (leb (first_strip bs l h) i) (and_parts _ (leb i (last_strip bs l h)) e).0).0

  pub in_strip : (i : ℕ) (h : ℤ) → runs_through bs l i h ≡ true → h ∈ names_in n bs l i
  unfolding names_in
  in_strip i h e = ((filter_is (runs_through bs l i) (names n)).1 h).1 (in_names n h (held_named n l.turn sound.0 h (runs_held i h e)), true_T _ e)

  pub strip_runs : (i : ℕ) (h : ℤ) → h ∈ names_in n bs l i → runs_through bs l i h ≡ true
  unfolding names_in
  strip_runs i h m = T_true _ (((filter_is (runs_through bs l i) (names n)).1 h).0 m).1

  -- ---- how many
  runs_off : (i : ℕ) (h : ℤ) → l.turn.held h ≡ false → runs_through bs l i h ≡ false
  runs_off i h e = and_left _ (leb i (last_strip bs l h)) (and_left (l.turn.held h) (leb (first_strip bs l h) i) e)

  two_slots : (i e : ℕ) → length (filter (runs_through bs l i) (pos (suc e) ∷ (negsuc e ∷ []))) ≤ slots_of bs l (suc e)
  two_slots i e = go (l.turn.held (pos (suc e))) refl
    where
      go : (b : Bool) → l.turn.held (pos (suc e)) ≡ b → length (filter (runs_through bs l i) (pos (suc e) ∷ (negsuc e ∷ []))) ≤ slots_of bs l (suc e)
      go true t =
          let two : slots_of bs l (suc e) ≡ 2 * suc (apart (first_strip bs l (pos (suc e))) (last_strip bs l (pos (suc e)))) = cond-true _ _ _ t in
          omega (arith, filter_few (runs_through bs l i) (pos (suc e) ∷ (negsuc e ∷ [])))
      go false f =
          omega (
            arith,
            ap₂ (λ a b. length (cond a (pos (suc e) ∷ cond b (negsuc e ∷ []) []) (cond b (negsuc e ∷ []) [])))
                (runs_off i (pos (suc e)) f) (runs_off i (negsuc e) (not_held n l sound (suc e) f).minus),
          )

  -- no more than the edges up to m take
  few_to : (i m : ℕ) → length (filter (runs_through bs l i) (names m)) ≤ slots_taken bs l m
  unfolding names slots_taken
  few_to i zero = omega arith
  few_to i (suc m) =
      omega (
        arith,
        ap length (filter_join (runs_through bs l i) (names m) (pos (suc m) ∷ (negsuc m ∷ []))),
        length-append (filter (runs_through bs l i) (names m)) (filter (runs_through bs l i) (pos (suc m) ∷ (negsuc m ∷ []))),
        few_to i m,
        two_slots i m,
      )

  pub strip_few : (i : ℕ) → length (names_in n bs l i) ≤ slots_taken bs l n
  unfolding names_in
  strip_few i = few_to i n
