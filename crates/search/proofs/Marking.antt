-- Marks: what one more mark changes, and what a walk about a round has marked.
-- Assumes nothing.
use Rattle.std.proofs.Common.{◌≡◌, ℕ, zero, suc, ◌+◌, ◌*◌, ◌<◌, ◌≤◌, true, not, T, eqb, ◌⊎◌, ◌↔◌, List, [], ◌∷◌, length, get_or, set, replicate, ℤ, pos, negsuc, sym, refl, ap, ◌∙◌, subst, inl, inr, arith, get_or-set_other, get_or-set_same, w16, SFits}
use Rattle.std.proofs.lemmas.Int.{ints}
use Rattle.std.proofs.lemmas.List.{length-set}
use Rattle.std.proofs.lemmas.Bool.{cases_eq}
use Rattle.flat.specs.Orbits.{◌∈◌, Reach, iterate, trail}
use Rattle.flat.proofs.Trails.{trail_whole}
use Rattle.turning.specs.Limits.{max_edge}
use Rattle.turning.specs.Turn.{Turn, Lawful}
use Rattle.search.specs.Lengths.{Walked}
use Rattle.search.specs.Marks.{Within, place, marked, Clean, Closed, Spreads}
use Rattle.search.proofs.Walking.{reach_times, walked_start, walked_on, walked_held}

pub name_fits : (z : ℤ) → Within max_edge z → SFits w16 z
name_fits z w = omega (arith, ints, w.low, w.high)

pub held_within : (n : ℕ) (t : Turn) → Lawful n t → (h : ℤ) → t.held h ≡ true → Within n h
held_within n t law h e = record { low = law.low h e; high = law.high h e }

pub place_below : (n : ℕ) (z : ℤ) → Within n z → place n z < 2 * n + 1
place_below n (pos k) w = omega (arith, ints, w.high)
place_below n (negsuc k) w = omega arith

pub place_apart : (n : ℕ) (x z : ℤ) → Within n x → Within n z → place n x ≡ place n z → x ≡ z
place_apart n (pos a) (pos b) v w e = ap pos (omega arith)
place_apart n (pos a) (negsuc b) v w e = absurd (omega (arith, ints, w.low))
place_apart n (negsuc a) (pos b) v w e = absurd (omega (arith, ints, v.low))
place_apart n (negsuc a) (negsuc b) v w e = ap negsuc (omega (arith, ints, v.low, w.low))

at_replicate : (k i : ℕ) → ◌≡◌ {A = ℕ} (get_or (replicate k 0) i 0) 0
at_replicate zero i = refl
at_replicate (suc k) zero = refl
at_replicate (suc k) (suc i) = at_replicate k i

pub unmarked_clean : (n : ℕ) (m : List ℕ) (z : ℤ) → Clean m → ¬ T (marked n m z)
unfolding marked
unmarked_clean n m z c = subst (λ v. ¬ T (not (eqb v 0))) (sym (ap (λ l. get_or l (place n z) 0) c ∙ at_replicate (length m) (place n z))) (λ p. p)

pub clean_closed : (n : ℕ) (t : Turn) (ss : List (ℤ → ℤ)) (m : List ℕ) → Clean m → Closed n t ss m
clean_closed n t ss m c z y e p k = absurd (unmarked_clean n m z c p)

module _ (n : ℕ) (m : List ℕ) (long : length m ≡ 2 * n + 1) (x z : ℤ) (v : Within n x) (w : Within n z) where
  -- one more is marked
  pub marked_set : T (marked n (set m (place n x) 1) z) ↔ (T (marked n m z) ⊎ (z ≡ x))
  unfolding marked
  marked_set = go (cases_eq (place n z) (place n x))
    where
      below : place n x < length m
      below = omega (arith, place_below n x v)

      go : (place n z ≡ place n x) ⊎ (place n z ≡ place n x → ⊥) → T (marked n (set m (place n x) 1) z) ↔ (T (marked n m z) ⊎ (z ≡ x))
      go (inl e) = (
        (λ _. inr (place_apart n z x w v e)),
        λ _. subst (λ a. T (not (eqb a 0))) (sym (ap (λ i. get_or (set m (place n x) 1) i 0) e ∙ get_or-set_same m (place n x) 1 0 below)) tt,
      )
      go (inr d) = ((λ p. inl (subst (λ a. T (not (eqb a 0))) same p)), back)
        where
          same : get_or (set m (place n x) 1) (place n z) 0 ≡ get_or m (place n z) 0
          same = get_or-set_other m (place n x) (place n z) 1 0 d

          back : T (not (eqb (get_or m (place n z) 0) 0)) ⊎ (z ≡ x) → T (not (eqb (get_or (set m (place n x) 1) (place n z) 0) 0))
          back (inl p) = subst (λ a. T (not (eqb a 0))) (sym same) p
          back (inr e) = absurd (d (ap (place n) e))

-- f leads from h to z in fewer than i steps
abbrev pub Over : (ℤ → ℤ) → ℤ → ℕ → ℤ → Type 0
Over f h i z = (j : ℕ) × (j < i) × (z ≡ iterate j f h)

on_trail : (f : ℤ → ℤ) (h z : ℤ) (k : ℕ) → z ∈ trail k f h → (j : ℕ) × (j ≤ k) × (z ≡ iterate j f h)
on_trail f h z zero (inl e) = (0, omega arith, e)
on_trail f h z zero (inr e) = absurd e
on_trail f h z (suc k) (inl e) = (suc k, omega arith, e)
on_trail f h z (suc k) (inr m) =
    let r : (j : ℕ) × (j ≤ k) × (z ≡ iterate j f h) = on_trail f h z k m in
    let l : r.0 ≤ k = r.1 in
    (r.0, omega arith, r.2)

pub over_none : (f : ℤ → ℤ) (h z : ℤ) → Over f h 0 z → ⊥
over_none f h z o = let l : o.0 < 0 = o.1 in omega arith

pub over_more : (f : ℤ → ℤ) (h x z : ℤ) (i : ℕ) → Walked f h x i → Over f h (i + 1) z ↔ (Over f h i z ⊎ (z ≡ x))
over_more f h x z i w = (there, back)
  where
    there : Over f h (i + 1) z → Over f h i z ⊎ (z ≡ x)
    there (j, l, e) = go (cases_eq j i)
      where
        go : (j ≡ i) ⊎ (j ≡ i → ⊥) → Over f h i z ⊎ (z ≡ x)
        go (inl s) = inr (e ∙ ap (λ k. iterate k f h) s ∙ sym w.at)
        go (inr d) = inl (j, omega arith, e)

    back : Over f h i z ⊎ (z ≡ x) → Over f h (i + 1) z
    back (inl (j, l, e)) = (j, omega arith, e)
    back (inr e) = (i, omega arith, e ∙ w.at)

-- back at h, the walk has met all that it can reach
pub over_round : (f : ℤ → ℤ) (h x z : ℤ) (i : ℕ) → Walked f h x i → f x ≡ h → Over f h (i + 1) z ↔ Reach (f ∷ []) h z
over_round f h x z i w back = (
  (λ o. subst (λ y. Reach (f ∷ []) h y) (sym o.2) (reach_times f h o.0)),
  λ p. let r : (j : ℕ) × (j ≤ i) × (z ≡ iterate j f h) = on_trail f h z i ((trail_whole f h i (sym (ap f w.at) ∙ back) z).1 p) in
      let l : r.0 ≤ i = r.1 in (r.0, omega arith, r.2),
)

-- a walk about the round of h, x so many steps from it, with all before x marked
pub record Rounding (n : ℕ) (t : Turn) (h x : ℤ) (i : ℕ) (m₀ m : List ℕ) : Type 0 where
  pub walk : Walked t.follower h x i
  pub long : length m ≡ 2 * n + 1
  pub marks : (z : ℤ) → t.held z ≡ true → T (marked n m z) ↔ (T (marked n m₀ z) ⊎ Over t.follower h i z)

pub rounding_none : (n : ℕ) (t : Turn) (h : ℤ) (m : List ℕ) → length m ≡ 2 * n + 1 → Rounding n t h h 0 m m
rounding_none n t h m long = record { walk = walked_start t.follower h; long = long; marks = λ z e. (inl, back z) }
  where
    back : (z : ℤ) → T (marked n m z) ⊎ Over t.follower h 0 z → T (marked n m z)
    back z (inl p) = p
    back z (inr o) = absurd (over_none t.follower h z o)

module _ (n : ℕ) (t : Turn) (law : Lawful n t) (h x : ℤ) (i : ℕ) (m₀ m : List ℕ) (e : t.held h ≡ true) (r : Rounding n t h x i m₀ m) where
  pub rounding_held : t.held x ≡ true
  rounding_held = walked_held n t law h e x i r.walk

  -- x marked too
  marked_on : (z : ℤ) → t.held z ≡ true → T (marked n (set m (place n x) 1) z) ↔ (T (marked n m₀ z) ⊎ Over t.follower h (i + 1) z)
  marked_on z k = ((λ p. there (one.0 p)), back)
    where
      one : T (marked n (set m (place n x) 1) z) ↔ (T (marked n m z) ⊎ (z ≡ x))
      one = marked_set n m r.long x z (held_within n t law x rounding_held) (held_within n t law z k)

      more : Over t.follower h (i + 1) z ↔ (Over t.follower h i z ⊎ (z ≡ x))
      more = over_more t.follower h x z i r.walk

      there : T (marked n m z) ⊎ (z ≡ x) → T (marked n m₀ z) ⊎ Over t.follower h (i + 1) z
      there (inr q) = inr (more.1 (inr q))
      there (inl p) = go ((r.marks z k).0 p)
        where
          go : T (marked n m₀ z) ⊎ Over t.follower h i z → T (marked n m₀ z) ⊎ Over t.follower h (i + 1) z
          go (inl q) = inl q
          go (inr o) = inr (more.1 (inl o))

      back : T (marked n m₀ z) ⊎ Over t.follower h (i + 1) z → T (marked n (set m (place n x) 1) z)
      back (inl p) = one.1 (inl ((r.marks z k).1 (inl p)))
      back (inr o) = go (more.0 o)
        where
          go : Over t.follower h i z ⊎ (z ≡ x) → T (marked n (set m (place n x) 1) z)
          go (inl q) = one.1 (inl ((r.marks z k).1 (inr q)))
          go (inr q) = one.1 (inr q)

  pub rounding_on : ¬ (t.follower x ≡ h) → Rounding n t h (t.follower x) (i + 1) m₀ (set m (place n x) 1)
  rounding_on d = record { walk = walked_on t.follower h x i r.walk d; long = length-set m (place n x) 1 ∙ r.long; marks = marked_on }

  pub rounding_back : t.follower x ≡ h → Spreads n t (t.follower ∷ []) h m₀ (set m (place n x) 1)
  rounding_back b z k = ((λ p. there ((marked_on z k).0 p)), λ p. (marked_on z k).1 (back p))
    where
      whole : Over t.follower h (i + 1) z ↔ Reach (t.follower ∷ []) h z
      whole = over_round t.follower h x z i r.walk b

      there : T (marked n m₀ z) ⊎ Over t.follower h (i + 1) z → T (marked n m₀ z) ⊎ Reach (t.follower ∷ []) h z
      there (inl p) = inl p
      there (inr o) = inr (whole.0 o)

      back : T (marked n m₀ z) ⊎ Reach (t.follower ∷ []) h z → T (marked n m₀ z) ⊎ Over t.follower h (i + 1) z
      back (inl p) = inl p
      back (inr o) = inr (whole.1 o)
