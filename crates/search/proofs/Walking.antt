-- A walk about one round, as code takes it: where it stands, that it ends, and what it has met when it is back.
-- Assumes nothing.
use Rattle.std.proofs.Common.{◌≡◌, ℕ, zero, suc, ◌+◌, ◌*◌, ◌<◌, ◌≤◌, true, ◌⊎◌, ◌↔◌, List, [], ◌∷◌, length, ℤ, is_some, Some, None, Option, sym, refl, ap, ◌∙◌, subst, inl, inr, le_antisymm, add-one, arith}
use Rattle.std.proofs.lemmas.Bool.{cases_eq}
use Rattle.flat.specs.Orbits.{◌∈◌, Distinct, Reach, stay, iterate, trail, filter}
use Rattle.flat.proofs.Basics.{pigeon, T_true, not_T_false}
use Rattle.flat.proofs.Walks.{stays, follow, one}
use Rattle.flat.proofs.Trails.{trail_apart, trail_whole, filter_is}
use Rattle.turning.specs.Turn.{Turn, Lawful}
use Rattle.turning.specs.Counts.{holding, same_round}
use Rattle.turning.specs.Counts.{round_length}
use Rattle.search.specs.Lengths.{Walked, Steps}
use Rattle.turning.proofs.Listed.{in_holding, holding_apart, holding_length}
use Rattle.turning.proofs.Tests.{follower_perm, follower_fair, round_walk}

pub walked_start : (f : ℤ → ℤ) (h : ℤ) → Walked f h h 0
walked_start f h = record { at = refl; fresh = λ j p q. absurd (omega arith) }

pub walked_on : (f : ℤ → ℤ) (h x : ℤ) (m : ℕ) → Walked f h x m → ¬ (f x ≡ h) → Walked f h (f x) (m + 1)
walked_on f h x m w d = subst (λ i. Walked f h (f x) i) (sym (add-one m)) (record { at = ap f w.at; fresh = fresh })
  where
    fresh : (j : ℕ) → 1 ≤ j → j ≤ suc m → ¬ (iterate j f h ≡ h)
    fresh j p q e = go (cases_eq j (suc m))
      where
        go : (j ≡ suc m) ⊎ (j ≡ suc m → ⊥) → ⊥
        go (inl s) = d (ap f w.at ∙ sym (ap (λ i. iterate i f h) s) ∙ e)
        go (inr s) = w.fresh j p (omega arith) e

-- what no step of the trail is, is not on it
pub off_trail : (f : ℤ → ℤ) (h k : ℤ) (m : ℕ) → ((j : ℕ) → j ≤ m → ¬ (iterate j f h ≡ k)) → ¬ (k ∈ trail m f h)
off_trail f h k zero d (inl e) = d 0 (omega arith) (sym e)
off_trail f h k zero d (inr e) = e
off_trail f h k (suc m) d (inl e) = d (suc m) (omega arith) (sym e)
off_trail f h k (suc m) d (inr p) = off_trail f h k m (λ j q. d j (omega arith)) p

length_trail : (f : ℤ → ℤ) (h : ℤ) (m : ℕ) → length (trail m f h) ≡ suc m
length_trail f h zero = refl
length_trail f h (suc m) = ap suc (length_trail f h m)

-- back at h after the walk, and k not met: k lies elsewhere
pub walked_past : (f : ℤ → ℤ) (h x k : ℤ) (m : ℕ) → Walked f h x m → f x ≡ h → ((j : ℕ) → j ≤ m → ¬ (iterate j f h ≡ k)) → ¬ Reach (f ∷ []) h k
walked_past f h x k m w back d p = off_trail f h k m d ((trail_whole f h m (sym (ap f w.at) ∙ back) k).1 p)

module _ (n : ℕ) (t : Turn) (law : Lawful n t) (h : ℤ) (e : t.held h ≡ true) where
  times_held : (j : ℕ) → t.held (iterate j t.follower h) ≡ true
  times_held zero = e
  times_held (suc j) = law.ahead (iterate j t.follower h) (times_held j)

  pub walked_held : (x : ℤ) (m : ℕ) → Walked t.follower h x m → t.held x ≡ true
  walked_held x m w = subst (λ z. t.held z ≡ true) (sym w.at) (times_held m)

  trail_good : (x : ℤ) (m : ℕ) → Walked t.follower h x m → Distinct (trail m t.follower h) × (m < length (holding n t))
  trail_good x m w = trail_apart t.follower (holding n t) (follower_perm n t law).0 (follower_perm n t law).1 h (in_holding n t law h e) m w.fresh

  -- fewer steps than there are names
  pub walked_few : (x : ℤ) (m : ℕ) → Walked t.follower h x m → m < 2 * n
  walked_few x m w = omega (arith, (trail_good x m w).1, holding_length n t law)

  -- back at h, the walk has met the whole round
  pub walked_round : (x : ℤ) (m : ℕ) → Walked t.follower h x m → t.follower x ≡ h → m + 1 ≡ round_length n t h
  unfolding round_length
  walked_round x m w back = add-one m ∙ sym (length_trail t.follower h m) ∙ le_antisymm
      (pigeon (trail m t.follower h) those (trail_good x m w).0 (λ z p. ((filter_is (same_round n t h) (holding n t)).1 z).1
      (stays (holding n t) (follower_fair n t law).0 (in_holding n t law h e) ((whole z).0 p), (round_walk n t law h z e).1 ((whole z).0 p))))
      (pigeon those (trail m t.follower h) ((filter_is (same_round n t h) (holding n t)).0 (holding_apart n t law))
      (λ z p. (whole z).1 ((round_walk n t law h z e).0 (((filter_is (same_round n t h) (holding n t)).1 z).0 p).1)))
    where
      those : List ℤ
      those = filter (same_round n t h) (holding n t)

      whole : (z : ℤ) → (z ∈ trail m t.follower h) ↔ Reach (t.follower ∷ []) h z
      whole = trail_whole t.follower h m (sym (ap t.follower w.at) ∙ back)

-- k is not met up to where the walk stands
module _ (f : ℤ → ℤ) (h k x : ℤ) (m : ℕ) (w : Walked f h x m) (past : (j : ℕ) → j < m → ¬ (iterate j f h ≡ k)) (d : ¬ (x ≡ k)) where
  pub past_more : (j : ℕ) → j < m + 1 → ¬ (iterate j f h ≡ k)
  past_more j l e = go (cases_eq j m)
    where
      go : (j ≡ m) ⊎ (j ≡ m → ⊥) → ⊥
      go (inl s) = d (w.at ∙ sym (ap (λ i. iterate i f h) s) ∙ e)
      go (inr s) = past j (omega arith) e

  pub past_all : (j : ℕ) → j ≤ m → ¬ (iterate j f h ≡ k)
  past_all j l = past_more j (omega arith)

pub reach_times : (f : ℤ → ℤ) (h : ℤ) (m : ℕ) → Reach (f ∷ []) h (iterate m f h)
reach_times f h zero = stay
reach_times f h (suc m) = follow (reach_times f h m) (one (inl refl))

-- steps are found just where the two share a round
pub steps_tell : (n : ℕ) (t : Turn) (law : Lawful n t) (h k : ℤ) → t.held h ≡ true → (o : Option ℕ) → Steps t.follower h k o → is_some o ≡ same_round n t h k
steps_tell n t law h k e (Some m) w = sym (T_true (same_round n t h k)
    ((round_walk n t law h k e).1 (subst (λ z. Reach (t.follower ∷ []) h z) (sym w.at) (reach_times t.follower h m))))
steps_tell n t law h k e None d = sym (not_T_false (same_round n t h k) (λ p. d ((round_walk n t law h k e).0 p)))
