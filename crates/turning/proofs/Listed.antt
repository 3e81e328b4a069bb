-- A turning of whole numbers as a turning of the list of the names that it holds.
-- Assumes nothing.
use Rattle.std.proofs.Common.{◌≡◌, ℕ, zero, suc, ◌*◌, ◌<◌, ◌≤◌, true, false, ◌⊎◌, [], ◌∷◌, ◌++◌, length, ℤ, pos, negsuc, neg_ℤ, sym, refl, ap, subst, inl, inr, arith, length-append}
use lib.IntN.{neg_ℤ-neg_ℤ}
use Rattle.std.proofs.lemmas.Int.{ints}
use Rattle.std.proofs.lemmas.Bool.{cases_eq, both_ways}
use Rattle.flat.specs.Orbits.{◌∈◌, Distinct}
use Rattle.flat.specs.Turnings as figure
use Rattle.flat.proofs.Basics.{apart_join, in_left, in_right, in_either, T_true, not_T_false, pigeon}
use Rattle.flat.proofs.Trails.{filter_is}
use Rattle.turning.specs.Turn.{Turn, Lawful}
use Rattle.turning.specs.Counts.{names, holding, listed}
pub use Rattle.flat.proofs.Basics.{true_T}

-- a name of one of the edges 1 to n
abbrev pub Named : ℕ → ℤ → Type 0
Named n (pos k) = (1 ≤ k) × (k ≤ n)
Named n (negsuc k) = (1 ≤ suc k) × (suc k ≤ n)

pub in_names : (n : ℕ) (h : ℤ) → Named n h → h ∈ names n
unfolding names
in_names zero (pos k) p = absurd (omega arith)
in_names zero (negsuc k) p = absurd (omega arith)
in_names (suc n) (pos k) p = go (in_names n (pos k)) (cases_eq k (suc n))
  where
    go : (Named n (pos k) → pos k ∈ names n) → (k ≡ suc n) ⊎ (k ≡ suc n → ⊥) → pos k ∈ names n ++ (pos (suc n) ∷ (negsuc n ∷ []))
    go rec (inl e) = in_right (pos k) (names n) (pos (suc n) ∷ (negsuc n ∷ [])) (inl (ap pos e))
    go rec (inr d) = in_left (pos k) (names n) (pos (suc n) ∷ (negsuc n ∷ [])) (rec (omega arith))
in_names (suc n) (negsuc k) p = go (in_names n (negsuc k)) (cases_eq k n)
  where
    go : (Named n (negsuc k) → negsuc k ∈ names n) → (k ≡ n) ⊎ (k ≡ n → ⊥) → negsuc k ∈ names n ++ (pos (suc n) ∷ (negsuc n ∷ []))
    go rec (inl e) = in_right (negsuc k) (names n) (pos (suc n) ∷ (negsuc n ∷ [])) (inr (inl (ap negsuc e)))
    go rec (inr d) = in_left (negsuc k) (names n) (pos (suc n) ∷ (negsuc n ∷ [])) (rec (omega arith))

named_more : (n : ℕ) (h : ℤ) → Named n h → Named (suc n) h
named_more n (pos k) p = omega arith
named_more n (negsuc k) p = omega arith

pub names_named : (n : ℕ) (h : ℤ) → h ∈ names n → Named n h
unfolding names
names_named zero h m = absurd m
names_named (suc n) h m = go (names_named n h) (in_either h (names n) (pos (suc n) ∷ (negsuc n ∷ [])) m)
  where
    go : (h ∈ names n → Named n h) → (h ∈ names n) ⊎ (h ∈ pos (suc n) ∷ (negsuc n ∷ [])) → Named (suc n) h
    go rec (inl k) = named_more n h (rec k)
    go rec (inr (inl e)) = subst (λ z. Named (suc n) z) (sym e) (omega arith)
    go rec (inr (inr (inl e))) = subst (λ z. Named (suc n) z) (sym e) (omega arith)
    go rec (inr (inr (inr e))) = absurd e

not_named : (n : ℕ) (h : ℤ) → Named n h → (h ∈ pos (suc n) ∷ (negsuc n ∷ [])) → ⊥
not_named n h p (inl e) = let q : Named n (pos (suc n)) = subst (Named n) e p in omega arith
not_named n h p (inr (inl e)) = let q : Named n (negsuc n) = subst (Named n) e p in omega arith
not_named n h p (inr (inr e)) = e

differ : (n : ℕ) → pos (suc n) ≡ negsuc n → ⊥
differ n e = subst side e tt
  where
    side : ℤ → Type 0
    side (pos k) = Unit {0}
    side (negsuc k) = ⊥

pub names_apart : (n : ℕ) → Distinct (names n)
unfolding names
names_apart zero = tt
names_apart (suc n) = apart_join (names n) (pos (suc n) ∷ (negsuc n ∷ [])) (names_apart n) (once, ((λ m. m), tt))
    (λ z m k. not_named n z (names_named n z m) k)
  where
    once : (pos (suc n) ≡ negsuc n) ⊎ ⊥ → ⊥
    once (inl e) = differ n e
    once (inr e) = e

pub names_length : (n : ℕ) → length (names n) ≡ 2 * n
unfolding names
names_length zero = refl
names_length (suc n) = simp length-append (omega (arith, names_length n))

module _ (n : ℕ) (t : Turn) (law : Lawful n t) where
  -- what is held is a name
  pub held_named : (h : ℤ) → t.held h ≡ true → Named n h
  held_named (pos zero) e = absurd (both_ways (t.held (pos 0)) law.no_zero e)
  held_named (pos (suc k)) e = let u = law.high (pos (suc k)) e in omega (arith, ints)
  held_named (negsuc k) e = let u = law.low (negsuc k) e in omega (arith, ints)

  pub in_holding : (h : ℤ) → t.held h ≡ true → h ∈ holding n t
  unfolding holding
  in_holding h e = ((filter_is t.held (names n)).1 h).1 (in_names n h (held_named h e), true_T (t.held h) e)

  pub holding_held : (h : ℤ) → h ∈ holding n t → t.held h ≡ true
  unfolding holding
  holding_held h m = T_true (t.held h) (((filter_is t.held (names n)).1 h).0 m).1

  pub holding_apart : Distinct (holding n t)
  unfolding holding
  holding_apart = (filter_is t.held (names n)).0 (names_apart n)

  -- as many as there are names, at most
  pub holding_length : length (holding n t) ≤ 2 * n
  unfolding holding
  holding_length = omega (arith, names_length n, pigeon (holding n t) (names n) holding_apart (λ z m. (((filter_is t.held (names n)).1 z).0 m).0))

  proper : (h : ℤ) → t.held h ≡ true → ¬ (neg_ℤ h ≡ h)
  proper (pos zero) e d = both_ways (t.held (pos 0)) law.no_zero e
  proper (pos (suc k)) e d = differ k (sym d)
  proper (negsuc k) e d = differ k d

  pub listed_lawful : figure.Lawful neg_ℤ (listed n t)
  listed_lawful = record {
    apart = holding_apart;
    paired = λ h m. in_holding (neg_ℤ h) (law.closed h (holding_held h m));
    twice = λ h m. neg_ℤ-neg_ℤ h;
    proper = λ h m. proper h (holding_held h m);
    ahead = λ h m. in_holding (t.follower h) (law.ahead h (holding_held h m));
    behind = λ h m. in_holding (t.predecessor h) (law.behind h (holding_held h m));
    undone = λ h m. law.undone h (holding_held h m);
    redone = λ h m. law.redone h (holding_held h m);
  }

  -- no name beyond the limit is held
  pub beyond : (e : ℕ) → n < e → (t.held (pos e) ≡ false) × (t.held (neg_ℤ (pos e)) ≡ false)
  beyond e past = (go (pos e) (λ q. let u = law.high (pos e) q in omega (arith, ints)), go (neg_ℤ (pos e)) (λ q. let u = law.low (neg_ℤ (pos e)) q in omega (arith, ints)))
    where
      go : (h : ℤ) → (t.held h ≡ true → ⊥) → t.held h ≡ false
      go h clash = not_T_false _ (λ q. clash (T_true _ q))
