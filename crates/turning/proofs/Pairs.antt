-- The edges, counted by their positive names.
-- Assumes nothing.
use Rattle.std.proofs.Common.{◌≡◌, ℕ, zero, suc, ◌+◌, ◌*◌, ◌<◌, ◌≤◌, Bool, true, false, cond, ◌⊎◌, List, [], ◌∷◌, ◌++◌, length, map, ℤ, pos, negsuc, neg_ℤ, sym, refl, ap, ◌∙◌, inl, inr, add-one, arith, length-append}
use Rattle.std.specs.List as lists
use Rattle.std.specs.List.{range_with_len}
use Rattle.std.proofs.lemmas.List.FromFn.{filter_of_map_range_with_len_more}
use Rattle.std.proofs.lemmas.Bool.{cases_Bool, both_ways}
use Rattle.flat.specs.Orbits.{filter, indicator}
use Rattle.flat.specs.Whole.{equal}
use Rattle.flat.proofs.Proved.{edges_are_pairs}
use Rattle.flat.proofs.Whole.{equal_is}
use Rattle.turning.specs.Turn.{Turn, Lawful}
use Rattle.turning.specs.Counts.{names, holding, listed, edges}
use Rattle.turning.proofs.Listed.{listed_lawful}

filter_join : (p : ℤ → Bool) (xs ys : List ℤ) → length (filter p (xs ++ ys)) ≡ length (filter p xs) + length (filter p ys)
filter_join p [] ys = omega arith
filter_join p (x ∷ xs) ys = go (p x) (filter_join p xs ys)
  where
    go : (b : Bool) → length (filter p (xs ++ ys)) ≡ length (filter p xs) + length (filter p ys)
        → length (cond b (x ∷ filter p (xs ++ ys)) (filter p (xs ++ ys))) ≡ length (cond b (x ∷ filter p xs) (filter p xs)) + length (filter p ys)
    go true e = omega arith
    go false e = e

pair_length : (p : ℤ → Bool) (a b : ℤ) → length (filter p (a ∷ (b ∷ []))) ≡ indicator (p a) + indicator (p b)
pair_length p a b = go (p a) (p b)
  where
    go : (u v : Bool) → length (cond u (a ∷ cond v (b ∷ []) []) (cond v (b ∷ []) [])) ≡ indicator u + indicator v
    go true true = refl
    go true false = refl
    go false true = refl
    go false false = refl

module _ (n : ℕ) (t : Turn) (law : Lawful n t) where
  both_held : (k : ℕ) → t.held (negsuc k) ≡ t.held (pos (suc k))
  both_held k = go (cases_Bool (t.held (pos (suc k)))) (cases_Bool (t.held (negsuc k)))
    where
      go : (t.held (pos (suc k)) ≡ true) ⊎ (t.held (pos (suc k)) ≡ false) → (t.held (negsuc k) ≡ true) ⊎ (t.held (negsuc k) ≡ false) → t.held (negsuc k) ≡ t.held (pos (suc k))
      go (inl e) _ = law.closed (pos (suc k)) e ∙ sym e
      go (inr e) (inl f) = absurd (both_ways (t.held (pos (suc k))) e (law.closed (negsuc k) f))
      go (inr e) (inr f) = f ∙ sym e

  -- one more edge, if it is held
  pub holding_more : (k : ℕ) → length (holding (suc k) t) ≡ length (holding k t) + 2 * indicator (t.held (pos (suc k)))
  unfolding holding names
  holding_more k =
      filter_join t.held (names k) (pos (suc k) ∷ (negsuc k ∷ []))
      ∙ ap (λ i. length (filter t.held (names k)) + i) (pair_length t.held (pos (suc k)) (negsuc k) ∙ ap (λ b. indicator (t.held (pos (suc k))) + indicator b) (both_held k) ∙ omega arith)

  pub edges_counted : (count : ℕ) → 2 * count ≡ length (holding n t) → count ≡ edges n t
  unfolding edges
  edges_counted count e = omega (arith, e, edges_are_pairs ℤ equal neg_ℤ equal_is (listed n t) (listed_lawful n t law))

holding_none : (t : Turn) → length (holding 0 t) ≡ 0
unfolding holding names
holding_none t = refl

-- what counts one more at each held number counts the edges
pub edges_by_number : (n : ℕ) (t : Turn) → Lawful n t → (count : ℕ → ℕ) → count 0 ≡ 0 → ((k : ℕ) → k < n → count (suc k) ≡ indicator (t.held (pos (suc k))) + count k) → count n ≡ edges n t
edges_by_number n t law count none more = edges_counted n t law (count n) (doubled n (omega arith))
  where
    doubled : (k : ℕ) → k ≤ n → 2 * count k ≡ length (holding k t)
    doubled zero l = omega (arith, none, holding_none t)
    doubled (suc k) l = let m = more k (omega arith) in let h = holding_more n t law k in let d = doubled k (omega arith) in omega arith

same_list : (xs : List ℕ) → map (λ x. x) xs ≡ xs
same_list [] = refl
same_list (x ∷ xs) = ap (λ ys. x ∷ ys) (same_list xs)

one_more : (b : Bool) (x : ℕ) → length (cond b (x ∷ []) []) ≡ indicator b
one_more true x = refl
one_more false x = refl

filtered_more : (p : ℕ → Bool) (n : ℕ) → length (lists.filter p (range_with_len 1 (suc n))) ≡ indicator (p (suc n)) + length (lists.filter p (range_with_len 1 n))
filtered_more p n =
    let more : lists.filter p (range_with_len 1 (suc n)) ≡ lists.filter p (range_with_len 1 n) ++ cond (p (suc n)) (suc n ∷ []) [] =
    ap (lists.filter p) (sym (same_list (range_with_len 1 (suc n))) ∙ ap (λ k. map (λ x. x) (range_with_len 1 k)) (sym (add-one n)))
    ∙ filter_of_map_range_with_len_more p (λ x. x) 1 n (suc n) (omega arith) ∙ ap (λ xs. lists.filter p xs ++ cond (p (suc n)) (suc n ∷ []) []) (same_list (range_with_len 1 n)) in
    let b : length (lists.filter p (range_with_len 1 (suc n))) ≡ length (lists.filter p (range_with_len 1 n)) + indicator (p (suc n)) =
    ap length more ∙ length-append (lists.filter p (range_with_len 1 n)) (cond (p (suc n)) (suc n ∷ []) []) ∙ ap (λ k. length (lists.filter p (range_with_len 1 n)) + k) (one_more (p (suc n)) (suc n)) in
    omega (arith, b)

-- the edges are as many as a test of all numbers lets through
pub edges_filtered : (n : ℕ) (t : Turn) → Lawful n t → (p : ℕ → Bool) → ((k : ℕ) → k ≤ n → p k ≡ t.held (pos k)) → length (lists.filter p (range_with_len 1 n)) ≡ edges n t
edges_filtered n t law p same =
    edges_by_number n t law (λ k. length (lists.filter p (range_with_len 1 k))) refl
    (λ k l. filtered_more p k ∙ ap (λ b. indicator b + length (lists.filter p (range_with_len 1 k))) (same (suc k) (omega arith)))
