-- A loop that carries out one element after another, in place.
-- Assumes nothing.
use Rattle.std.proofs.Common.{◌≡◌, ℕ, ◌+◌, ◌<◌, ◌≤◌, List, [], ◌∷◌, ◌++◌, length, get_or, take, drop, set, sym, ap, ◌∙◌, add-zero, arith, get_or-drop, take_all, drop-drop, drop-set-lt}
use Rattle.std.proofs.lemmas.List.{take_more, take_more_set}
use Rattle.runs.specs.Chains.{Chain, over, then}

module _ {M X : Type 0} (Step : M → X → X → M → Type 0) where
  -- one step more at the end
  pub chain_push : {m m₁ m₂ : M} {xs ys : List X} {x y : X} → Chain Step m xs ys m₁ → Step m₁ x y m₂ → Chain Step m (xs ++ (x ∷ [])) (ys ++ (y ∷ [])) m₂
  chain_push over h = then h over
  chain_push (then s r) h = then s (chain_push r h)

  -- what holds as the loop comes to i: what is to come is as it was, and what is past is a run
  abbrev pub SoFar : M → List X → List X → M → ℕ → Type 0
  SoFar m xs ys m₁ i = (drop i ys ≡ drop i xs) × Chain Step m (take i xs) (take i ys) m₁

  pub chain_more : (m : M) (xs ys : List X) (m₁ : M) (i : ℕ) (d y : X) (m₂ : M) → length ys ≡ length xs → i < length xs → SoFar m xs ys m₁ i → Step m₁ (get_or ys i d) y m₂ → SoFar m xs (set ys i y) m₂ (i + 1)
  chain_more m xs ys m₁ i d y m₂ long within (same, run) step =
      let within' : i < length ys = omega arith in
      let rest : drop (i + 1) (set ys i y) ≡ drop (i + 1) xs =
      drop-set-lt (i + 1) ys i y (omega arith) ∙ sym (drop-drop 1 i ys) ∙ ap (drop 1) same ∙ drop-drop 1 i xs in
      let here : get_or xs i d ≡ get_or ys i d =
      ap (λ k. get_or xs k d) (sym (add-zero i)) ∙ sym (get_or-drop i xs 0 d) ∙ ap (λ l. get_or l 0 d) (sym same) ∙ get_or-drop i ys 0 d ∙ ap (λ k. get_or ys k d) (add-zero i) in
      let before : take (i + 1) xs ≡ take i xs ++ (get_or ys i d ∷ []) = take_more xs i d within ∙ ap (λ k. take i xs ++ (k ∷ [])) here in
      let after : take (i + 1) (set ys i y) ≡ take i ys ++ (y ∷ []) = take_more_set ys i y within' in
      (rest, rw (before, after) (chain_push run step))

  pub chain_all : (m : M) (xs ys : List X) (m₁ : M) (i : ℕ) → length ys ≡ length xs → length xs ≤ i → SoFar m xs ys m₁ i → Chain Step m xs ys m₁
  chain_all m xs ys m₁ i long past (same, run) =
      let long' : length ys ≤ i = omega arith in
      rw (take_all i xs past, take_all i ys long') at run

  -- what each step keeps holds after each step, if it holds at the start
  pub chain_keeps : (P : M → Type 0) → ((m : M) (x y : X) (m' : M) → Step m x y m' → P m → P m') → {m m' : M} {xs ys : List X} → P m → Chain Step m xs ys m' → Chain (λ m x y m'. Step m x y m' × P m') m xs ys m'
  chain_keeps P keep p over = over
  chain_keeps P keep p (then s r) = then (s, keep _ _ _ _ s p) (chain_keeps P keep (keep _ _ _ _ s p) r)
