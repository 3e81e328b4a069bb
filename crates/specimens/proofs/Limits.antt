-- What is counted over the names of the edges 1 to n is the same at each limit that no held name lies beyond.
-- So the examples are computed at a small limit. Assumes nothing.
use Rattle.std.proofs.Common.{◌≡◌, ℕ, zero, suc, ◌+◌, ◌<◌, ◌≤◌, Bool, false, cond, not, ◌||◌, List, [], ◌∷◌, ◌++◌, ℤ, pos, negsuc, neg_ℤ, nat_abs, sym, refl, ap, ◌∙◌, ⊎_elim, arith}
use Rattle.std.proofs.lemmas.Bool.{cases_eq, cond-false}
use Rattle.flat.specs.Orbits.{indicator, filter, linked, orbits}
use Rattle.flat.specs.Whole.{equal}
use Rattle.turning.specs.Turn.{Turn, side}
use Rattle.turning.specs.Counts.{names, holding, next, rounds, edges, pieces, same_loop, same_piece}
use Rattle.questions.specs.Counting.{counted}
use Rattle.chart.specs.Linework.{Linework}
use Rattle.strips.specs.Borders.{slots_of, slots_taken}
use Rattle.strips.specs.Seams.{crosses, crossings}
use Rattle.edits.specs.Edits.{may_join}

-- no name of an edge beyond m is held
abbrev pub Bounded : ℕ → Turn → Type 0
Bounded m t = (h : ℤ) → m < nat_abs h → t.held h ≡ false

-- two names at the end of a list that do not pass
filter_none : (p : ℤ → Bool) (xs : List ℤ) (a b : ℤ) → p a ≡ false → p b ≡ false → filter p (xs ++ (a ∷ (b ∷ []))) ≡ filter p xs
filter_none p [] a b e f = cond-false (p a) _ _ e ∙ cond-false (p b) _ _ f
filter_none p (x ∷ xs) a b e f = ap (λ ys. cond (p x) (x ∷ ys) ys) (filter_none p xs a b e f)

pub holding_limit : (m n : ℕ) (t : Turn) → Bounded m t → m ≤ n → holding n t ≡ holding m t
unfolding holding names
holding_limit m zero t few le = let e : zero ≡ m = omega arith in ap (λ k. holding k t) e
holding_limit m (suc n) t few le =
    ⊎_elim
    (λ e. ap (λ k. holding k t) (sym e))
    (λ d. filter_none t.held (names n) (pos (suc n)) (negsuc n) (few (pos (suc n)) (omega arith)) (few (negsuc n) (omega arith)) ∙ holding_limit m n t few (omega arith))
    (cases_eq m (suc n))

module _ (m n : ℕ) (t : Turn) (few : Bounded m t) (le : m ≤ n) where
  rounds_limit : rounds n t ≡ rounds m t
  unfolding rounds
  rounds_limit = ap (orbits equal (t.follower ∷ [])) (holding_limit m n t few le)

  loops_limit : rounds n (side t) ≡ rounds m (side t)
  unfolding rounds
  loops_limit = ap (orbits equal ((side t).follower ∷ [])) (holding_limit m n (side t) few le)

  edges_limit : edges n t ≡ edges m t
  unfolding edges
  edges_limit = ap (orbits equal (neg_ℤ ∷ [])) (holding_limit m n t few le)

  pieces_limit : pieces n t ≡ pieces m t
  unfolding pieces
  pieces_limit = ap (orbits equal (t.follower ∷ (neg_ℤ ∷ []))) (holding_limit m n t few le)

  pub counted_limit : counted n t ≡ counted m t
  counted_limit = simp (rounds_limit, loops_limit, edges_limit, pieces_limit)

  pub may_join_limit : (c d : ℤ) → may_join n t c d ≡ may_join m t c d
  unfolding same_loop same_piece
  may_join_limit c d = ap (λ xs. linked equal (next t ∷ []) xs c d || not (linked equal (t.follower ∷ (neg_ℤ ∷ [])) xs c d)) (holding_limit m n t few le)

-- a sum over the edges that has nothing to add beyond m
sum_limit : (m : ℕ) (part sum : ℕ → ℕ) → ((k : ℕ) → sum (suc k) ≡ part (suc k) + sum k) → ((e : ℕ) → m < e → part e ≡ 0) → (n : ℕ) → m ≤ n → sum n ≡ sum m
sum_limit m part sum more off zero le = let e : zero ≡ m = omega arith in ap sum e
sum_limit m part sum more off (suc n) le =
    ⊎_elim (λ e. ap sum (sym e)) (λ d. omega (arith, more n, off (suc n) (omega arith), sum_limit m part sum more off n (omega arith))) (cases_eq m (suc n))

module _ (m n : ℕ) (l : Linework) (few : Bounded m l.turn) (le : m ≤ n) where
  pub slots_limit : (bs : List ℤ) → slots_taken bs l n ≡ slots_taken bs l m
  unfolding slots_taken
  slots_limit bs = sum_limit m (slots_of bs l) (slots_taken bs l) (λ k. refl) (λ e past. cond-false (l.turn.held (pos e)) _ _ (few (pos e) past)) n le

  pub crossings_limit : (x : ℤ) → crossings x l n ≡ crossings x l m
  unfolding crossings
  crossings_limit x = sum_limit m (λ e. indicator (crosses x l e)) (crossings x l) (λ k. refl) (λ e past. let off = few (pos e) past in simp off) n le
