-- The tests of a turning tell whether there is a walk, and the loops are the rounds of the loop side.
-- Assumes nothing.
use Rattle.std.proofs.Common.{◌≡◌, ℕ, ◌+◌, ◌*◌, true, T, ◌↔◌, List, [], ◌∷◌, length, ℤ, pos, neg_ℤ, sym, refl, ap, ◌∙◌, subst, ap₂, inl, inr}
use mathlib.Core.Path.{fun_ext}
use Rattle.std.proofs.lemmas.Bool.{cond-true}
use Rattle.flat.specs.Orbits.{◌∈◌, Reach, stay, walk, ClosedUnder, linked, orbits, filter}
use Rattle.flat.specs.Turnings as figure
use Rattle.flat.specs.Whole.{equal}
use Rattle.flat.proofs.Basics.{T_same}
use Rattle.flat.proofs.Walks.{linked_walk, walk_linked, stays}
use Rattle.flat.proofs.Counts.{Fair, orbits_same}
use Rattle.flat.proofs.Splice.{Perm, perm_fair}
use Rattle.flat.proofs.Turns.{perm_follower, perm_next, fair_pieces}
use Rattle.flat.proofs.Whole.{equal_is}
use Rattle.turning.specs.Turn.{Turn, Lawful, side}
use Rattle.turning.specs.Sides.{side_lawful}
use Rattle.turning.specs.Counts.{holding, listed, next, SameRound, SameLoop, SamePiece, same_round, same_loop, same_piece, rounds, edges, pieces, Flat, round_length, loop_length}
use Rattle.turning.proofs.Listed.{in_holding, holding_held, listed_lawful}

-- steps that agree on names that the first keeps lead to the same names
pub reach_agree : (held : List ℤ) (f g : ℤ → ℤ) → ((z : ℤ) → z ∈ held → f z ∈ held) → ((z : ℤ) → z ∈ held → f z ≡ g z)
    → {x y : ℤ} → x ∈ held → Reach (f ∷ []) x y → Reach (g ∷ []) x y
reach_agree held f g k a m stay = stay
reach_agree held f g k a m (walk {x = x} {y = y} (inl e) p) =
    walk (inl (e ∙ a x m)) (reach_agree held f g k a (subst (λ z. z ∈ held) (sym e) (k x m)) p)
reach_agree held f g k a m (walk (inr e) p) = absurd e

module _ (n : ℕ) (t : Turn) (law : Lawful n t) where
  pub follower_perm : Perm equal equal_is t.follower (holding n t)
  follower_perm = perm_follower equal equal_is neg_ℤ (listed n t) (listed_lawful n t law)

  pub follower_fair : Fair equal equal_is (t.follower ∷ []) (holding n t)
  follower_fair = perm_fair equal equal_is t.follower (holding n t) follower_perm

  next_perm : Perm equal equal_is (next t) (holding n t)
  next_perm = perm_next equal equal_is neg_ℤ (listed n t) (listed_lawful n t law)

  pub next_fair : Fair equal equal_is (next t ∷ []) (holding n t)
  next_fair = perm_fair equal equal_is (next t) (holding n t) next_perm

  pub piece_fair : Fair equal equal_is (t.follower ∷ (neg_ℤ ∷ [])) (holding n t)
  piece_fair = fair_pieces equal equal_is neg_ℤ (listed n t) (listed_lawful n t law)

  tested : (ss : List (ℤ → ℤ)) → ClosedUnder ss (holding n t) → (h k : ℤ) → t.held h ≡ true → T (linked equal ss (holding n t) h k) ↔ Reach ss h k
  tested ss kept h k e = (linked_walk equal equal_is ss (holding n t) kept h k (in_holding n t law h e), walk_linked equal equal_is ss (holding n t) kept h k (in_holding n t law h e))

  pub round_walk : (h k : ℤ) → t.held h ≡ true → T (same_round n t h k) ↔ SameRound t h k
  unfolding same_round
  round_walk = tested (t.follower ∷ []) follower_fair.0

  pub loop_walk : (h k : ℤ) → t.held h ≡ true → T (same_loop n t h k) ↔ SameLoop t h k
  unfolding same_loop
  loop_walk = tested (next t ∷ []) next_fair.0

  pub piece_walk : (h k : ℤ) → t.held h ≡ true → T (same_piece n t h k) ↔ SamePiece t h k
  unfolding same_piece
  piece_walk = tested (t.follower ∷ (neg_ℤ ∷ [])) piece_fair.0

  -- what a walk reaches is held
  pub round_held : (h k : ℤ) → t.held h ≡ true → SameRound t h k → t.held k ≡ true
  round_held h k e p = holding_held n t law k (stays (holding n t) follower_fair.0 (in_holding n t law h e) p)

  pub piece_held : (h k : ℤ) → t.held h ≡ true → SamePiece t h k → t.held k ≡ true
  piece_held h k e p = holding_held n t law k (stays (holding n t) piece_fair.0 (in_holding n t law h e) p)

  -- ---- the loop side
  turned : (z : ℤ) → z ∈ holding n t → (side t).follower z ≡ next t z
  turned z m = cond-true (t.held z) (t.predecessor (neg_ℤ z)) (pos 0) (holding_held n t law z m)

  kept : (z : ℤ) → z ∈ holding n t → (side t).follower z ∈ holding n t
  kept z m = subst (λ w. w ∈ holding n t) (sym (turned z m)) (next_perm.0 z m)

  pub side_loop : (h k : ℤ) → t.held h ≡ true → SameRound (side t) h k → SameLoop t h k
  side_loop h k e p = reach_agree (holding n t) (side t).follower (next t) kept turned (in_holding n t law h e) p

  pub loop_side : (h k : ℤ) → t.held h ≡ true → SameLoop t h k → SameRound (side t) h k
  loop_side h k e p = reach_agree (holding n t) (next t) (side t).follower next_perm.0 (λ z m. sym (turned z m)) (in_holding n t law h e) p

  pub holding_side : holding n (side t) ≡ holding n t
  unfolding holding
  holding_side = refl

pub side_test : (n : ℕ) (t : Turn) (law : Lawful n t) (h k : ℤ) → t.held h ≡ true → same_round n (side t) h k ≡ same_loop n t h k
side_test n t law h k e = T_same (same_round n (side t) h k) (same_loop n t h k)
    (λ p. (loop_walk n t law h k e).1 (side_loop n t law h k e ((round_walk n (side t) (side_lawful n t law) h k e).0 p)))
    (λ p. (round_walk n (side t) (side_lawful n t law) h k e).1 (loop_side n t law h k e ((loop_walk n t law h k e).0 p)))

-- the loops, counted as rounds of the loop side, are the loops of the list's turning
pub loops_listed : (n : ℕ) (t : Turn) (law : Lawful n t) → rounds n (side t) ≡ figure.loops neg_ℤ equal (listed n t)
unfolding rounds
loops_listed n t law =
    ap (λ xs. orbits equal ((side t).follower ∷ []) xs) (holding_side n t law)
    ∙ orbits_same equal equal_is (holding n t) ((side t).follower ∷ []) (next t ∷ []) keeps (next_fair n t law).0
    (λ x y m p. loop_side n t law x y (holding_held n t law x m) p) (λ x y m p. side_loop n t law x y (holding_held n t law x m) p)
  where
    keeps : ClosedUnder ((side t).follower ∷ []) (holding n t)
    keeps x y m (inl e) = subst (λ w. w ∈ holding n t) (sym e) (kept n t law x m)
    keeps x y m (inr e) = absurd e

-- a turning is flat just where the list's turning is
pub flat_listed : (n : ℕ) (t : Turn) → Lawful n t → Flat n t ↔ figure.Flat neg_ℤ equal (listed n t)
unfolding rounds edges pieces
flat_listed n t law = (
  subst (λ l. figure.rounds neg_ℤ equal (listed n t) + l ≡ figure.edges neg_ℤ equal (listed n t) + 2 * figure.pieces neg_ℤ equal (listed n t)) (loops_listed n t law),
  subst (λ l. figure.rounds neg_ℤ equal (listed n t) + l ≡ figure.edges neg_ℤ equal (listed n t) + 2 * figure.pieces neg_ℤ equal (listed n t)) (sym (loops_listed n t law)),
)

-- the loop of h is its round on the loop side
pub side_length : (n : ℕ) (t : Turn) (law : Lawful n t) (h : ℤ) → t.held h ≡ true → round_length n (side t) h ≡ loop_length n t h
unfolding round_length loop_length
side_length n t law h e = ap₂ (λ p xs. length (filter p xs)) (fun_ext (λ k. side_test n t law h k e)) (holding_side n t law)
