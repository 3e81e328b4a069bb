-- The theorems of specs/Words.antt.
-- Assumes nothing.
use Rattle.std.proofs.Common.{◌≡◌, ℕ, Bool, true, T, ◌↔◌, List, [], ◌∷◌, length, ℤ, pos, neg_ℤ, sym, refl, ap, ◌∙◌, subst, inl, inr}
use lib.IntN.{neg_ℤ-neg_ℤ}
use Rattle.std.proofs.lemmas.Bool.{cond-true}
use Rattle.flat.specs.Orbits.{◌∈◌, Reach, stay, walk, Unrelated, orbits}
use Rattle.flat.specs.Whole.{equal}
use Rattle.flat.proofs.Reps.{orbits_counted, some_reps}
use Rattle.flat.proofs.Counts.{Fair}
use Rattle.flat.proofs.Flats.{piece_back}
use Rattle.flat.proofs.Splice.{perm_fair}
use Rattle.flat.proofs.Turns.{round_piece, perm_neg}
use Rattle.flat.proofs.Walks.{follow, one, images, in_images, images_in, length_images}
use Rattle.flat.proofs.Whole.{equal_is}
use Rattle.turning.specs.Turn.{Turn, Lawful, side}
use Rattle.turning.specs.Sides.{side_lawful}
use Rattle.turning.specs.Counts.{holding, listed, next, SameRound, SameLoop, SamePiece, same_piece, rounds, edges, loops, pieces}
use Rattle.turning.specs.Words.{TestsTell, Sharing, Piece, SameEdge, Counted}
use Rattle.turning.proofs.Listed.{in_holding, holding_held, listed_lawful}
use Rattle.turning.proofs.Tests.{follower_fair, follower_perm, next_fair, piece_fair, round_walk, loop_walk, piece_walk, piece_held, holding_side, loops_listed}

pub tests_tell : TestsTell
tests_tell n t law h k e = (round_walk n t law h k e, loop_walk n t law h k e, piece_walk n t law h k e)

-- ---- pieces
module _ (n : ℕ) (t : Turn) (law : Lawful n t) where
  -- a set that has with each name all that it shares a vertex or an edge with has the whole piece
  along : (S : ℤ → Bool) → Sharing t S → {y z : ℤ} → T (S y) → SamePiece t y z → T (S z)
  along S s q stay = q
  along S s q (walk {x = y} (inl f) w) = along S s (subst (λ v. T (S v)) (sym f) (s.shared y (t.follower y) (one (inl refl)) q)) w
  along S s q (walk {x = y} (inr (inl f)) w) = along S s (subst (λ v. T (S v)) (sym f) (s.whole y q)) w
  along S s q (walk (inr (inr f)) w) = absurd f

  module _ (h : ℤ) (e : t.held h ≡ true) where
    way : (k : ℤ) → T (same_piece n t h k) → SamePiece t h k
    way k = (piece_walk n t law h k e).0

    found : (k : ℤ) → SamePiece t h k → T (same_piece n t h k)
    found k = (piece_walk n t law h k e).1

    piece_sharing : Sharing t (same_piece n t h)
    piece_sharing = record {
      within = λ k p. piece_held n t law h k e (way k p);
      whole = λ k p. found (neg_ℤ k) (follow (way k p) (one (inr (inl refl))));
      shared = λ j k r p. found k (follow (way j p) (round_piece equal equal_is neg_ℤ (listed n t) (listed_lawful n t law) r));
    }

    piece_of : Piece t (same_piece n t h)
    piece_of = record {
      sharing = piece_sharing;
      some = (h, found h stay);
      smallest = λ R s o inside k p.
          let back = piece_back equal equal_is neg_ℤ (listed n t) (listed_lawful n t law) (in_holding n t law h e) (way o.0 (inside o.0 o.1)) in
          along R s o.1 (follow back (way k p));
    }

    pub piece_is : Piece t (same_piece n t h) × T (same_piece n t h h) × ((S : ℤ → Bool) → Piece t S → T (S h) → (k : ℤ) → T (S k) ↔ T (same_piece n t h k))
    piece_is = (
      piece_of,
      found h stay,
      λ S s q k. (
        s.smallest (same_piece n t h) piece_sharing (h, found h stay) (λ j p. along S s.sharing q (way j p)) k,
        λ p. along S s.sharing q (way k p),
      ),
    )

-- ---- counts
module _ (n : ℕ) (t : Turn) (law : Lawful n t) where
  counted : (ss : List (ℤ → ℤ)) → Fair equal equal_is ss (holding n t) → Counted t (Reach ss) (orbits equal ss (holding n t))
  counted ss fair = (
    (o.0, record { within = λ z m. holding_held n t law z (o.2 z m); unrelated = o.3; covering = λ x e. o.4 x (in_holding n t law x e) }),
    λ ys c. orbits_counted equal equal_is ss (holding n t) fair ys (λ z m. in_holding n t law z (c.within z m)) c.unrelated (λ x m. c.covering x (holding_held n t law x m)),
  )
    where
      o : (ys : List ℤ) × (length ys ≡ orbits equal ss (holding n t)) × ((z : ℤ) → z ∈ ys → z ∈ holding n t) × Unrelated (Reach ss) ys × ((x : ℤ) → x ∈ holding n t → (y : ℤ) × (y ∈ ys) × Reach ss x y)
      o = some_reps equal equal_is ss (holding n t) fair

  edge_fair : Fair equal equal_is (neg_ℤ ∷ []) (holding n t)
  edge_fair = perm_fair equal equal_is neg_ℤ (holding n t) (perm_neg equal equal_is neg_ℤ (listed n t) (listed_lawful n t law))

  pub counts_are : Counted t (SameRound t) (rounds n t) × Counted t SameEdge (edges n t) × Counted t (SameLoop t) (loops n t) × Counted t (SamePiece t) (pieces n t)
  unfolding rounds edges pieces
  counts_are = (
    counted (t.follower ∷ []) (follower_fair n t law),
    counted (neg_ℤ ∷ []) edge_fair,
    subst (Counted t (SameLoop t)) (sym (loops_listed n t law)) (counted (next t ∷ []) (next_fair n t law)),
    counted (t.follower ∷ (neg_ℤ ∷ [])) (piece_fair n t law),
  )

-- ---- the loop side of the loop side
-- a walk by f, seen through negation, is a walk by g
mirrored : (held : List ℤ) (f g : ℤ → ℤ) → ((z : ℤ) → z ∈ held → f z ∈ held) → ((z : ℤ) → z ∈ held → g (neg_ℤ z) ≡ neg_ℤ (f z))
    → {x y : ℤ} → x ∈ held → Reach (f ∷ []) x y → Reach (g ∷ []) (neg_ℤ x) (neg_ℤ y)
mirrored held f g k a m stay = stay
mirrored held f g k a m (walk {x = x} {y = y} (inl e) p) =
    walk (inl (ap neg_ℤ e ∙ sym (a x m))) (mirrored held f g k a (subst (λ z. z ∈ held) (sym e) (k x m)) p)
mirrored held f g k a m (walk (inr e) p) = absurd e

module _ (n : ℕ) (t : Turn) (law : Lawful n t) where
  f : ℤ → ℤ
  f = t.follower

  g : ℤ → ℤ
  g = (side (side t)).follower

  both : Lawful n (side (side t))
  both = side_lawful n (side t) (side_lawful n t law)

  same : holding n (side (side t)) ≡ holding n t
  same = holding_side n (side t) (side_lawful n t law) ∙ holding_side n t law

  g_keeps : (z : ℤ) → z ∈ holding n t → g z ∈ holding n t
  unfolding g
  g_keeps z m = in_holding n t law ((side (side t)).follower z) (both.ahead z (holding_held n t law z m))

  to : (z : ℤ) → z ∈ holding n t → g (neg_ℤ z) ≡ neg_ℤ (f z)
  unfolding f g
  to z m =
      cond-true (t.held (neg_ℤ z)) ((side t).predecessor (neg_ℤ (neg_ℤ z))) (pos 0) (law.closed z (holding_held n t law z m))
      ∙ ap (side t).predecessor (neg_ℤ-neg_ℤ z) ∙ cond-true (t.held z) (neg_ℤ (t.follower z)) (pos 0) (holding_held n t law z m)

  from : (z : ℤ) → z ∈ holding n t → f (neg_ℤ z) ≡ neg_ℤ (g z)
  unfolding f g
  from z m =
      let k : neg_ℤ z ∈ holding n t = in_holding n t law (neg_ℤ z) (law.closed z (holding_held n t law z m)) in
      sym (neg_ℤ-neg_ℤ (f (neg_ℤ z))) ∙ ap neg_ℤ (sym (to (neg_ℤ z) k) ∙ ap g (neg_ℤ-neg_ℤ z))

  neg_in : (z : ℤ) → z ∈ holding n t → neg_ℤ z ∈ holding n t
  neg_in z m = in_holding n t law (neg_ℤ z) (law.closed z (holding_held n t law z m))

  turned_strange : (ys : List ℤ) → ((z : ℤ) → z ∈ ys → z ∈ holding n t) → Unrelated (Reach (f ∷ [])) ys → Unrelated (Reach (g ∷ [])) (images neg_ℤ ys)
  unfolding images
  turned_strange [] s d = tt
  turned_strange (y ∷ ys) s d = (apart, turned_strange ys (λ z m. s z (inr m)) d.1)
    where
      apart : (w : ℤ) → w ∈ images neg_ℤ ys → ¬ Reach (g ∷ []) (neg_ℤ y) w
      apart w m p =
          let o : (u : ℤ) × (u ∈ ys) × (w ≡ neg_ℤ u) = in_images neg_ℤ ys w m in
          let q : Reach (f ∷ []) (neg_ℤ (neg_ℤ y)) (neg_ℤ w) = mirrored (holding n t) g f g_keeps from (neg_in y (s y (inl refl))) p in
          d.0 o.0 o.1 (subst (λ v. Reach (f ∷ []) v o.0) (neg_ℤ-neg_ℤ y) (subst (λ v. Reach (f ∷ []) (neg_ℤ (neg_ℤ y)) v) (ap neg_ℤ o.2 ∙ neg_ℤ-neg_ℤ o.0) q))

  pub twice_rounds : rounds n (side (side t)) ≡ rounds n t
  unfolding rounds f g
  twice_rounds = sym (
      sym o.1 ∙ sym (length_images neg_ℤ o.0)
      ∙ orbits_counted equal equal_is (g ∷ []) (holding n (side (side t))) (follower_fair n (side (side t)) both) (images neg_ℤ o.0) there (turned_strange o.0 o.2 o.3) cover)
    where
      o : (ys : List ℤ) × (length ys ≡ orbits equal (t.follower ∷ []) (holding n t)) × ((z : ℤ) → z ∈ ys → z ∈ holding n t) × Unrelated (Reach (t.follower ∷ [])) ys × ((x : ℤ) → x ∈ holding n t → (y : ℤ) × (y ∈ ys) × Reach (t.follower ∷ []) x y)
      o = some_reps equal equal_is (t.follower ∷ []) (holding n t) (follower_fair n t law)

      there : (z : ℤ) → z ∈ images neg_ℤ o.0 → z ∈ holding n (side (side t))
      there z m =
          let q : (u : ℤ) × (u ∈ o.0) × (z ≡ neg_ℤ u) = in_images neg_ℤ o.0 z m in
          subst (λ l. z ∈ l) (sym same) (subst (λ w. w ∈ holding n t) (sym q.2) (neg_in q.0 (o.2 q.0 q.1)))

      cover : (x : ℤ) → x ∈ holding n (side (side t)) → (y : ℤ) × (y ∈ images neg_ℤ o.0) × Reach ((side (side t)).follower ∷ []) x y
      cover x m =
          let k : x ∈ holding n t = subst (λ l. x ∈ l) same m in
          let r : (y : ℤ) × (y ∈ o.0) × Reach (t.follower ∷ []) (neg_ℤ x) y = o.4 (neg_ℤ x) (neg_in x k) in
          (neg_ℤ r.0, images_in neg_ℤ o.0 r.0 r.1, subst (λ v. Reach (g ∷ []) v (neg_ℤ r.0)) (neg_ℤ-neg_ℤ x) (mirrored (holding n t) f g (follower_perm n t law).0 to (neg_in x k) r.2))
