-- A splice of two rounds, a name set apart from its round, and a new edge between two new points, from a corner, or between two corners:
-- the law, the counts, and what becomes of flat. Assumes nothing.
use Rattle.std.proofs.Common.{◌≡◌, suc, ◌+◌, Bool, T, ◌⊎◌, ◌↔◌, [], ◌∷◌, sym, refl, ap, ◌∙◌, subst, inl, inr, arith}
use Rattle.flat.specs.Orbits.{◌∈◌, swapped}
use Rattle.flat.specs.Turnings.{Turning, Lawful, Free, next, previous, SameRound, SameLoop, SamePiece, rounds, loops, pieces, edges, Counts, Flat, JoinChanges, splice, Effect, isolated, started, sprouted, joined}
use Rattle.flat.proofs.Basics.{tell, same?}
use Rattle.flat.proofs.Walks.{follow, one}
use Rattle.flat.proofs.Counts.{Joined}
use Rattle.flat.proofs.Splice.{perm_keeps, perm_fair, Splice, swapped_b, swapped_else, within, kept, apart_joined}
use Rattle.flat.proofs.Turns.{perm_next, fair_pieces, splice_lawful, loop_piece, round_piece, previous_in, next_spliced, effect, meet, rounds_joined, previous_loop}
use Rattle.flat.proofs.Euler.{alone, euler, isolated_rounds, isolated_effect}
use Rattle.flat.proofs.Alike.{alike_flat}
use Rattle.flat.proofs.Beside.{beside_counts, piece_out, piece_to, piece_from, loop_to, loop_from, loop_out, rest_e, rest_n, rest_on, started_lawful}
pub use Rattle.flat.proofs.Turns.{round_back, loop_back, piece_back}
pub use Rattle.flat.proofs.Euler.{isolate_lawful, isolate_fixed}

module _ {A : Type 0} (same : A → A → Bool) (same_is : (x y : A) → T (same x y) ↔ (x ≡ y)) (neg : A → A) where
  -- ---- a splice of two rounds
  module _ (t : Turning A) (law : Lawful neg t) (a b : A) (am : a ∈ t.held) (bm : b ∈ t.held) (apart : ¬ SameRound neg t a b) where
    abbrev t' : Turning A
    t' = splice neg same a b t

    law' : Lawful neg t'
    law' = splice_lawful same same_is neg t law a b am bm

    pub splice_rounds : suc (rounds neg same t') ≡ rounds neg same t
    splice_rounds = rounds_joined same same_is neg t t'.follower t'.predecessor law law' a b am bm (λ x m. refl) apart

    pub splice_effect : Effect neg same t t' a b
    splice_effect = effect same same_is neg t t'.follower t'.predecessor law law' a b am bm (λ x m. refl) apart

  -- ---- a name set apart
  module _ (t : Turning A) (law : Lawful neg t) (y : A) (ym : y ∈ t.held) where
    pub isolate_flat : Flat neg same t → Flat neg same (isolated neg same y t)
    isolate_flat h = go (same? same same_is (t.follower y) y)
      where
        go : (t.follower y ≡ y) ⊎ (¬ (t.follower y ≡ y)) → Flat neg same (isolated neg same y t)
        go (inl e) = alike_flat same same_is neg t (isolated neg same y t) law (isolate_lawful same same_is neg t law y ym) (λ x m. m) (λ x m. m) agree h
          where
            agree : (x : A) → x ∈ t.held → t.follower x ≡ t.follower (swapped same (t.predecessor y) y x)
            agree x m = grind (arith, tell same same_is x y, tell same same_is x (t.predecessor y), law.undone y ym, e)
        go (inr n) = turn (isolated_effect same same_is neg t law y ym n)
          where
            rs : suc (rounds neg same t) ≡ rounds neg same (isolated neg same y t)
            rs = isolated_rounds same same_is neg t law y ym n

            turn : Effect neg same (isolated neg same y t) t (t.predecessor y) y → Flat neg same (isolated neg same y t)
            turn (inl e) = omega (arith, rs, e.1, e.2, h)
            turn (inr (inr e)) = omega (arith, rs, e.1, e.2, h)
            turn (inr (inl e)) = omega (arith, rs, e.2, e.3, h, euler same same_is neg (isolated neg same y t) (isolate_lawful same same_is neg t law y ym))

  -- ---- a new edge, its name e free
  module _ (t : Turning A) (law : Lawful neg t) (e : A) (free : Free neg same e t) where
    abbrev s : Turning A
    s = started neg same e t

    pub sl : Lawful neg s
    sl = started_lawful same same_is neg t law e free

    fe : s.follower e ≡ e
    fe = rest_e same same_is neg t law e free t.follower

    fn : s.follower (neg e) ≡ neg e
    fn = rest_n same same_is neg t law e free t.follower

    on : (x : A) → x ∈ t.held → s.follower x ≡ t.follower x
    on = rest_on same same_is neg t law e free t.follower

    -- between two new points
    pub started_counts : Counts neg same s (rounds neg same t + 2) (loops neg same t + 1) (edges neg same t + 1) (pieces neg same t + 1)
    started_counts =
        let k = beside_counts same same_is neg t law e s.follower s.predecessor sl fe fn on in
        (omega arith, omega arith, omega arith, omega arith)

    pub started_flat : Flat neg same t → Flat neg same s
    started_flat h = let k = started_counts in omega arith

    pub out : {x y : A} → (x ≡ e) ⊎ (x ≡ neg e) → SamePiece neg s x y → ¬ (y ∈ t.held)
    out o p = piece_out same same_is neg t law e s.follower s.predecessor sl fe fn on o p

    -- x, one of its names, put after the corner c
    module _ (c : A) (cm : c ∈ t.held) (x : A) (xs : x ∈ s.held) (o : (x ≡ e) ⊎ (x ≡ neg e)) where
      pub two_pieces : ¬ SamePiece neg s c x
      two_pieces p = out o (piece_back same same_is neg s sl (inr (inr cm)) p) cm

      pub put_counts : Counts neg same (splice neg same c x s) (rounds neg same t + 1) (loops neg same t) (edges neg same t + 1) (pieces neg same t)
      put_counts = go (splice_effect s sl c x (inr (inr cm)) xs two_rounds) started_counts (splice_rounds s sl c x (inr (inr cm)) xs two_rounds)
        where
          two_rounds : ¬ SameRound neg s c x
          two_rounds p = two_pieces (round_piece same same_is neg s sl p)

          go : Effect neg same s (splice neg same c x s) c x
              → Counts neg same s (rounds neg same t + 2) (loops neg same t + 1) (edges neg same t + 1) (pieces neg same t + 1)
              → suc (rounds neg same (splice neg same c x s)) ≡ rounds neg same s
              → Counts neg same (splice neg same c x s) (rounds neg same t + 1) (loops neg same t) (edges neg same t + 1) (pieces neg same t)
          go (inl m) k r = (omega arith, omega arith, k.2, omega arith)
          go (inr (inl m)) k r = absurd (two_pieces m.0)
          go (inr (inr m)) k r = absurd (two_pieces (loop_piece same same_is neg s sl (inr (inr cm)) m.0))

    -- from a corner c to a new point
    module _ (c : A) (cm : c ∈ t.held) where
      abbrev sp : Turning A
      sp = sprouted neg same e c t

      cs : c ∈ s.held
      cs = inr (inr cm)

      es : e ∈ s.held
      es = inl refl

      sep : ¬ SamePiece neg s c e
      sep = two_pieces c cm e es (inl refl)

      sep_round : ¬ SameRound neg s c e
      sep_round p = sep (round_piece same same_is neg s sl p)

      pub sprouted_lawful : Lawful neg sp
      sprouted_lawful = splice_lawful same same_is neg s sl c e cs es

      pub sprouted_counts : Counts neg same sp (rounds neg same t + 1) (loops neg same t) (edges neg same t + 1) (pieces neg same t)
      sprouted_counts = put_counts c cm e es (inl refl)

      pub sprouted_flat : Flat neg same t → Flat neg same sp
      sprouted_flat h = let k = sprouted_counts in omega arith

      -- within the rest all is as it was
      sp_piece_from : {x y : A} → x ∈ t.held → y ∈ t.held → SamePiece neg sp x y → SamePiece neg t x y
      sp_piece_from {x} {y} xm ym p = go (within same same_is s.held c e cs es s.follower sp.follower (neg ∷ []) (λ x m. refl)
          (fair_pieces same same_is neg s sl) (fair_pieces same same_is neg sp sprouted_lawful).0 (inr (inr xm)) p)
        where
          go : Joined same same_is (s.follower ∷ neg ∷ []) c e x y → SamePiece neg t x y
          go (inl q) = piece_from same same_is neg t law e s.follower s.predecessor sl fe fn on xm q
          go (inr (inl q)) = absurd (out (inl refl) q.1 ym)
          go (inr (inr q)) = absurd (out (inl refl) q.0 xm)

      sp_piece_to : {x y : A} → x ∈ t.held → SamePiece neg t x y → SamePiece neg sp x y
      sp_piece_to {x} {y} xm p = kept same same_is s.held c e cs es s.follower sp.follower (neg ∷ []) (λ x m. refl)
          (fair_pieces same same_is neg sp sprouted_lawful) (fair_pieces same same_is neg s sl).0
          (meet same same_is neg s sp.follower sp.predecessor sl sprouted_lawful c e cs es (λ x m. refl) sep_round)
          (inr (inr xm)) (piece_to same same_is neg t law e s.follower s.predecessor sl fe fn on xm p)

      nexts : Splice same same_is s.held (next neg s) (next neg sp) (previous neg s c) (previous neg s e)
      nexts = next_spliced same same_is neg s sp.follower sp.predecessor sl sprouted_lawful c e cs es (λ x m. refl)

      pes : previous neg s e ≡ neg e
      pes = ap neg fe

      loop_gone : {y : A} → SameLoop neg s (previous neg s e) y → ¬ (y ∈ t.held)
      loop_gone p = loop_out same same_is neg t law e s.follower s.predecessor sl fe fn on (inr pes) p

      sp_loop_from : {x y : A} → x ∈ t.held → y ∈ t.held → SameLoop neg sp x y → SameLoop neg t x y
      sp_loop_from {x} {y} xm ym p = go (within same same_is s.held (previous neg s c) (previous neg s e)
          (previous_in same same_is neg s sl c cs) (previous_in same same_is neg s sl e es) (next neg s) (next neg sp) [] nexts
          (perm_fair same same_is (next neg s) s.held (perm_next same same_is neg s sl))
          (perm_keeps same same_is (next neg sp) s.held (perm_next same same_is neg sp sprouted_lawful)) (inr (inr xm)) p)
        where
          go : Joined same same_is (next neg s ∷ []) (previous neg s c) (previous neg s e) x y → SameLoop neg t x y
          go (inl q) = loop_from same same_is neg t law e s.follower s.predecessor sl fe fn on xm q
          go (inr (inl q)) = absurd (loop_gone q.1 ym)
          go (inr (inr q)) = absurd (loop_gone q.0 xm)

      sp_loop_to : {x y : A} → x ∈ t.held → SameLoop neg t x y → SameLoop neg sp x y
      sp_loop_to {x} {y} xm p = kept same same_is s.held (previous neg s c) (previous neg s e)
          (previous_in same same_is neg s sl c cs) (previous_in same same_is neg s sl e es) (next neg s) (next neg sp) [] nexts
          (perm_fair same same_is (next neg sp) s.held (perm_next same same_is neg sp sprouted_lawful))
          (perm_keeps same same_is (next neg s) s.held (perm_next same same_is neg s sl))
          (apart_joined same same_is s.held (previous neg s c) (previous neg s e)
          (previous_in same same_is neg s sl c cs) (previous_in same same_is neg s sl e es) (next neg s) (next neg sp) nexts (perm_next same same_is neg s sl) sep_loop)
          (inr (inr xm)) (loop_to same same_is neg t law e s.follower s.predecessor sl fe fn on xm p)
        where
          sep_loop : ¬ SameLoop neg s (previous neg s c) (previous neg s e)
          sep_loop q = sep (loop_piece same same_is neg s sl cs (previous_loop same same_is neg s sl cs es q))

      -- from the end of the new edge the loop goes on to c
      on_to_c : next neg sp (neg e) ≡ c
      on_to_c = ap (λ w. swapped same c e (s.predecessor w)) free.again
          ∙ ap (swapped same c e) (rest_e same same_is neg t law e free t.predecessor) ∙ swapped_b same same_is c e

      end_fixed : sp.follower (neg e) ≡ neg e
      end_fixed = ap s.follower (swapped_else same same_is c e (neg e) (λ q. free.unheld_neg (subst (λ w. w ∈ t.held) (sym q) cm)) free.two) ∙ fn

      -- between two corners
      module _ (d : A) (dm : d ∈ t.held) where
        abbrev jn : Turning A
        jn = joined neg same e c d t

        ds : d ∈ s.held
        ds = inr (inr dm)

        ns : neg e ∈ s.held
        ns = inr (inl refl)

        end_round : ¬ SameRound neg sp d (neg e)
        end_round p = free.unheld_neg (subst (λ w. w ∈ t.held) (alone sp.follower (neg e) end_fixed refl (round_back same same_is neg sp sprouted_lawful ds p)) dm)

        pub joined_lawful : Lawful neg jn
        joined_lawful = splice_lawful same same_is neg sp sprouted_lawful d (neg e) ds ns

        to_c : SameLoop neg sp (neg e) c
        to_c = one (inl (sym on_to_c))

        loop_d : SameLoop neg t c d → SameLoop neg sp d (neg e)
        loop_d p = loop_back same same_is neg sp sprouted_lawful ns (follow to_c (sp_loop_to cm p))

        d_loop : SameLoop neg sp d (neg e) → SameLoop neg t c d
        d_loop p = loop_back same same_is neg t law dm (sp_loop_from dm cm (follow p to_c))

        piece_d : SamePiece neg t c d → SamePiece neg sp d (neg e)
        piece_d p = piece_back same same_is neg sp sprouted_lawful ns (follow (loop_piece same same_is neg sp sprouted_lawful ns to_c) (sp_piece_to cm p))

        d_piece : SamePiece neg sp d (neg e) → SamePiece neg t c d
        d_piece p = piece_back same same_is neg t law dm (sp_piece_from dm cm (follow p (loop_piece same same_is neg sp sprouted_lawful ns to_c)))

        pub joined_counts : JoinChanges neg same t jn c d
        joined_counts = (
          omega (arith, splice_rounds sp sprouted_lawful d (neg e) ds ns end_round, sprouted_counts.0),
          sprouted_counts.2,
          (λ n. two n (splice_effect sp sprouted_lawful d (neg e) ds ns end_round)),
          (λ l. parted l (splice_effect sp sprouted_lawful d (neg e) ds ns end_round)),
          λ p l. cross p l (splice_effect sp sprouted_lawful d (neg e) ds ns end_round),
        )
          where
            two : ¬ SamePiece neg t c d → Effect neg same sp jn d (neg e) → (loops neg same jn + 1 ≡ loops neg same t) × (pieces neg same jn + 1 ≡ pieces neg same t)
            two n (inl x) = (omega (arith, x.1, sprouted_counts.1), omega (arith, x.2, sprouted_counts.3))
            two n (inr (inl x)) = absurd (n (d_piece x.0))
            two n (inr (inr x)) = absurd (n (d_piece (loop_piece same same_is neg sp sprouted_lawful ds x.0)))

            parted : SameLoop neg t c d → Effect neg same sp jn d (neg e) → (loops neg same jn ≡ loops neg same t + 1) × (pieces neg same jn ≡ pieces neg same t)
            parted l (inl x) = absurd (x.0 (loop_piece same same_is neg sp sprouted_lawful ds (loop_d l)))
            parted l (inr (inl x)) = absurd (x.1 (loop_d l))
            parted l (inr (inr x)) = (omega (arith, x.1, sprouted_counts.1), omega (arith, x.2, sprouted_counts.3))

            cross : SamePiece neg t c d → ¬ SameLoop neg t c d → Effect neg same sp jn d (neg e) → (loops neg same jn + 1 ≡ loops neg same t) × (pieces neg same jn ≡ pieces neg same t)
            cross p l (inl x) = absurd (x.0 (piece_d p))
            cross p l (inr (inl x)) = (omega (arith, x.2, sprouted_counts.1), omega (arith, x.3, sprouted_counts.3))
            cross p l (inr (inr x)) = absurd (l (d_loop x.0))

        pub joined_flat : (SameLoop neg t c d ⊎ (¬ SamePiece neg t c d)) → Flat neg same t → Flat neg same jn
        joined_flat (inl l) h = let k = joined_counts in let m = k.3 l in omega arith
        joined_flat (inr n) h = let k = joined_counts in let m = k.2 n in omega arith

        pub joined_broken : SamePiece neg t c d → ¬ SameLoop neg t c d → Flat neg same t → ¬ Flat neg same jn
        joined_broken p n h f = let k = joined_counts in let m = k.4 p n in omega arith
