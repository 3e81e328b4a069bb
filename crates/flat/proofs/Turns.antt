-- What a splice does to a turning: rounds, loops and pieces.
-- Assumes nothing.
use Rattle.std.proofs.Common.{◌≡◌, suc, Bool, T, ◌⊎◌, ◌↔◌, List, [], ◌∷◌, sym, refl, ap, ◌∙◌, subst, inl, inr, arith}
use Rattle.flat.specs.Orbits.{◌∈◌, Reach, stay, walk, swapped, ClosedUnder, Reversible}
use Rattle.flat.specs.Turnings.{Turning, turning, Lawful, next, previous, SameRound, SameLoop, SamePiece, rounds, loops, pieces, splice, Effect}
use Rattle.flat.proofs.Basics.{Told, tell}
use Rattle.flat.proofs.Walks.{follow, one, walk_back, walk?}
use Rattle.flat.proofs.Counts.{Fair}
use Rattle.flat.proofs.Splice.{swapped_twice, swapped_in, Perm, perm_keeps, perm_fair, widen, Splice, splice_joins, splice_same, apart_joined, orbits_joined, orbits_parted}

module _ {A : Type 0} (same : A → A → Bool) (same_is : (x y : A) → T (same x y) ↔ (x ≡ y)) (neg : A → A) where
  back_by : {ss : List (A → A)} (held : List A) → Fair same same_is ss held → {x y : A} → x ∈ held → Reach ss x y → Reach ss y x
  back_by held fair m p = walk_back held fair.0 fair.1 m p

  module _ (t : Turning A) (law : Lawful neg t) where
    pub perm_follower : Perm same same_is t.follower t.held
    perm_follower = (law.ahead, λ x y m n e. sym (law.undone x m) ∙ ap t.predecessor e ∙ law.undone y n)

    pub perm_next : Perm same same_is (next neg t) t.held
    perm_next = (
      (λ x m. law.behind (neg x) (law.paired x m)),
      λ x y m n e.
          let h : neg x ≡ neg y = sym (law.redone (neg x) (law.paired x m)) ∙ ap t.follower e ∙ law.redone (neg y) (law.paired y n) in
          sym (law.twice x m) ∙ ap neg h ∙ law.twice y n,
    )

    pub perm_neg : Perm same same_is neg t.held
    perm_neg = (law.paired, λ x y m n e. sym (law.twice x m) ∙ ap neg e ∙ law.twice y n)

    pub fair_pieces : Fair same same_is (t.follower ∷ neg ∷ []) t.held
    fair_pieces = (keeps, back)
      where
        keeps : ClosedUnder (t.follower ∷ neg ∷ []) t.held
        keeps x y m (inl e) = subst (λ w. w ∈ t.held) (sym e) (law.ahead x m)
        keeps x y m (inr (inl e)) = subst (λ w. w ∈ t.held) (sym e) (law.paired x m)
        keeps x y m (inr (inr e)) = absurd e

        back : Reversible (t.follower ∷ neg ∷ []) t.held
        back x y m (inl e) = widen same same_is t.follower (neg ∷ []) ((perm_fair same same_is t.follower t.held perm_follower).1 x y m (inl e))
        back x y m (inr (inl e)) = one (inr (inl (sym (law.twice x m) ∙ ap neg (sym e))))
        back x y m (inr (inr e)) = absurd e

    -- ---- two names lie on one loop, or in one piece, or they do not
    pub loop? : (x y : A) → x ∈ t.held → SameLoop neg t x y ⊎ (¬ SameLoop neg t x y)
    loop? x y m = walk? same same_is (next neg t ∷ []) t.held (perm_keeps same same_is (next neg t) t.held perm_next) x y m

    pub piece? : (x y : A) → x ∈ t.held → SamePiece neg t x y ⊎ (¬ SamePiece neg t x y)
    piece? x y m = walk? same same_is (t.follower ∷ neg ∷ []) t.held fair_pieces.0 x y m

    -- ---- walks back
    pub round_back : {x y : A} → x ∈ t.held → SameRound neg t x y → SameRound neg t y x
    round_back m p = back_by t.held (perm_fair same same_is t.follower t.held perm_follower) m p

    pub loop_back : {x y : A} → x ∈ t.held → SameLoop neg t x y → SameLoop neg t y x
    loop_back m p = back_by t.held (perm_fair same same_is (next neg t) t.held perm_next) m p

    pub piece_back : {x y : A} → x ∈ t.held → SamePiece neg t x y → SamePiece neg t y x
    piece_back m p = back_by t.held fair_pieces m p

    -- ---- rounds and loops lie in pieces
    pub round_piece : {x y : A} → SameRound neg t x y → SamePiece neg t x y
    round_piece p = widen same same_is t.follower (neg ∷ []) p

    -- the one behind is in the same piece
    pub behind_piece : (x : A) → x ∈ t.held → SamePiece neg t x (t.predecessor x)
    behind_piece x m = piece_back (law.behind x m) (one (inl (sym (law.redone x m))))

    pub loop_piece : {x y : A} → x ∈ t.held → SameLoop neg t x y → SamePiece neg t x y
    loop_piece m stay = stay
    loop_piece m (walk (inr e) p) = absurd e
    loop_piece m (walk {x = x} {y = y} (inl e) p) =
        follow (walk (inr (inl refl)) (subst (λ w. SamePiece neg t (neg x) w) (sym e) (behind_piece (neg x) (law.paired x m))))
        (loop_piece (subst (λ w. w ∈ t.held) (sym e) (law.behind (neg x) (law.paired x m))) p)

    pub previous_in : (x : A) → x ∈ t.held → previous neg t x ∈ t.held
    previous_in x m = law.paired (t.follower x) (law.ahead x m)

    pub next_previous : (x : A) → x ∈ t.held → next neg t (previous neg t x) ≡ x
    next_previous x m = ap t.predecessor (law.twice (t.follower x) (law.ahead x m)) ∙ law.undone x m

    pub previous_next : (x : A) → x ∈ t.held → previous neg t (next neg t x) ≡ x
    previous_next x m = ap neg (law.redone (neg x) (law.paired x m)) ∙ law.twice x m

    pub loop_previous : {a b : A} → a ∈ t.held → b ∈ t.held → SameLoop neg t a b → SameLoop neg t (previous neg t a) (previous neg t b)
    loop_previous {a} {b} am bm p =
        walk (inl (sym (next_previous a am))) (follow p (loop_back (previous_in b bm) (one (inl (sym (next_previous b bm))))))

    pub previous_loop : {a b : A} → a ∈ t.held → b ∈ t.held → SameLoop neg t (previous neg t a) (previous neg t b) → SameLoop neg t a b
    previous_loop {a} {b} am bm p =
        follow (loop_back (previous_in a am) (one (inl (sym (next_previous a am))))) (follow p (one (inl (sym (next_previous b bm)))))

    -- ---- a splice of it
    module _ (a b : A) (am : a ∈ t.held) (bm : b ∈ t.held) where
      pub splice_lawful : Lawful neg (splice neg same a b t)
      splice_lawful = record {
        apart = law.apart;
        paired = law.paired;
        twice = law.twice;
        proper = law.proper;
        ahead = λ x m. law.ahead (swapped same a b x) (swapped_in same same_is t.held a b x am bm m);
        behind = λ x m. swapped_in same same_is t.held a b (t.predecessor x) am bm (law.behind x m);
        undone = λ x m. ap (swapped same a b) (law.undone (swapped same a b x) (swapped_in same same_is t.held a b x am bm m)) ∙ swapped_twice same same_is a b x;
        redone = λ x m. ap t.follower (swapped_twice same same_is a b (t.predecessor x)) ∙ law.redone x m;
      }

  -- ---- two turnings of the same names, of which the second has the followers of a and b swapped
  module _ (t : Turning A) (f' g' : A → A) (law : Lawful neg t) (law' : Lawful neg (turning t.held f' g'))
      (a b : A) (am : a ∈ t.held) (bm : b ∈ t.held) (s : Splice same same_is t.held t.follower f' a b) where
    abbrev t' : Turning A
    t' = turning t.held f' g'

    behind_spliced : (x : A) → x ∈ t.held → g' x ≡ swapped same a b (t.predecessor x)
    behind_spliced x m =
        let y : A = swapped same a b (t.predecessor x) in
        let ym : y ∈ t.held = swapped_in same same_is t.held a b (t.predecessor x) am bm (law.behind x m) in
        let h : f' y ≡ x = s y ym ∙ ap t.follower (swapped_twice same same_is a b (t.predecessor x)) ∙ law.redone x m in
        ap g' (sym h) ∙ law'.undone y ym

    -- the loops are spliced too, at the names before a and b
    pub next_spliced : Splice same same_is t.held (next neg t) (next neg t') (previous neg t a) (previous neg t b)
    next_spliced x m =
        let na = next_previous t law a am in
        let nb = next_previous t law b bm in
        let px = previous_next t law x m in
        behind_spliced (neg x) (law.paired x m) ∙ grind (arith, tl x (previous neg t a), tl x (previous neg t b), tl (next neg t x) a, tl (next neg t x) b)
      where
        tl : (x y : A) → Told same same_is x y
        tl = tell same same_is

    pub loops_joined : ¬ SameLoop neg t a b → suc (loops neg same t') ≡ loops neg same t
    loops_joined n = orbits_joined same same_is t.held (previous neg t a) (previous neg t b) (previous_in t law a am) (previous_in t law b bm)
        (next neg t) (next neg t') next_spliced (perm_next t law) (λ p. n (previous_loop t law am bm p))

    pub loops_parted : ¬ (a ≡ b) → SameLoop neg t a b → loops neg same t' ≡ suc (loops neg same t)
    loops_parted d j = orbits_parted same same_is t.held (previous neg t a) (previous neg t b) (previous_in t law a am) (previous_in t law b bm)
        (next neg t) (next neg t') next_spliced (perm_next t law)
        (λ e. d (sym (next_previous t law a am) ∙ ap (next neg t) e ∙ next_previous t law b bm)) (loop_previous t law am bm j)

    pub rounds_joined : ¬ SameRound neg t a b → suc (rounds neg same t') ≡ rounds neg same t
    rounds_joined n = orbits_joined same same_is t.held a b am bm t.follower f' s (perm_follower t law) n

    pub rounds_parted : ¬ (a ≡ b) → SameRound neg t a b → rounds neg same t' ≡ suc (rounds neg same t)
    rounds_parted d j = orbits_parted same same_is t.held a b am bm t.follower f' s (perm_follower t law) d j

    pub meet : ¬ SameRound neg t a b → SamePiece neg t' a b
    meet n = round_piece t' law' (apart_joined same same_is t.held a b am bm t.follower f' s (perm_follower t law) n)

    pub pieces_joined : ¬ SamePiece neg t a b → suc (pieces neg same t') ≡ pieces neg same t
    pieces_joined n = splice_joins same same_is t.held a b am bm t.follower f' (neg ∷ []) s (fair_pieces t law) (fair_pieces t' law') n
        (meet (λ p. n (round_piece t law p)))

    pub pieces_kept : SamePiece neg t a b → ¬ SameRound neg t a b → pieces neg same t' ≡ pieces neg same t
    pieces_kept j n = sym (splice_same same same_is t.held a b am bm t.follower f' (neg ∷ []) s (fair_pieces t law) (fair_pieces t' law') j (meet n))

    -- what a splice of two rounds changes
    pub effect : ¬ SameRound neg t a b → Effect neg same t t' a b
    effect n = go (piece? t law a b am) (loop? t law a b am)
      where
        go : SamePiece neg t a b ⊎ (¬ SamePiece neg t a b) → SameLoop neg t a b ⊎ (¬ SameLoop neg t a b) → Effect neg same t t' a b
        go (inr p) _ = inl (p, loops_joined (λ l. p (loop_piece t law am l)), pieces_joined p)
        go (inl p) (inr l) = inr (inl (p, l, loops_joined l, pieces_kept p n))
        go (inl p) (inl l) = inr (inr (l, loops_parted (λ e. n (subst (λ w. SameRound neg t a w) e stay)) l, pieces_kept p n))
