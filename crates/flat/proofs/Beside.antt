-- An edge that stands alone beside a turning: two rounds, a loop, an edge and a piece more, and the rest as it was. A new edge is such an edge.
-- Assumes nothing.
use Rattle.std.proofs.Common.{◌≡◌, suc, Bool, true, false, T, ◌⊎◌, ◌↔◌, List, [], ◌∷◌, sym, refl, ap, ◌∙◌, subst, inl, inr, le_antisymm, arith}
use Rattle.flat.specs.Orbits.{◌∈◌, ends, any, classes, orbits, Reach, stay, walk, linked, ClosedUnder}
use Rattle.flat.specs.Turnings.{Turning, turning, Lawful, Free, next, SameLoop, SamePiece, rounds, loops, pieces, edges, Counts, Flat, resting, started}
use Rattle.flat.proofs.Basics.{Told, tell, T_true, not_T_false, any_gives}
use Rattle.flat.proofs.Walks.{one, linked_walk, walk_linked, ends_same}
use Rattle.flat.proofs.Counts.{finer}
use Rattle.flat.proofs.Splice.{perm_keeps}
use Rattle.flat.proofs.Turns.{perm_follower, perm_next, perm_neg, fair_pieces}
use Rattle.flat.proofs.Euler.{stepwise, alone}

module _ {A : Type 0} (same : A → A → Bool) (same_is : (x y : A) → T (same x y) ↔ (x ≡ y)) where
  -- two names e and n beside a list, which no step joins to it
  module _ (held : List A) (ss ss' : List (A → A)) (k : ClosedUnder ss held) (e n : A) (ne : ¬ (e ∈ held)) (nn : ¬ (n ∈ held))
      (on : (x y : A) → x ∈ held → (y ∈ ends ss' x) ↔ (y ∈ ends ss x))
      (off_e : (y : A) → y ∈ ends ss' e → (y ≡ e) ⊎ (y ≡ n)) (off_n : (y : A) → y ∈ ends ss' n → (y ≡ e) ⊎ (y ≡ n)) where
    abbrev all : List A
    all = e ∷ n ∷ held

    keeps' : ClosedUnder ss' held
    keeps' x y m s = k x y m ((on x y m).0 s)

    end : {x : A} → (x ≡ e) ⊎ (x ≡ n) → (y : A) → y ∈ ends ss' x → (y ≡ e) ⊎ (y ≡ n)
    end (inl h) y s = off_e y (subst (λ w. y ∈ ends ss' w) h s)
    end (inr h) y s = off_n y (subst (λ w. y ∈ ends ss' w) h s)

    in_all : {y : A} → (y ≡ e) ⊎ (y ≡ n) → y ∈ all
    in_all (inl u) = inl u
    in_all (inr u) = inr (inl u)

    more_keeps : ClosedUnder ss' all
    more_keeps x y (inl h) s = in_all (end (inl h) y s)
    more_keeps x y (inr (inl h)) s = in_all (end (inr h) y s)
    more_keeps x y (inr (inr m)) s = inr (inr (keeps' x y m s))

    -- no walk leads from the two to the list
    two_stay : {x y : A} → (x ≡ e) ⊎ (x ≡ n) → Reach ss' x y → (y ≡ e) ⊎ (y ≡ n)
    two_stay o stay = o
    two_stay o (walk {y = y} s p) = two_stay (end o y s) p

    two_out : {x y : A} → (x ≡ e) ⊎ (x ≡ n) → Reach ss' x y → ¬ (y ∈ held)
    two_out {y = y} o p m = go (two_stay o p)
      where
        go : (y ≡ e) ⊎ (y ≡ n) → ⊥
        go (inl u) = ne (subst (λ w. w ∈ held) u m)
        go (inr u) = nn (subst (λ w. w ∈ held) u m)

    more_walk : {x y : A} → x ∈ held → Reach ss x y → Reach ss' x y
    more_walk m p = stepwise ss ss' held k (λ x y m s. one ((on x y m).1 s)) m p

    walk_more : {x y : A} → x ∈ held → Reach ss' x y → Reach ss x y
    walk_more m p = stepwise ss' ss held keeps' (λ x y m s. one ((on x y m).0 s)) m p

    classes_same : classes (linked same ss' all) held ≡ orbits same ss held
    unfolding orbits
    classes_same = le_antisymm
        (finer held (linked same ss' all) (linked same ss held)
        (λ x y m n t. walk_linked same same_is ss' all more_keeps x y (inr (inr m)) (more_walk m (linked_walk same same_is ss held k x y m t))) held (λ z m. m))
        (finer held (linked same ss held) (linked same ss' all)
        (λ x y m n t. walk_linked same same_is ss held k x y m (walk_more m (linked_walk same same_is ss' all more_keeps x y (inr (inr m)) t))) held (λ z m. m))

    none_of : (x : A) → x ∈ all → (x ≡ e) ⊎ (x ≡ n) → any (linked same ss' all x) held ≡ false
    none_of x m o = not_T_false (any (linked same ss' all x) held) λ t.
        let q : (y : A) × (y ∈ held) × T (linked same ss' all x y) = any_gives (linked same ss' all x) held t in
        two_out o (linked_walk same same_is ss' all more_keeps x q.0 m q.2) q.1

    r : A → A → Bool
    r = linked same ss' all

    -- two names of one class are one class more, two names of two classes are two
    one_more : Reach ss' e n → orbits same ss' all ≡ suc (orbits same ss held)
    unfolding orbits classes r
    one_more p =
        let en : r e n ≡ true = T_true (r e n) (walk_linked same same_is ss' all more_keeps e n (inl refl) p) in
        let nh : any (r n) held ≡ false = none_of n (inr (inl refl)) (inr refl) in
        grind (arith, en, nh, classes_same)

    two_more : ¬ Reach ss' e n → orbits same ss' all ≡ suc (suc (orbits same ss held))
    unfolding orbits classes r
    two_more p =
        let en : r e n ≡ false = not_T_false (r e n) (λ t. p (linked_walk same same_is ss' all more_keeps e n (inl refl) t)) in
        let eh : any (r e) held ≡ false = none_of e (inl refl) (inl refl) in
        let nh : any (r n) held ≡ false = none_of n (inr (inl refl)) (inr refl) in
        grind (arith, en, eh, nh, classes_same)

module _ {A : Type 0} (same : A → A → Bool) (same_is : (x y : A) → T (same x y) ↔ (x ≡ y)) (neg : A → A) where
  tl : (x y : A) → Told same same_is x y
  tl = tell same same_is

  -- the names of t with those of e before them
  abbrev pub Beside : Turning A → A → (A → A) → (A → A) → Turning A
  Beside t e f' g' = turning (e ∷ neg e ∷ t.held) f' g'

  -- the turning with e beside it
  module _ (t : Turning A) (law : Lawful neg t) (e : A) (f' g' : A → A) (law' : Lawful neg (Beside t e f' g'))
      (fe : f' e ≡ e) (fn : f' (neg e) ≡ neg e) (agree : (x : A) → x ∈ t.held → f' x ≡ t.follower x) where
    abbrev n : A
    n = neg e

    abbrev u : Turning A
    u = Beside t e f' g'

    ne : ¬ (e ∈ t.held)
    ne m = law'.apart.0 (inr m)

    nn : ¬ (n ∈ t.held)
    nn = law'.apart.1.0

    again : neg n ≡ e
    again = law'.twice e (inl refl)

    ge : g' e ≡ e
    ge = ap g' (sym fe) ∙ law'.undone e (inl refl)

    gn : g' n ≡ n
    gn = ap g' (sym fn) ∙ law'.undone n (inr (inl refl))

    behind : (x : A) → x ∈ t.held → g' x ≡ t.predecessor x
    behind x m = ap g' (sym (law.redone x m) ∙ sym (agree (t.predecessor x) (law.behind x m)))
        ∙ law'.undone (t.predecessor x) (inr (inr (law.behind x m)))

    step : (f h : A → A) (ss : List (A → A)) → ((x : A) → x ∈ t.held → h x ≡ f x) → (x y : A) → x ∈ t.held → (y ∈ ends (h ∷ ss) x) ↔ (y ∈ ends (f ∷ ss) x)
    step f h ss s x y m = ends_same h f ss x (s x m) y

    beside_rounds : rounds neg same u ≡ suc (suc (rounds neg same t))
    beside_rounds = two_more same same_is t.held (t.follower ∷ []) (f' ∷ []) (perm_keeps same same_is t.follower t.held (perm_follower same same_is neg t law)) e n ne nn
        (step t.follower f' [] agree) off_e off_n (λ p. law'.proper e (inl refl) (alone f' e fe refl p))
      where
        off_e : (y : A) → (y ≡ f' e) ⊎ ⊥ → (y ≡ e) ⊎ (y ≡ n)
        off_e y (inl q) = inl (q ∙ fe)
        off_e y (inr q) = absurd q

        off_n : (y : A) → (y ≡ f' n) ⊎ ⊥ → (y ≡ e) ⊎ (y ≡ n)
        off_n y (inl q) = inr (q ∙ fn)
        off_n y (inr q) = absurd q

    next_on : (x : A) → x ∈ t.held → next neg u x ≡ next neg t x
    next_on x m = behind (neg x) (law.paired x m)

    next_e : (y : A) → (y ≡ next neg u e) ⊎ ⊥ → (y ≡ e) ⊎ (y ≡ n)
    next_e y (inl q) = inr (q ∙ gn)
    next_e y (inr q) = absurd q

    next_n : (y : A) → (y ≡ next neg u n) ⊎ ⊥ → (y ≡ e) ⊎ (y ≡ n)
    next_n y (inl q) = inl (q ∙ ap g' again ∙ ge)
    next_n y (inr q) = absurd q

    kl : ClosedUnder (next neg t ∷ []) t.held
    kl = perm_keeps same same_is (next neg t) t.held (perm_next same same_is neg t law)

    beside_loops : loops neg same u ≡ suc (loops neg same t)
    beside_loops = one_more same same_is t.held (next neg t ∷ []) (next neg u ∷ []) kl e n ne nn
        (step (next neg t) (next neg u) [] next_on) next_e next_n (one (inl (sym gn)))

    neg_e : (y : A) → (y ≡ neg e) ⊎ ⊥ → (y ≡ e) ⊎ (y ≡ n)
    neg_e y (inl q) = inr q
    neg_e y (inr q) = absurd q

    neg_n : (y : A) → (y ≡ neg n) ⊎ ⊥ → (y ≡ e) ⊎ (y ≡ n)
    neg_n y (inl q) = inl (q ∙ again)
    neg_n y (inr q) = absurd q

    beside_edges : edges neg same u ≡ suc (edges neg same t)
    beside_edges = one_more same same_is t.held (neg ∷ []) (neg ∷ []) (perm_keeps same same_is neg t.held (perm_neg same same_is neg t law)) e n ne nn
        (step neg neg [] (λ x m. refl)) neg_e neg_n (one (inl refl))

    piece_e : (y : A) → (y ≡ f' e) ⊎ (y ∈ neg e ∷ []) → (y ≡ e) ⊎ (y ≡ n)
    piece_e y (inl q) = inl (q ∙ fe)
    piece_e y (inr q) = neg_e y q

    piece_n : (y : A) → (y ≡ f' n) ⊎ (y ∈ neg n ∷ []) → (y ≡ e) ⊎ (y ≡ n)
    piece_n y (inl q) = inr (q ∙ fn)
    piece_n y (inr q) = neg_n y q

    piece_on : (x y : A) → x ∈ t.held → (y ∈ ends (f' ∷ neg ∷ []) x) ↔ (y ∈ ends (t.follower ∷ neg ∷ []) x)
    piece_on = step t.follower f' (neg ∷ []) agree

    kp : ClosedUnder (t.follower ∷ neg ∷ []) t.held
    kp = (fair_pieces same same_is neg t law).0

    beside_pieces : pieces neg same u ≡ suc (pieces neg same t)
    beside_pieces = one_more same same_is t.held (t.follower ∷ neg ∷ []) (f' ∷ neg ∷ []) kp e n ne nn piece_on piece_e piece_n (one (inr (inl refl)))

    -- no walk leads from the edge to the rest, and within the rest all is as it was
    pub piece_out : {x y : A} → (x ≡ e) ⊎ (x ≡ n) → SamePiece neg u x y → ¬ (y ∈ t.held)
    piece_out o p = two_out same same_is t.held (t.follower ∷ neg ∷ []) (f' ∷ neg ∷ []) kp e n ne nn piece_on piece_e piece_n o p

    pub piece_to : {x y : A} → x ∈ t.held → SamePiece neg t x y → SamePiece neg u x y
    piece_to m p = more_walk same same_is t.held (t.follower ∷ neg ∷ []) (f' ∷ neg ∷ []) kp e n ne nn piece_on piece_e piece_n m p

    pub piece_from : {x y : A} → x ∈ t.held → SamePiece neg u x y → SamePiece neg t x y
    piece_from m p = walk_more same same_is t.held (t.follower ∷ neg ∷ []) (f' ∷ neg ∷ []) kp e n ne nn piece_on piece_e piece_n m p

    pub loop_to : {x y : A} → x ∈ t.held → SameLoop neg t x y → SameLoop neg u x y
    loop_to m p = more_walk same same_is t.held (next neg t ∷ []) (next neg u ∷ []) kl e n ne nn (step (next neg t) (next neg u) [] next_on) next_e next_n m p

    pub loop_from : {x y : A} → x ∈ t.held → SameLoop neg u x y → SameLoop neg t x y
    loop_from m p = walk_more same same_is t.held (next neg t ∷ []) (next neg u ∷ []) kl e n ne nn (step (next neg t) (next neg u) [] next_on) next_e next_n m p

    pub loop_out : {x y : A} → (x ≡ e) ⊎ (x ≡ n) → SameLoop neg u x y → ¬ (y ∈ t.held)
    loop_out o p = two_out same same_is t.held (next neg t ∷ []) (next neg u ∷ []) kl e n ne nn (step (next neg t) (next neg u) [] next_on) next_e next_n o p

    pub beside_counts : Counts neg same u (suc (suc (rounds neg same t))) (suc (loops neg same t)) (suc (edges neg same t)) (suc (pieces neg same t))
    beside_counts = (beside_rounds, beside_loops, beside_edges, beside_pieces)

    pub beside_flat : Flat neg same t ↔ Flat neg same u
    beside_flat = ((λ h. let k = beside_counts in omega arith), λ h. let k = beside_counts in omega arith)

  -- ---- a new edge
  module _ (t : Turning A) (law : Lawful neg t) (e : A) (free : Free neg same e t) where
    pub rest_e : (f : A → A) → resting neg same e f e ≡ e
    rest_e f = grind (arith, tl e e)

    pub rest_n : (f : A → A) → resting neg same e f (neg e) ≡ neg e
    rest_n f = grind (arith, tl (neg e) e, tl (neg e) (neg e))

    pub rest_on : (f : A → A) (x : A) → x ∈ t.held → resting neg same e f x ≡ f x
    rest_on f x m =
        let xe : ¬ (x ≡ e) = λ q. free.unheld (subst (λ w. w ∈ t.held) q m) in
        let xn : ¬ (x ≡ neg e) = λ q. free.unheld_neg (subst (λ w. w ∈ t.held) q m) in
        grind (arith, tl x e, tl x (neg e))

    abbrev names : List A
    names = e ∷ neg e ∷ t.held

    -- what holds of e, of neg e and of the rest holds of all
    each : (P : A → Type 0) → P e → P (neg e) → ((x : A) → x ∈ t.held → P x) → (x : A) → x ∈ names → P x
    each P p q r x (inl h) = subst P (sym h) p
    each P p q r x (inr (inl h)) = subst P (sym h) q
    each P p q r x (inr (inr m)) = r x m

    pub started_lawful : Lawful neg (started neg same e t)
    started_lawful = record {
      apart = (fresh, (free.unheld_neg, law.apart));
      paired = each (λ x. neg x ∈ names) (inr (inl refl)) (inl free.again) (λ x m. inr (inr (law.paired x m)));
      twice = each (λ x. neg (neg x) ≡ x) free.again (ap neg free.again) law.twice;
      proper = each (λ x. ¬ (neg x ≡ x)) free.two (λ h. free.two (sym h ∙ free.again)) law.proper;
      ahead = each (λ x. f x ∈ names) (inl (rest_e t.follower)) (inr (inl (rest_n t.follower)))
          (λ x m. subst (λ w. w ∈ names) (sym (rest_on t.follower x m)) (inr (inr (law.ahead x m))));
      behind = each (λ x. g x ∈ names) (inl (rest_e t.predecessor)) (inr (inl (rest_n t.predecessor)))
          (λ x m. subst (λ w. w ∈ names) (sym (rest_on t.predecessor x m)) (inr (inr (law.behind x m))));
      undone = each (λ x. g (f x) ≡ x) (ap g (rest_e t.follower) ∙ rest_e t.predecessor) (ap g (rest_n t.follower) ∙ rest_n t.predecessor)
          (λ x m. ap g (rest_on t.follower x m) ∙ rest_on t.predecessor (t.follower x) (law.ahead x m) ∙ law.undone x m);
      redone = each (λ x. f (g x) ≡ x) (ap f (rest_e t.predecessor) ∙ rest_e t.follower) (ap f (rest_n t.predecessor) ∙ rest_n t.follower)
          (λ x m. ap f (rest_on t.predecessor x m) ∙ rest_on t.follower (t.predecessor x) (law.behind x m) ∙ law.redone x m);
    }
      where
        f : A → A
        f = resting neg same e t.follower

        g : A → A
        g = resting neg same e t.predecessor

        fresh : (e ≡ neg e) ⊎ (e ∈ t.held) → ⊥
        fresh (inl h) = free.two (sym h)
        fresh (inr m) = free.unheld m
