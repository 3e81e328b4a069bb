-- A search through one piece: the line has the names that are reached, each once, and those before `at` have had their steps taken.
-- Assumes nothing.
use Rattle.std.proofs.Common.{◌≡◌, ℕ, zero, suc, ◌+◌, ◌*◌, ◌<◌, ◌≤◌, true, false, T, ◌≢◌, ◌⊎◌, ◌↔◌, List, [], ◌∷◌, length, get_or, set, ℤ, pos, neg_ℤ, sym, refl, ap, ◌∙◌, subst, inl, inr, add-one, arith, get_or-set_other, get_or-set_same}
use Rattle.std.proofs.lemmas.List.{length-set}
use Rattle.std.proofs.lemmas.Bool.{cases_eq, both_ways}
use Rattle.flat.specs.Orbits.{◌∈◌, Distinct, Reach, ends, stay, walk}
use Rattle.flat.proofs.Basics.{pigeon, T_true, T_same}
use Rattle.flat.proofs.Walks.{follow, one}
use Rattle.turning.specs.Turn.{Turn, Lawful}
use Rattle.turning.specs.Counts.{holding, same_piece}
use Rattle.search.specs.Marks.{place, marked, Clean, Closed, Noted, Spreads, piece_steps}
use Rattle.turning.proofs.Listed.{true_T, in_holding, holding_length}
use Rattle.turning.proofs.Tests.{piece_held, piece_walk}
use Rattle.search.proofs.Marking.{held_within, marked_set, unmarked_clean}

-- the first names of the line, the last first
abbrev pub queue : List ℤ → ℕ → List ℤ
queue l zero = []
queue l (suc k) = get_or l k (pos 0) ∷ queue l k

queue_length : (l : List ℤ) (k : ℕ) → length (queue l k) ≡ k
queue_length l zero = refl
queue_length l (suc k) = ap suc (queue_length l k)

queue_at : (l : List ℤ) (k : ℕ) (z : ℤ) → z ∈ queue l k → (i : ℕ) × (i < k) × (z ≡ get_or l i (pos 0))
queue_at l zero z m = absurd m
queue_at l (suc k) z (inl e) = (k, omega arith, e)
queue_at l (suc k) z (inr m) =
    let r : (i : ℕ) × (i < k) × (z ≡ get_or l i (pos 0)) = queue_at l k z m in
    let b : r.0 < k = r.1 in
    (r.0, omega arith, r.2)

at_queue : (l : List ℤ) (k i : ℕ) → i < k → get_or l i (pos 0) ∈ queue l k
at_queue l zero i b = absurd (omega arith)
at_queue l (suc k) i b = go (at_queue l k i) (cases_eq i k)
  where
    go : (i < k → get_or l i (pos 0) ∈ queue l k) → (i ≡ k) ⊎ (i ≡ k → ⊥) → get_or l i (pos 0) ∈ queue l (suc k)
    go rec (inl e) = inl (ap (λ j. get_or l j (pos 0)) e)
    go rec (inr d) = inr (rec (omega arith))

-- a write past them leaves them
queue_set : (l : List ℤ) (k j : ℕ) (x : ℤ) → k ≤ j → queue (set l j x) k ≡ queue l k
queue_set l zero j x b = refl
queue_set l (suc k) j x b =
    let ne : k ≢ j = omega arith in
    ap (λ z. z ∷ queue (set l j x) k) (get_or-set_other l j k x (pos 0) ne) ∙ ap (λ q. get_or l k (pos 0) ∷ q) (queue_set l k j x (omega arith))

queue_push : (l : List ℤ) (k : ℕ) (x : ℤ) → k < length l → queue (set l k x) (k + 1) ≡ x ∷ queue l k
queue_push l k x b =
    ap (queue (set l k x)) (add-one k)
    ∙ ap (λ z. z ∷ queue (set l k x) k) (get_or-set_same l k x (pos 0) b) ∙ ap (λ q. x ∷ q) (queue_set l k k x (omega arith))

-- a note leaves the line as long as it was
pub noted_wide : (n : ℕ) (x : ℤ) (m m' : List ℕ) (l l' : List ℤ) (end r : ℕ) → Noted n x m m' l l' end r → length l' ≡ length l
noted_wide n x m m' l l' end r (inl (_, _, e, _)) = ap length e
noted_wide n x m m' l l' end r (inr (_, _, e, _)) = ap length e ∙ length-set l end x

-- marked, and not h
unfoldable pub But : ℕ → List ℕ → ℤ → ℤ → Type 0
But n m h z = T (marked n m z) × (¬ (z ≡ h))

module _ (n : ℕ) (t : Turn) where
  pub record Flood (h : ℤ) (B : ℤ → Type 0) (m : List ℕ) (l : List ℤ) (at end : ℕ) : Type 0 where
    pub order : at ≤ end
    pub apart : Distinct (queue l end)
    pub led : (z : ℤ) → z ∈ queue l end → Reach (piece_steps t) h z
    pub marks : (z : ℤ) → t.held z ≡ true → T (marked n m z) ↔ (B z ⊎ (z ∈ queue l end))
    pub done : (i : ℕ) → i < at → T (marked n m (t.follower (get_or l i (pos 0)))) × T (marked n m (neg_ℤ (get_or l i (pos 0))))

  -- the names that are marked
  abbrev pub In : List ℕ → ℤ → Type 0
  In m z = T (marked n m z)

  pub flood_none : (h : ℤ) (m : List ℕ) (l : List ℤ) → Flood h (In m) m l 0 0
  flood_none h m l = record { order = omega arith; apart = tt; led = λ z k. absurd k; marks = λ z e. (inl, back z); done = λ i b. absurd (omega arith) }
    where
      back : (z : ℤ) → T (marked n m z) ⊎ ⊥ → T (marked n m z)
      back z (inl p) = p
      back z (inr k) = absurd k

  -- the names before, told in another way
  pub flood_like : (h : ℤ) (B B' : ℤ → Type 0) (m : List ℕ) (l : List ℤ) (at end : ℕ) → ((z : ℤ) → t.held z ≡ true → B z ↔ B' z) → Flood h B m l at end → Flood h B' m l at end
  flood_like h B B' m l at end w f = record { order = f.order; apart = f.apart; led = f.led; marks = λ z e. ((λ p. there z e ((f.marks z e).0 p)), λ q. (f.marks z e).1 (back z e q)); done = f.done }
    where
      there : (z : ℤ) → t.held z ≡ true → B z ⊎ (z ∈ queue l end) → B' z ⊎ (z ∈ queue l end)
      there z e (inl p) = inl ((w z e).0 p)
      there z e (inr q) = inr q

      back : (z : ℤ) → t.held z ≡ true → B' z ⊎ (z ∈ queue l end) → B z ⊎ (z ∈ queue l end)
      back z e (inl p) = inl ((w z e).1 p)
      back z e (inr q) = inr q

  module _ (law : Lawful n t) (h : ℤ) (eh : t.held h ≡ true) where
    -- there is room for one more
    pub flood_room : (B : ℤ → Type 0) (m : List ℕ) (l : List ℤ) (at end : ℕ) (x : ℤ) → Flood h B m l at end → t.held x ≡ true → marked n m x ≡ false → end < 2 * n
    flood_room B m l at end x f e d =
        omega (arith, queue_length l end, holding_length n t law, pigeon (x ∷ queue l end) (holding n t) (fresh, f.apart) inside)
      where
        fresh : ¬ (x ∈ queue l end)
        fresh k = both_ways (marked n m x) d (T_true (marked n m x) ((f.marks x e).1 (inr k)))

        inside : (z : ℤ) → (z ≡ x) ⊎ (z ∈ queue l end) → z ∈ holding n t
        inside z (inl q) = in_holding n t law z (subst (λ w. t.held w ≡ true) (sym q) e)
        inside z (inr k) = in_holding n t law z (piece_held n t law h z eh (f.led z k))

    -- no more than there are names
    pub flood_few : (B : ℤ → Type 0) (m : List ℕ) (l : List ℤ) (at end : ℕ) → Flood h B m l at end → end ≤ 2 * n
    flood_few B m l at end f =
        omega (arith, queue_length l end, holding_length n t law, pigeon (queue l end) (holding n t) f.apart (λ z k. in_holding n t law z (piece_held n t law h z eh (f.led z k))))

    -- all on the line are held
    pub flood_held : (B : ℤ → Type 0) (m : List ℕ) (l : List ℤ) (at end i : ℕ) → Flood h B m l at end → i < end → t.held (get_or l i (pos 0)) ≡ true
    flood_held B m l at end i f b = piece_held n t law h (get_or l i (pos 0)) eh (f.led (get_or l i (pos 0)) (at_queue l end i b))

    pub flood_led : (B : ℤ → Type 0) (m : List ℕ) (l : List ℤ) (at end i : ℕ) → Flood h B m l at end → i < end → Reach (piece_steps t) h (get_or l i (pos 0))
    flood_led B m l at end i f b = f.led (get_or l i (pos 0)) (at_queue l end i b)

    -- one more name is noted: the search goes on, x is marked, and what stood in the line and what was marked stay
    pub record Noting (B : ℤ → Type 0) (m m' : List ℕ) (l l' : List ℤ) (at end r : ℕ) (x : ℤ) : Type 0 where
      pub flood : Flood h B m' l' at r
      pub here : T (marked n m' x)
      pub stays : (z : ℤ) → t.held z ≡ true → T (marked n m z) → T (marked n m' z)
      pub same : (i : ℕ) → i < end → get_or l' i (pos 0) ≡ get_or l i (pos 0)
      pub longer : end ≤ r

    module _ (B : ℤ → Type 0) (m m' : List ℕ) (l l' : List ℤ) (at end r : ℕ) (x : ℤ) (long : length m ≡ 2 * n + 1) (wide : length l ≡ 2 * n)
        (f : Flood h B m l at end) (e : t.held x ≡ true) (p : Reach (piece_steps t) h x) where
      pushed : marked n m x ≡ false → Noting B m (set m (place n x) 1) l (set l end x) at end (end + 1) x
      pushed d = record {
        flood = record { order = let o = f.order in omega arith; apart = subst Distinct (sym push) (fresh, f.apart); led = led; marks = marks; done = λ i b. done i b };
        here = (one_more x e).1 (inr refl);
        stays = λ z k q. (one_more z k).1 (inl q);
        same = same;
        longer = omega arith;
      }
        where
          room : end < 2 * n
          room = flood_room B m l at end x f e d

          push : queue (set l end x) (end + 1) ≡ x ∷ queue l end
          push = queue_push l end x (omega (arith, room))

          fresh : ¬ (x ∈ queue l end)
          fresh k = both_ways (marked n m x) d (T_true (marked n m x) ((f.marks x e).1 (inr k)))

          one_more : (z : ℤ) → t.held z ≡ true → T (marked n (set m (place n x) 1) z) ↔ (T (marked n m z) ⊎ (z ≡ x))
          one_more z k = marked_set n m long x z (held_within n t law x e) (held_within n t law z k)

          led : (z : ℤ) → z ∈ queue (set l end x) (end + 1) → Reach (piece_steps t) h z
          led z k = go (subst (λ q. z ∈ q) push k)
            where
              go : (z ≡ x) ⊎ (z ∈ queue l end) → Reach (piece_steps t) h z
              go (inl q) = subst (λ w. Reach (piece_steps t) h w) (sym q) p
              go (inr q) = f.led z q

          marks : (z : ℤ) → t.held z ≡ true → T (marked n (set m (place n x) 1) z) ↔ (B z ⊎ (z ∈ queue (set l end x) (end + 1)))
          marks z k = ((λ q. there ((one_more z k).0 q)), back)
            where
              there : T (marked n m z) ⊎ (z ≡ x) → B z ⊎ (z ∈ queue (set l end x) (end + 1))
              there (inr q) = inr (subst (λ w. z ∈ w) (sym push) (inl q))
              there (inl q) = go ((f.marks z k).0 q)
                where
                  go : B z ⊎ (z ∈ queue l end) → B z ⊎ (z ∈ queue (set l end x) (end + 1))
                  go (inl s) = inl s
                  go (inr s) = inr (subst (λ w. z ∈ w) (sym push) (inr s))

              back : B z ⊎ (z ∈ queue (set l end x) (end + 1)) → T (marked n (set m (place n x) 1) z)
              back (inl q) = (one_more z k).1 (inl ((f.marks z k).1 (inl q)))
              back (inr q) = go (subst (λ w. z ∈ w) push q)
                where
                  go : (z ≡ x) ⊎ (z ∈ queue l end) → T (marked n (set m (place n x) 1) z)
                  go (inl s) = (one_more z k).1 (inr s)
                  go (inr s) = (one_more z k).1 (inl ((f.marks z k).1 (inr s)))

          same : (i : ℕ) → i < end → get_or (set l end x) i (pos 0) ≡ get_or l i (pos 0)
          same i b = let ne : i ≢ end = omega arith in get_or-set_other l end i x (pos 0) ne

          done : (i : ℕ) → i < at → T (marked n (set m (place n x) 1) (t.follower (get_or (set l end x) i (pos 0)))) × T (marked n (set m (place n x) 1) (neg_ℤ (get_or (set l end x) i (pos 0))))
          done i b = let o = f.order in
              let c : i < end = omega arith in
              let k : t.held (get_or l i (pos 0)) ≡ true = flood_held B m l at end i f c in
              subst (λ w. T (marked n (set m (place n x) 1) (t.follower w)) × T (marked n (set m (place n x) 1) (neg_ℤ w))) (sym (same i c))
              ((one_more (t.follower (get_or l i (pos 0))) (law.ahead (get_or l i (pos 0)) k)).1 (inl (f.done i b).0), (one_more (neg_ℤ (get_or l i (pos 0))) (law.closed (get_or l i (pos 0)) k)).1 (inl (f.done i b).1))

      pub noted : Noted n x m m' l l' end r → Noting B m m' l l' at end r x
      noted (inl (d, em, el, er)) =
          subst (λ a. Noting B m a l l' at end r x) (sym em) (subst (λ a. Noting B m m l a at end r x) (sym el) (subst (λ a. Noting B m m l l at end a x) (sym er)
          (record { flood = f; here = true_T (marked n m x) d; stays = λ z k q. q; same = λ i b. refl; longer = omega arith })))
      noted (inr (d, em, el, er)) =
          subst (λ a. Noting B m a l l' at end r x) (sym em) (subst (λ a. Noting B m (set m (place n x) 1) l a at end r x) (sym el)
          (subst (λ a. Noting B m (set m (place n x) 1) l (set l end x) at end a x) (sym er) (pushed d)))

    -- one more has had its steps taken
    pub flood_on : (B : ℤ → Type 0) (m : List ℕ) (l : List ℤ) (at end : ℕ) → Flood h B m l at end → at < end
        → T (marked n m (t.follower (get_or l at (pos 0)))) → T (marked n m (neg_ℤ (get_or l at (pos 0)))) → Flood h B m l (at + 1) end
    flood_on B m l at end f b p q = record { order = omega arith; apart = f.apart; led = f.led; marks = f.marks; done = λ i c. done i (cases_eq i at) c }
      where
        done : (i : ℕ) → (i ≡ at) ⊎ (i ≡ at → ⊥) → i < at + 1 → T (marked n m (t.follower (get_or l i (pos 0)))) × T (marked n m (neg_ℤ (get_or l i (pos 0))))
        done i (inl s) c = subst (λ j. T (marked n m (t.follower (get_or l j (pos 0)))) × T (marked n m (neg_ℤ (get_or l j (pos 0))))) (sym s) (p, q)
        done i (inr d) c = f.done i (omega arith)

    -- both steps from the name at `at` are noted
    module _ (B : ℤ → Type 0) (m m' m'' : List ℕ) (l l' l'' : List ℤ) (at end r r' : ℕ) (b : at < end) where
      x : ℤ
      x = get_or l at (pos 0)

      pub note_first : length m ≡ 2 * n + 1 → length l ≡ 2 * n → Flood h B m l at end → Noted n (t.follower (get_or l at (pos 0))) m m' l l' end r
          → Noting B m m' l l' at end r (t.follower (get_or l at (pos 0)))
      unfolding x
      note_first long wide f = noted B m m' l l' at end r (t.follower x) long wide f (law.ahead x (flood_held B m l at end at f b)) (follow (flood_led B m l at end at f b) (one (inl refl)))

      pub note_second : length m' ≡ 2 * n + 1 → length l' ≡ 2 * n → Flood h B m l at end → Flood h B m' l' at r → Noted n (neg_ℤ (get_or l at (pos 0))) m' m'' l' l'' r r'
          → Noting B m' m'' l' l'' at r r' (neg_ℤ (get_or l at (pos 0)))
      unfolding x
      note_second long wide f f' = noted B m' m'' l' l'' at r r' (neg_ℤ x) long wide f' (law.closed x (flood_held B m l at end at f b)) (follow (flood_led B m l at end at f b) (one (inr (inl refl))))

      pub note_both : Flood h B m l at end → Noting B m m' l l' at end r (t.follower (get_or l at (pos 0))) → Noting B m' m'' l' l'' at r r' (neg_ℤ (get_or l at (pos 0))) → Flood h B m'' l'' (at + 1) r'
      unfolding x
      note_both f p q = flood_on B m'' l'' at r' q.flood (omega (arith, b, p.longer, q.longer))
          (subst (λ w. T (marked n m'' (t.follower w))) (sym still) (q.stays (t.follower x) (law.ahead x (flood_held B m l at end at f b)) p.here))
          (subst (λ w. T (marked n m'' (neg_ℤ w))) (sym still) q.here)
        where
          still : get_or l'' at (pos 0) ≡ x
          still = q.same at (omega (arith, b, p.longer)) ∙ p.same at b

    -- marked, but for h: what was marked before h was
    pub but_first : (m₀ m : List ℕ) → length m₀ ≡ 2 * n + 1 → marked n m₀ h ≡ false → m ≡ set m₀ (place n h) 1
        → (z : ℤ) → t.held z ≡ true → In m₀ z ↔ But n m h z
    unfolding But
    but_first m₀ m long d e z k = (there, λ p. back (one_more.0 (subst (λ l. T (marked n l z)) e p.0)) p.1)
      where
        one_more : T (marked n (set m₀ (place n h) 1) z) ↔ (T (marked n m₀ z) ⊎ (z ≡ h))
        one_more = marked_set n m₀ long h z (held_within n t law h eh) (held_within n t law z k)

        there : In m₀ z → In m z × (¬ (z ≡ h))
        there p = (subst (λ l. T (marked n l z)) (sym e) (one_more.1 (inl p)), λ q. both_ways (marked n m₀ h) d (T_true (marked n m₀ h) (subst (λ w. T (marked n m₀ w)) q p)))

        back : In m₀ z ⊎ (z ≡ h) → ¬ (z ≡ h) → In m₀ z
        back (inl p) x = p
        back (inr q) x = absurd (x q)

    -- all have: what can be reached is marked
    pub flood_all : (m₀ m : List ℕ) (l : List ℤ) (at end : ℕ) → Flood h (In m₀) m l at end → end ≤ at → T (marked n m h) → Closed n t (piece_steps t) m₀ → Spreads n t (piece_steps t) h m₀ m
    flood_all m₀ m l at end f b first closed z k = ((λ p. there ((f.marks z k).0 p)), back)
      where
        there : T (marked n m₀ z) ⊎ (z ∈ queue l end) → T (marked n m₀ z) ⊎ Reach (piece_steps t) h z
        there (inl p) = inl p
        there (inr q) = inr (f.led z q)

        steps : (y : ℤ) → t.held y ≡ true → T (marked n m y) → T (marked n m (t.follower y)) × T (marked n m (neg_ℤ y))
        steps y e p = go ((f.marks y e).0 p)
          where
            go : T (marked n m₀ y) ⊎ (y ∈ queue l end) → T (marked n m (t.follower y)) × T (marked n m (neg_ℤ y))
            go (inl q) = ((f.marks (t.follower y) (law.ahead y e)).1 (inl (closed y _ e q (inl refl))), (f.marks (neg_ℤ y) (law.closed y e)).1 (inl (closed y _ e q (inr (inl refl)))))
            go (inr q) =
                let r : (i : ℕ) × (i < end) × (y ≡ get_or l i (pos 0)) = queue_at l end y q in
                let c : r.0 < end = r.1 in
                subst (λ w. T (marked n m (t.follower w)) × T (marked n m (neg_ℤ w))) (sym r.2) (f.done r.0 (omega arith))

        along : {y w : ℤ} → t.held y ≡ true → T (marked n m y) → Reach (piece_steps t) y w → T (marked n m w)
        along e p stay = p
        along e p (walk {x = y} (inl s) q) = along (subst (λ v. t.held v ≡ true) (sym s) (law.ahead y e)) (subst (λ v. T (marked n m v)) (sym s) (steps y e p).0) q
        along e p (walk {x = y} (inr (inl s)) q) = along (subst (λ v. t.held v ≡ true) (sym s) (law.closed y e)) (subst (λ v. T (marked n m v)) (sym s) (steps y e p).1) q
        along e p (walk (inr (inr s)) q) = absurd s

        back : T (marked n m₀ z) ⊎ Reach (piece_steps t) h z → T (marked n m z)
        back (inl p) = (f.marks z k).1 (inl p)
        back (inr p) = along eh first p

    -- what spreads from closed marks is closed
    pub spreads_closed : (m m' : List ℕ) → Closed n t (piece_steps t) m → Spreads n t (piece_steps t) h m m' → Closed n t (piece_steps t) m'
    spreads_closed m m' c s z y k p on = (s y (held on)).1 (go ((s z k).0 p))
      where
        held : y ∈ ends (piece_steps t) z → t.held y ≡ true
        held (inl e) = subst (λ w. t.held w ≡ true) (sym e) (law.ahead z k)
        held (inr (inl e)) = subst (λ w. t.held w ≡ true) (sym e) (law.closed z k)
        held (inr (inr e)) = absurd e

        go : T (marked n m z) ⊎ Reach (piece_steps t) h z → T (marked n m y) ⊎ Reach (piece_steps t) h y
        go (inl q) = inl (c z y k q on)
        go (inr q) = inr (follow q (one on))

    -- from clean marks, those marked are those of the piece of h
    pub clean_marks : (m m' : List ℕ) (k : ℤ) → t.held k ≡ true → Clean m → Spreads n t (piece_steps t) h m m' → marked n m' k ≡ same_piece n t h k
    clean_marks m m' k e c s = T_same (marked n m' k) (same_piece n t h k) (λ p. (piece_walk n t law h k eh).1 (there ((s k e).0 p))) (λ p. (s k e).1 (inr ((piece_walk n t law h k eh).0 p)))
      where
        there : T (marked n m k) ⊎ Reach (piece_steps t) h k → Reach (piece_steps t) h k
        there (inl p) = absurd (unmarked_clean n m k c p)
        there (inr p) = p
