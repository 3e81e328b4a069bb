-- Rows that fill up with a chart, name by name. Assumes nothing.
use Rattle.std.proofs.Common.{◌≡◌, ℕ, zero, suc, ◌+◌, ◌*◌, ◌<◌, ◌≤◌, Bool, true, false, cond, not, ◌&&◌, eqb, leb, ◌⊎◌, List, length, get_or, ℤ, pos, negsuc, neg_ℤ, nat_abs, Some, None, Option, sym, refl, ap, ◌∙◌, subst, inl, inr, arith}
use Rattle.std.proofs.lemmas.List.{get_or_past}
use Rattle.std.proofs.lemmas.Int.{ints}
use Rattle.std.proofs.lemmas.Bool.{cond-true, cond-false, both_ways, le-leb, cases_lt, cases_eq, and_parts, and_left, and_right, and_from, eq-eqb, ne_eqb, eqb-true, lt-leb}
use Rattle.std.proofs.lemmas.Bool.Decides.{eqb_tells, leb_tells}
use Rattle.flat.specs.Orbits.{indicator}
use Rattle.flat.specs.Whole.{equal}
use Rattle.turning.specs.Limits.{max_edge, slots}
use Rattle.turning.specs.Turn.{Turn, Lawful}
use Rattle.chart.specs.declared.point.Point.{Point}
use Rattle.chart.specs.Points.{told_on_sheet}
use Rattle.chart.specs.Changes.{at}
use Rattle.chart.specs.Linework.{Linework, Placed}
use Rattle.laws.specs.Keeps.{Sound}
use Rattle.laws.proofs.Equal.{tell, Tells}
use Rattle.halfedges.specs.declared.halfedge.Halfedge.{Halfedge}
use Rattle.halfedges.specs.View.{View, none, bare, seen, row_of}
use Rattle.halfedges.specs.Rows.{turn_of, row_point, points_of, lines_in, home, Indexed, settled, count, taken_row, used, row_in, slot_count, edge_count, Blank}
use Rattle.halfedges.specs.Copies.{point_or_origin, row_for, copied_edge, held_to, Copied}
use Rattle.halfedges.proofs.Counted.{count_more}
use Rattle.halfedges.proofs.EdgeCount.{edges_none, edges_more}
use Rattle.halfedges.proofs.Blank.{none_held}
use Rattle.halfedges.proofs.Views.{zero_row, row_is}

-- ---- nothing is done yet
pub copied_none : (l : Linework) (done : ℤ → Bool) (v : View) → ((h : ℤ) → done h ≡ false) → ((h : ℤ) → v.entry h ≡ 0) → ((s : ℕ) → v.row s ≡ none) → Copied l done 0 v
copied_none l done v nothing no_entry no_row = record {
  low = λ h e. absurd (both_ways _ (nothing h) e);
  high = λ h e. absurd (both_ways _ (nothing h) e);
  right = λ h e. absurd (both_ways _ (nothing h) e);
  others = λ h _. no_entry h;
  filled = λ s l u. absurd (omega arith);
  found = λ s l u. absurd (omega arith);
  free = λ s _. no_row s;
  no_slot = no_row 0;
}

-- ---- one name more
module _ (l : Linework) (done : ℤ → Bool) (k : ℕ) (v : View) (c : Copied l done k v) (h : ℤ) (new : done h ≡ false) where
  abbrev v' : View
  v' = settled (k + 1) h (row_for l h) v

  right' : (g : ℤ) → at h true done g ≡ true → row_of v' g ≡ row_for l g
  right' g e = go (tell g h)
    where
      go : Tells g h → row_of v' g ≡ row_for l g
      go (inl s) = ap (λ n. cond (eqb n (k + 1)) (row_for l h) (v.row n)) (cond-true (equal g h) (k + 1) (v.entry g) s.0) ∙ cond-true (eqb (k + 1) (k + 1)) _ _ (eq-eqb (k + 1) (k + 1) refl) ∙ ap (row_for l) (sym s.1)
      go (inr s) =
          let was : done g ≡ true = sym (cond-false (equal g h) true (done g) s.0) ∙ e in
          let u = c.high g was in
          let other : eqb (v.entry g) (k + 1) ≡ false = grind (arith, eqb_tells (v.entry g) (k + 1)) in
          ap (λ n. cond (eqb n (k + 1)) (row_for l h) (v.row n)) (cond-false (equal g h) (k + 1) (v.entry g) s.0) ∙ cond-false _ _ _ other ∙ c.right g was

  pub copied_on : Copied l (at h true done) (k + 1) (settled (k + 1) h (row_for l h) v)
  copied_on = record {
    low = λ g e. grind (arith, tell g h, c.low g);
    high = λ g e. grind (arith, tell g h, c.high g);
    right = right';
    others = λ g e. grind (arith, tell g h, c.others g);
    filled = λ s a b. go_filled s a b (cases_eq s (k + 1));
    found = λ s a b. go_found s a b (cases_eq s (k + 1));
    free = λ s a. let other : eqb s (k + 1) ≡ false = grind (arith, eqb_tells s (k + 1)) in cond-false _ _ _ other ∙ c.free s (omega arith);
    no_slot = let other : eqb 0 (k + 1) ≡ false = grind (arith, eqb_tells 0 (k + 1)) in cond-false _ _ _ other ∙ c.no_slot;
  }
    where
      here : (s : ℕ) → s ≡ k + 1 → (v'.row s).name ≡ h
      here s e = ap (λ (r : Halfedge). r.name) (cond-true (eqb s (k + 1)) (row_for l h) (v.row s) (eq-eqb s (k + 1) e))

      elsewhere : (s : ℕ) → (s ≡ k + 1 → ⊥) → (v'.row s).name ≡ (v.row s).name
      elsewhere s d = ap (λ (r : Halfedge). r.name) (cond-false (eqb s (k + 1)) (row_for l h) (v.row s) (ne_eqb s (k + 1) d))

      go_filled : (s : ℕ) → 1 ≤ s → s ≤ k + 1 → (s ≡ k + 1) ⊎ (s ≡ k + 1 → ⊥) → at h true done (v'.row s).name ≡ true
      go_filled s a b (inl e) = ap (at h true done) (here s e) ∙ grind (arith, tell h h)
      go_filled s a b (inr d) = ap (at h true done) (elsewhere s d) ∙ grind (arith, tell (v.row s).name h, c.filled s a)

      go_found : (s : ℕ) → 1 ≤ s → s ≤ k + 1 → (s ≡ k + 1) ⊎ (s ≡ k + 1 → ⊥) → v'.entry (v'.row s).name ≡ s
      go_found s a b (inl e) = ap v'.entry (here s e) ∙ grind (arith, tell h h)
      go_found s a b (inr d) =
          let was = c.filled s a (omega arith) in
          let at-s = c.found s a (omega arith) in
          ap v'.entry (elsewhere s d) ∙ go (tell (v.row s).name h) was at-s
        where
          go : Tells (v.row s).name h → done (v.row s).name ≡ true → v.entry (v.row s).name ≡ s → at h (k + 1) v.entry (v.row s).name ≡ s
          go (inl t) was at-s = absurd (both_ways _ (ap done t.1 ∙ new) was)
          go (inr t) was at-s = cond-false _ _ _ t.0 ∙ at-s

-- ---- both names of an edge more
pub copied_both : (l : Linework) (done : ℤ → Bool) (k : ℕ) (v : View) → Copied l done k v → (e : ℕ) → 1 ≤ e → done (pos e) ≡ false → done (neg_ℤ (pos e)) ≡ false
    → Copied l (at (neg_ℤ (pos e)) true (at (pos e) true done)) (k + 2) (copied_edge l e k v)
copied_both l done k v c e low plus minus =
    let first = copied_on l done k v c (pos e) plus in
    let apart : (neg_ℤ (pos e) ≡ pos e → ⊥) = λ z. omega (arith, ints) in
    let new : at (pos e) true done (neg_ℤ (pos e)) ≡ false = grind (arith, tell (neg_ℤ (pos e)) (pos e), apart, minus) in
    let second = copied_on l (at (pos e) true done) (k + 1) _ first (neg_ℤ (pos e)) new in
    let two : (k + 1) + 1 ≡ k + 2 = omega arith in
    subst (λ n. Copied l (at (neg_ℤ (pos e)) true (at (pos e) true done)) n (settled n (neg_ℤ (pos e)) (row_for l (neg_ℤ (pos e))) (settled (k + 1) (pos e) (row_for l (pos e)) v))) two second

-- what is done counts only name by name
pub copied_same : (l : Linework) (done did : ℤ → Bool) (k : ℕ) (v : View) → ((h : ℤ) → done h ≡ did h) → Copied l done k v → Copied l did k v
copied_same l done did k v e c = subst (λ d. Copied l d k v) (λ i h. e h i) c

-- ---- the names of the edges so far
pub held_to_none : (n : ℕ) (t : Turn) → Lawful n t → (h : ℤ) → held_to t 0 h ≡ false
held_to_none n t l (pos zero) = and_left _ _ l.no_zero
held_to_none n t l (pos (suc m)) = and_right (t.held (pos (suc m))) (leb (suc m) 0) (lt-leb (suc m) 0 (omega arith))
held_to_none n t l (negsuc m) = and_right (t.held (negsuc m)) (leb (suc m) 0) (lt-leb (suc m) 0 (omega arith))

module _ (n : ℕ) (t : Turn) (l : Lawful n t) (i : ℕ) where
  two_names : (h : ℤ) → nat_abs h ≡ suc i → (h ≡ pos (suc i)) ⊎ (h ≡ negsuc i)
  two_names (pos m) e = inl (ap pos e)
  two_names (negsuc m) e = inr (ap negsuc (let s : suc m ≡ suc i = e in omega arith))

  -- both names of an edge are held, or none
  held_alike : (b : Bool) → t.held (pos (suc i)) ≡ b → (h : ℤ) → nat_abs h ≡ suc i → t.held h ≡ b
  held_alike b e h s = go (two_names h s)
    where
      minus : (b c : Bool) → t.held (pos (suc i)) ≡ b → t.held (negsuc i) ≡ c → t.held (negsuc i) ≡ b
      minus true c p q = l.closed (pos (suc i)) p
      minus false true p q = absurd (both_ways _ p (l.closed (negsuc i) q))
      minus false false p q = q

      go : (h ≡ pos (suc i)) ⊎ (h ≡ negsuc i) → t.held h ≡ b
      go (inl z) = ap t.held z ∙ e
      go (inr z) = ap t.held z ∙ minus b (t.held (negsuc i)) e refl

  -- a name of another edge is done as before
  as_before : (h : ℤ) → (nat_abs h ≡ suc i → ⊥) → held_to t i h ≡ held_to t (suc i) h
  as_before h d = ap (λ b. t.held h && b) (same (nat_abs h) d)
    where
      same : (m : ℕ) → (m ≡ suc i → ⊥) → leb m i ≡ leb m (suc i)
      same m d = grind (arith, leb_tells m i, leb_tells m (suc i), d)

  -- an edge that is not held adds nothing
  pub held_to_less : t.held (pos (suc i)) ≡ false → (h : ℤ) → held_to t i h ≡ held_to t (suc i) h
  held_to_less out h = go (cases_eq (nat_abs h) (suc i))
    where
      go : (nat_abs h ≡ suc i) ⊎ (nat_abs h ≡ suc i → ⊥) → held_to t i h ≡ held_to t (suc i) h
      go (inl e) = let no = held_alike false out h e in and_left _ _ no ∙ sym (and_left _ _ no)
      go (inr d) = as_before h d

  -- the names of the next edge are not done
  pub held_to_new : (h : ℤ) → nat_abs h ≡ suc i → held_to t i h ≡ false
  held_to_new h e = and_right (t.held h) (leb (nat_abs h) i) (lt-leb (nat_abs h) i (omega (arith, e)))

  -- an edge that is held adds its two names
  pub held_to_more : t.held (pos (suc i)) ≡ true → (h : ℤ) → at (negsuc i) true (at (pos (suc i)) true (held_to t i)) h ≡ held_to t (suc i) h
  held_to_more here h = go (cases_eq (nat_abs h) (suc i))
    where
      named : (h ≡ pos (suc i)) ⊎ (h ≡ negsuc i) → at (negsuc i) true (at (pos (suc i)) true (held_to t i)) h ≡ true
      named (inl z) = grind (arith, tell h (pos (suc i)), tell h (negsuc i))
      named (inr z) = grind (arith, tell h (negsuc i))

      go : (nat_abs h ≡ suc i) ⊎ (nat_abs h ≡ suc i → ⊥) → at (negsuc i) true (at (pos (suc i)) true (held_to t i)) h ≡ held_to t (suc i) h
      go (inl e) = named (two_names h e) ∙ sym (and_from _ _ (held_alike true here h e) (le-leb (nat_abs h) (suc i) (omega (arith, e))))
      go (inr d) =
          let p : (h ≡ pos (suc i) → ⊥) = λ z. d (ap nat_abs z) in
          let q : (h ≡ negsuc i → ⊥) = λ z. d (ap nat_abs z) in
          let r : at (negsuc i) true (at (pos (suc i)) true (held_to t i)) h ≡ held_to t i h = grind (arith, tell h (pos (suc i)), tell h (negsuc i), p, q) in
          r ∙ as_before h d

-- at the end all names are done
pub held_to_all : (n : ℕ) (t : Turn) → Lawful n t → (h : ℤ) → held_to t n h ≡ t.held h
held_to_all n t l h = go (t.held h) refl
  where
    inside : (h : ℤ) → t.held h ≡ true → nat_abs h ≤ n
    inside (pos m) e = let u = l.high (pos m) e in omega (arith, ints)
    inside (negsuc m) e = let u = l.low (negsuc m) e in omega (arith, ints)

    go : (b : Bool) → t.held h ≡ b → held_to t n h ≡ t.held h
    go true e = and_from _ _ e (le-leb _ _ (inside h e)) ∙ sym e
    go false e = and_left _ _ e ∙ sym e

-- ---- counts
pub edges_rise : (t : Turn) (i n : ℕ) → i ≤ n → edge_count i t ≤ edge_count n t
unfolding edge_count
edges_rise t i zero u = let e : i ≡ 0 = omega arith in subst (λ j. edge_count j t ≤ edge_count 0 t) (sym e) (omega arith)
edges_rise t i (suc n) u = go (cases_eq i (suc n)) (edges_rise t i n)
  where
    go : (i ≡ suc n) ⊎ (i ≡ suc n → ⊥) → (i ≤ n → edge_count i t ≤ edge_count n t) → edge_count i t ≤ edge_count (suc n) t
    go (inl e) rec = subst (λ j. edge_count j t ≤ edge_count (suc n) t) (sym e) (omega arith)
    go (inr d) rec = let r = rec (omega arith) in let m = edges_more t n in omega (arith, m)

edges_here : (t : Turn) (i : ℕ) → t.held (pos (suc i)) ≡ true → 2 * edge_count (suc i) t ≡ 2 * edge_count i t + 2
edges_here t i e = let m = edges_more t i ∙ ap (λ b. indicator b + edge_count i t) e in omega (arith, m)

edges_not : (t : Turn) (i : ℕ) → t.held (pos (suc i)) ≡ false → edge_count (suc i) t ≡ edge_count i t
edges_not t i e = let m = edges_more t i ∙ ap (λ b. indicator b + edge_count i t) e in omega (arith, m)

-- ---- edge by edge
-- the edges 1 to i are copied, two slots each
abbrev pub CopiedTo : Linework → ℕ → ℕ → View → Type 0
CopiedTo l i k v = Copied l (held_to l.turn i) k v × (k ≡ 2 * edge_count i l.turn)

module _ (n : ℕ) (l : Linework) (w : Lawful n l.turn) (i k : ℕ) (v : View) (c : CopiedTo l i k v) where
  pub copied_skip : l.turn.held (pos (suc i)) ≡ false → CopiedTo l (suc i) k v
  copied_skip e = (copied_same l _ _ k v (held_to_less n l.turn w i e) c.0, c.1 ∙ ap (λ m. 2 * m) (sym (edges_not l.turn i e)))

  pub copied_more : l.turn.held (pos (suc i)) ≡ true → CopiedTo l (suc i) (k + 2) (copied_edge l (suc i) k v)
  copied_more e =
      let both = copied_both l (held_to l.turn i) k v c.0 (suc i) (omega arith) (held_to_new n l.turn w i (pos (suc i)) refl) (held_to_new n l.turn w i (negsuc i) refl) in
      let m = edges_here l.turn i e in
      let q = c.1 in
      (copied_same l _ _ (k + 2) _ (held_to_more n l.turn w i e) both, omega arith)

  -- the two slots are there
  pub copied_room : (cap : ℕ) → suc i ≤ n → 2 * edge_count n l.turn ≤ cap → l.turn.held (pos (suc i)) ≡ true → k + 2 ≤ cap
  copied_room cap u fits e = let m = edges_here l.turn i e in let r = edges_rise l.turn (suc i) n u in let q = c.1 in omega arith

-- in a blank memory no edge is copied yet
pub copied_blank : (l : Linework) → Lawful max_edge l.turn → (rs : List Halfedge) → Blank rs → slots ≤ length rs → CopiedTo l 0 0 (seen rs)
copied_blank l w rs blank long = (copied_none l _ (seen rs) (held_to_none max_edge l.turn w) no_entry no_row, sym (ap (λ m. 2 * m) (edges_none l.turn)))
  where
    no_entry : (h : ℤ) → (seen rs).entry h ≡ 0
    no_entry h = let e = none_held rs blank long h in grind (arith, eqb_tells ((seen rs).entry h) 0)

    no_row : (s : ℕ) → (seen rs).row s ≡ none
    no_row zero = zero_row max_edge slots rs
    no_row (suc i) = row_is max_edge slots rs i ∙ go (cases_lt i (length rs))
      where
        go : (i < length rs) ⊎ (length rs ≤ i) → bare (get_or rs i none) ≡ none
        go (inl a) = ap bare (blank i a)
        go (inr a) = ap bare (get_or_past rs i none a)

-- ---- more counts
-- a test that 1 to k pass, and no more
count_first : (n k : ℕ) (p : ℕ → Bool) → k ≤ n → ((i : ℕ) → 1 ≤ i → i ≤ k → p i ≡ true) → ((i : ℕ) → k < i → i ≤ n → p i ≡ false) → count n p ≡ k
count_first zero k p u passes fails = omega arith
count_first (suc n) k p u passes fails = go (cases_eq k (suc n)) (count_first n)
  where
    go : (k ≡ suc n) ⊎ (k ≡ suc n → ⊥) → ((k : ℕ) (p : ℕ → Bool) → k ≤ n → ((i : ℕ) → 1 ≤ i → i ≤ k → p i ≡ true) → ((i : ℕ) → k < i → i ≤ n → p i ≡ false) → count n p ≡ k) → count (suc n) p ≡ k
    go (inl e) rec =
        let a = ap indicator (passes (suc n) (omega arith) (omega arith)) in
        let b = rec n p (omega arith) (λ i x y. passes i x (omega arith)) (λ i x y. absurd (omega arith)) in
        omega arith
    go (inr d) rec =
        let a = ap indicator (fails (suc n) (omega arith) (omega arith)) in
        let b = rec k p (omega arith) passes (λ i x y. fails i x (omega arith)) in
        omega arith

-- a test that one place passes
count_one : (n s : ℕ) (p : ℕ → Bool) → 1 ≤ s → s ≤ n → p s ≡ true → ((i : ℕ) → (i ≡ s → ⊥) → p i ≡ false) → count n p ≡ 1
count_one n s p l u passes fails =
    let more = count_more n (λ _. false) p s l u refl passes fails in
    let none_pass = count_first n 0 (λ _. false) (omega arith) (λ i x y. absurd (omega arith)) (λ i x y. refl) in
    omega arith

-- ---- what the rows of a whole chart mean
module _ (n cap : ℕ) (l : Linework) (w : Lawful n l.turn) (o : Placed n l.turn l.points) (k : ℕ) (fits : k ≤ cap) (v : View) (c : Copied l l.turn.held k v) where
  held_same : (h : ℤ) → (turn_of v).held h ≡ l.turn.held h
  held_same h = go (l.turn.held h) refl
    where
      go : (b : Bool) → l.turn.held h ≡ b → (turn_of v).held h ≡ l.turn.held h
      go true e = let a = c.low h e in grind (arith, eqb_tells (v.entry h) 0)
      go false e = let a = c.others h e in grind (arith, eqb_tells (v.entry h) 0)

  off_row : (h : ℤ) → l.turn.held h ≡ false → row_of v h ≡ none
  off_row h e = ap v.row (c.others h e) ∙ c.no_slot

  follower_same : (h : ℤ) → (turn_of v).follower h ≡ l.turn.follower h
  follower_same h = go (l.turn.held h) refl
    where
      go : (b : Bool) → l.turn.held h ≡ b → (turn_of v).follower h ≡ l.turn.follower h
      go true e = ap (λ r. r.follower) (c.right h e)
      go false e = ap (λ r. r.follower) (off_row h e) ∙ sym (w.no_follower h e)

  predecessor_same : (h : ℤ) → (turn_of v).predecessor h ≡ l.turn.predecessor h
  predecessor_same h = go (l.turn.held h) refl
    where
      go : (b : Bool) → l.turn.held h ≡ b → (turn_of v).predecessor h ≡ l.turn.predecessor h
      go true e = ap (λ r. r.predecessor) (c.right h e)
      go false e = ap (λ r. r.predecessor) (off_row h e) ∙ sym (w.no_predecessor h e)

  some_told : (p : Option Point) → told_on_sheet p ≡ true → Some (point_or_origin p) ≡ p
  some_told None e = absurd (both_ways _ refl e)
  some_told (Some p) e = refl

  points_same : (h : ℤ) → points_of v h ≡ l.points h
  points_same h = go (l.turn.held h) refl
    where
      go : (b : Bool) → l.turn.held h ≡ b → points_of v h ≡ l.points h
      go true e = cond-true _ _ _ (held_same h ∙ e) ∙ ap (λ r. Some (row_point r)) (c.right h e) ∙ some_told (l.points h) (o.somewhere h e)
      go false e = cond-false _ _ _ (held_same h ∙ e) ∙ sym (o.nowhere h e)

  pub copied_lines : lines_in v ≡ l
  copied_lines = λ i. record {
    turn = record { held = λ h. held_same h i; follower = λ h. follower_same h i; predecessor = λ h. predecessor_same h i };
    points = λ h. points_same h i;
  }

  -- the names of filled slots
  slot_held : (s : ℕ) → 1 ≤ s → s ≤ k → l.turn.held (v.row s).name ≡ true
  slot_held s a b = c.filled s a b

  not_none : (h : ℤ) → l.turn.held h ≡ true → not (equal h (pos 0)) ≡ true
  not_none h e = go (tell h (pos 0))
    where
      go : Tells h (pos 0) → not (equal h (pos 0)) ≡ true
      go (inl z) = absurd (both_ways _ (ap l.turn.held z.1 ∙ w.no_zero) e)
      go (inr z) = ap not z.0

  slot_row : (s : ℕ) → 1 ≤ s → s ≤ k → v.row s ≡ row_for l (v.row s).name
  slot_row s a b = ap v.row (sym (c.found s a b)) ∙ c.right (v.row s).name (slot_held s a b)

  slot_home : (s : ℕ) → 1 ≤ s → s ≤ k → home (v.row s) ≡ true
  slot_home s a b = ap home (slot_row s a b) ∙ and_from _ _ (not_none _ (slot_held s a b)) (not_none _ (w.ahead _ (slot_held s a b)))

  -- a row that is not home is free
  pub copied_homes : (s : ℕ) → home (v.row s) ≡ false → v.row s ≡ none
  copied_homes zero e = c.no_slot
  copied_homes (suc s) e = go (cases_lt k (suc s))
    where
      go : (k < suc s) ⊎ (suc s ≤ k) → v.row (suc s) ≡ none
      go (inl a) = c.free (suc s) a
      go (inr a) = absurd (both_ways _ e (slot_home (suc s) (omega arith) a))

  home_inside : (s : ℕ) → home (v.row s) ≡ true → s ≤ k
  home_inside s e = go (cases_lt k s)
    where
      go : (k < s) ⊎ (s ≤ k) → s ≤ k
      go (inl a) = absurd (both_ways _ (ap home (c.free s a)) e)
      go (inr a) = a

  pub copied_indexed : Indexed cap v
  copied_indexed = record {
    inside = λ h. inside h (l.turn.held h) refl;
    named = λ h e. ap (λ r. r.name) (c.right h (sym (held_same h) ∙ e));
    found = λ s a b e. c.found s a (home_inside s e);
  }
    where
      inside : (h : ℤ) (b : Bool) → l.turn.held h ≡ b → leb (v.entry h) cap ≡ true
      inside h true e = let a = c.high h e in le-leb (v.entry h) cap (omega arith)
      inside h false e = let a = c.others h e in le-leb (v.entry h) cap (omega arith)

  pub copied_sound : Sound n (lines_in v)
  copied_sound = subst (Sound n) (sym copied_lines) (w, o)

  -- exactly the filled slots are used
  pub copied_used : used cap v ≡ k
  unfolding used
  copied_used = count_first cap k (taken_row v) fits (λ s a b. not_none _ (slot_held s a b)) (λ s a b. ap (λ r. not (equal r.name (pos 0))) (c.free s a))

  -- strip 1 has one slot of each held name, and no other strip has any
  pub copied_each : (i : ℕ) (h : ℤ) → (h ≡ pos 0 → ⊥) → slot_count cap v i h ≡ indicator (l.turn.held h && eqb i 1)
  unfolding slot_count
  copied_each i h some = go (l.turn.held h && eqb i 1) refl
    where
      -- a slot with the name is filled
      slot_low : (s : ℕ) → (v.row s).name ≡ h → 1 ≤ s
      slot_low zero e = absurd (some (sym e ∙ ap (λ r. r.name) c.no_slot))
      slot_low (suc s) e = omega arith

      slot_high : (s : ℕ) → (v.row s).name ≡ h → s ≤ k
      slot_high s e = inside (cases_lt k s)
        where
          inside : (k < s) ⊎ (s ≤ k) → s ≤ k
          inside (inl a) = absurd (some (sym e ∙ ap (λ r. r.name) (c.free s a)))
          inside (inr a) = a

      row_name : (s : ℕ) → row_in v i h s ≡ true → (v.row s).name ≡ h
      row_name s e = let p = (and_parts (equal (v.row s).name h) (eqb (v.row s).strip i) e).0 in grind (arith, tell (v.row s).name h, p)

      row_strip : (s : ℕ) → row_in v i h s ≡ true → i ≡ 1
      row_strip s e =
          let name = row_name s e in
          let p = eqb-true (v.row s).strip i (and_parts (equal (v.row s).name h) (eqb (v.row s).strip i) e).1 in
          sym p ∙ ap (λ r. r.strip) (slot_row s (slot_low s name) (slot_high s name))

      row_held : (s : ℕ) → row_in v i h s ≡ true → l.turn.held h ≡ true
      row_held s e = let name = row_name s e in ap l.turn.held (sym name) ∙ slot_held s (slot_low s name) (slot_high s name)

      row_place : (s : ℕ) → row_in v i h s ≡ true → s ≡ v.entry h
      row_place s e = let name = row_name s e in sym (c.found s (slot_low s name) (slot_high s name)) ∙ ap v.entry name

      -- a test that is never true is false
      false_where : (s : ℕ) → (row_in v i h s ≡ true → ⊥) → row_in v i h s ≡ false
      false_where s d = not_so (row_in v i h s) d
        where
          not_so : (b : Bool) → (b ≡ true → ⊥) → b ≡ false
          not_so true d = absurd (d refl)
          not_so false d = refl

      go : (b : Bool) → (l.turn.held h && eqb i 1) ≡ b → count cap (row_in v i h) ≡ indicator (l.turn.held h && eqb i 1)
      go true e =
          let p = and_parts (l.turn.held h) (eqb i 1) e in
          let one = eqb-true i 1 p.1 in
          let high = c.high h p.0 in
          let here : row_in v i h (v.entry h) ≡ true = ap (λ r. equal r.name h && eqb r.strip i) (c.right h p.0) ∙ and_from (equal h h) (eqb 1 i) (grind (arith, tell h h)) (eq-eqb 1 i (sym one)) in
          count_one cap (v.entry h) (row_in v i h) (c.low h p.0) (omega arith) here (λ s d. false_where s (λ t. d (row_place s t))) ∙ sym (ap indicator e)
      go false e =
          count_first cap 0 (row_in v i h) (omega arith) (λ s a b. absurd (omega arith))
          (λ s a b. false_where s (λ t. both_ways _ e (and_from _ _ (row_held s t) (eq-eqb i 1 (row_strip s t)))))
          ∙ sym (ap indicator e)
