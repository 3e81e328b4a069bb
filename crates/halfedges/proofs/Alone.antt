-- Memories where every row is home or free: what goes to make them so, and what they count. Assumes nothing.
use Rattle.std.proofs.Common.{◌≡◌, ℕ, zero, suc, ◌+◌, ◌*◌, ◌≤◌, Bool, true, false, cond, ◌&&◌, eqb, leb, ◌⊎◌, ℤ, pos, negsuc, nat_abs, Some, None, sym, refl, ap, ◌∙◌, ap₂, inl, inr, arith}
use Rattle.std.proofs.lemmas.Int.{ints}
use Rattle.std.proofs.lemmas.Bool.{cond-true, cond-false, both_ways, and_parts, and_from, eq-eqb, ne_eqb, eqb-true, le-leb, leb-true, cases_eq, cases_Bool}
use Rattle.std.proofs.lemmas.Bool.Decides.{eqb_tells}
use Rattle.flat.specs.Orbits.{indicator}
use Rattle.flat.specs.Whole.{equal}
use Rattle.turning.specs.Turn.{Lawful}
use Rattle.laws.proofs.Equal.{tell}
use Rattle.halfedges.specs.View.{View, none, row_of, written}
use Rattle.halfedges.specs.Rows.{turn_of, row_point, strips_of, lines_in, home, Unlinked, Indexed, count, taken_row, used, row_in, slot_count, edge_count}
use Rattle.halfedges.specs.declared.halfedge.Halfedge.{Halfedge}
use Rattle.halfedges.specs.Homes.{HomesAlone}
use Rattle.halfedges.proofs.Counted.{count_same, count_none}
use Rattle.halfedges.proofs.EdgeCount.{edges_none, edges_more}
use Rattle.halfedges.proofs.Meaning.{held_slot}

-- ---- held names have home rows
module _ (n cap : ℕ) (v : View) (x : Indexed cap v) (w : Lawful n (turn_of v)) where
  held_not_zero : (h : ℤ) → (turn_of v).held h ≡ true → h ≡ pos 0 → ⊥
  held_not_zero h e z = both_ways _ w.no_zero (ap (turn_of v).held (sym z) ∙ e)

  pub held_home : (h : ℤ) → (turn_of v).held h ≡ true → home (row_of v h) ≡ true
  held_home h e =
      let name : ((row_of v h).name ≡ pos 0 → ⊥) = λ z. held_not_zero h e (sym (x.named h e) ∙ z) in
      let follower : ((row_of v h).follower ≡ pos 0 → ⊥) = held_not_zero (row_of v h).follower (w.ahead h e) in
      grind (arith, tell (row_of v h).name (pos 0), tell (row_of v h).follower (pos 0), name, follower)

  -- no entry leads to a row that is not home
  pub astray_off : (s : ℕ) → 1 ≤ s → home (v.row s) ≡ false → (g : ℤ) → v.entry g ≡ s → ⊥
  astray_off s low out g e =
      let held : (turn_of v).held g ≡ true = grind (arith, eqb_tells (v.entry g) 0, e) in
      both_ways _ (ap (λ i. home (v.row i)) e ∙ out) (held_home g held)

-- ---- counts
-- where two tests differ at k alone, so do their counts
count_raise : (m : ℕ) (p q : ℕ → Bool) (k : ℕ) → 1 ≤ k → k ≤ m → p k ≡ false → q k ≡ true → ((i : ℕ) → 1 ≤ i → i ≤ m → (i ≡ k → ⊥) → q i ≡ p i) → count m q ≡ suc (count m p)
count_raise zero p q k l u f t o = absurd (omega arith)
count_raise (suc m) p q k l u f t o = go (cases_eq (suc m) k) (count_raise m p q k l)
  where
    go : (suc m ≡ k) ⊎ (suc m ≡ k → ⊥) → (k ≤ m → p k ≡ false → q k ≡ true → ((i : ℕ) → 1 ≤ i → i ≤ m → (i ≡ k → ⊥) → q i ≡ p i) → count m q ≡ suc (count m p)) → count (suc m) q ≡ suc (count (suc m) p)
    go (inl e) rec =
        let a : indicator (q (suc m)) ≡ 1 = ap (λ i. indicator (q i)) e ∙ ap indicator t in
        let b : indicator (p (suc m)) ≡ 0 = ap (λ i. indicator (p i)) e ∙ ap indicator f in
        let c = count_same m q p (λ i x y. o i x (omega arith) (λ z. omega arith)) in
        omega arith
    go (inr d) rec =
        let a = ap indicator (o (suc m) (omega arith) (omega arith) d) in
        let b = rec (omega arith) f t (λ i x y. o i x (omega arith)) in
        omega arith

-- a test that one place passes
count_single : (m k : ℕ) (p : ℕ → Bool) → 1 ≤ k → k ≤ m → p k ≡ true → ((i : ℕ) → 1 ≤ i → i ≤ m → (i ≡ k → ⊥) → p i ≡ false) → count m p ≡ 1
count_single m k p l u passes fails =
    let more = count_raise m (λ _. false) p k l u refl passes fails in
    let nothing = count_none m (λ _. false) (λ i x y. refl) in
    omega arith

not_so : (b : Bool) → (b ≡ true → ⊥) → b ≡ false
not_so true d = absurd (d refl)
not_so false d = refl

same_so : (a b : Bool) → (a ≡ true → b ≡ true) → (b ≡ true → a ≡ true) → a ≡ b
same_so true b f g = sym (f refl)
same_so false true f g = g refl
same_so false false f g = refl

-- ---- where all rows are home, each held name has one slot
module _ (n cap : ℕ) (v : View) (x : Indexed cap v) (w : Lawful n (turn_of v)) (alone : HomesAlone cap v) where
  -- a row with a name is home
  pub named_home : (s : ℕ) → 1 ≤ s → s ≤ cap → ((v.row s).name ≡ pos 0 → ⊥) → home (v.row s) ≡ true
  named_home s l u some = go (cases_Bool (home (v.row s)))
    where
      go : (home (v.row s) ≡ true) ⊎ (home (v.row s) ≡ false) → home (v.row s) ≡ true
      go (inl e) = e
      go (inr e) = absurd (some (ap (λ r. r.name) (alone s l u e)))

  named_held : (s : ℕ) → 1 ≤ s → s ≤ cap → ((v.row s).name ≡ pos 0 → ⊥) → (turn_of v).held (v.row s).name ≡ true
  named_held s l u some = let e = x.found s l u (named_home s l u some) in grind (arith, eqb_tells (v.entry (v.row s).name) 0, e)

  low : (h : ℤ) → (turn_of v).held h ≡ true → 1 ≤ v.entry h
  low h e = held_slot v h e

  high : (h : ℤ) → v.entry h ≤ cap
  high h = leb-true (v.entry h) cap (x.inside h)

  -- the one slot of a name
  the_slot : (h : ℤ) → (h ≡ pos 0 → ⊥) → (s : ℕ) → 1 ≤ s → s ≤ cap → (v.row s).name ≡ h → ((turn_of v).held h ≡ true) × (v.entry h ≡ s)
  the_slot h some s l u e =
      let named : ((v.row s).name ≡ pos 0 → ⊥) = λ z. some (sym e ∙ z) in
      (ap (turn_of v).held (sym e) ∙ named_held s l u named, ap v.entry (sym e) ∙ x.found s l u (named_home s l u named))

  -- the strip where a held name starts has one slot of it, and no other strip has any
  pub alone_each : (i : ℕ) (h : ℤ) → (h ≡ pos 0 → ⊥) → slot_count cap v i h ≡ indicator ((turn_of v).held h && eqb i (strips_of v h))
  unfolding slot_count
  alone_each i h some = go (cases_Bool ((turn_of v).held h && eqb i (strips_of v h)))
    where
      row_name : (s : ℕ) → row_in v i h s ≡ true → (v.row s).name ≡ h
      row_name s e = grind (arith, tell (v.row s).name h, e)

      row_strip : (s : ℕ) → row_in v i h s ≡ true → (v.row s).strip ≡ i
      row_strip s e = eqb-true (v.row s).strip i (and_parts (equal (v.row s).name h) (eqb (v.row s).strip i) e).1

      passes : (s : ℕ) → 1 ≤ s → s ≤ cap → row_in v i h s ≡ true → ((turn_of v).held h && eqb i (strips_of v h)) ≡ true
      passes s l u e =
          let at = the_slot h some s l u (row_name s e) in
          and_from _ _ at.0 (eq-eqb i (strips_of v h) (sym (row_strip s e) ∙ ap (λ j. (v.row j).strip) (sym at.1)))

      go : (((turn_of v).held h && eqb i (strips_of v h)) ≡ true) ⊎ (((turn_of v).held h && eqb i (strips_of v h)) ≡ false) → count cap (row_in v i h) ≡ indicator ((turn_of v).held h && eqb i (strips_of v h))
      go (inl e) =
          let p = and_parts ((turn_of v).held h) (eqb i (strips_of v h)) e in
          let name : (row_of v h).name ≡ h = x.named h p.0 in
          let here : row_in v i h (v.entry h) ≡ true = and_from _ _ (grind (arith, tell (row_of v h).name h, name)) (eq-eqb (strips_of v h) i (sym (eqb-true i (strips_of v h) p.1))) in
          count_single cap (v.entry h) (row_in v i h) (low h p.0) (high h) here (λ s l u d. not_so (row_in v i h s) (λ t. d (sym (the_slot h some s l u (row_name s t)).1))) ∙ sym (ap indicator e)
      go (inr e) = count_none cap (row_in v i h) (λ s l u. not_so (row_in v i h s) (λ t. both_ways _ e (passes s l u t))) ∙ sym (ap indicator e)

  -- ---- how many rows are used
  -- the row at slot s has a name of one of the edges 1 to i
  abbrev upto : ℕ → ℕ → Bool
  upto i s = taken_row v s && leb (nat_abs (v.row s).name) i

  upto_from : (i s : ℕ) → ((v.row s).name ≡ pos 0 → ⊥) → nat_abs (v.row s).name ≤ i → upto i s ≡ true
  upto_from i s some l = and_from _ _ (grind (arith, tell (v.row s).name (pos 0), some)) (le-leb _ _ l)

  upto_parts : (i s : ℕ) → upto i s ≡ true → ((v.row s).name ≡ pos 0 → ⊥) × (nat_abs (v.row s).name ≤ i)
  upto_parts i s e = let p = and_parts (taken_row v s) (leb (nat_abs (v.row s).name) i) e in ((λ z. grind (arith, tell (v.row s).name (pos 0), z, p.0)), leb-true _ _ p.1)

  no_size : (h : ℤ) → nat_abs h ≤ 0 → h ≡ pos 0
  no_size (pos m) l = ap pos (omega arith)
  no_size (negsuc m) l = absurd (omega arith)

  two_names : (i : ℕ) (h : ℤ) → nat_abs h ≡ suc i → (h ≡ pos (suc i)) ⊎ (h ≡ negsuc i)
  two_names i (pos m) e = inl (ap pos e)
  two_names i (negsuc m) e = inr (ap negsuc (let s : suc m ≡ suc i = e in omega arith))

  upto_none : (s : ℕ) → upto 0 s ≡ false
  upto_none s = not_so (upto 0 s) (λ t. let p = upto_parts 0 s t in p.0 (no_size (v.row s).name p.1))

  -- an edge that is not held has no row
  upto_less : (i : ℕ) → (turn_of v).held (pos (suc i)) ≡ false → (s : ℕ) → 1 ≤ s → s ≤ cap → upto (suc i) s ≡ upto i s
  upto_less i out s l u = same_so (upto (suc i) s) (upto i s) down (λ t. let p = upto_parts i s t in upto_from (suc i) s p.0 (let q = p.1 in omega arith))
    where
      not_this : (turn_of v).held (v.row s).name ≡ true → ((v.row s).name ≡ pos (suc i)) ⊎ ((v.row s).name ≡ negsuc i) → ⊥
      not_this held (inl z) = both_ways _ out (ap (turn_of v).held (sym z) ∙ held)
      not_this held (inr z) = both_ways _ out (w.closed (negsuc i) (ap (turn_of v).held (sym z) ∙ held))

      down : upto (suc i) s ≡ true → upto i s ≡ true
      down t =
          let p = upto_parts (suc i) s t in
          let d : (nat_abs (v.row s).name ≡ suc i → ⊥) = λ z. not_this (named_held s l u p.0) (two_names i (v.row s).name z) in
          upto_from i s p.0 (let q = p.1 in omega (arith, d))

  -- a held edge has two
  module _ (i : ℕ) (here : (turn_of v).held (pos (suc i)) ≡ true) where
    back : (turn_of v).held (negsuc i) ≡ true
    back = w.closed (pos (suc i)) here

    abbrev a : ℕ
    a = v.entry (pos (suc i))

    abbrev b : ℕ
    b = v.entry (negsuc i)

    -- with the first of the two
    abbrev mid : ℕ → Bool
    mid s = cond (eqb s a) true (upto i s)

    apart : b ≡ a → ⊥
    apart z = let same : negsuc i ≡ pos (suc i) = sym (x.named (negsuc i) back) ∙ ap (λ j. (v.row j).name) z ∙ x.named (pos (suc i)) here in omega (arith, ints, same)

    on : (h : ℤ) → (turn_of v).held h ≡ true → nat_abs h ≡ suc i → upto (suc i) (v.entry h) ≡ true
    on h held size = upto_from (suc i) (v.entry h) (λ z. held_not_zero n cap v x w h held (sym (x.named h held) ∙ z)) (let e = ap nat_abs (x.named h held) in omega (arith, e, size))

    off : (h : ℤ) → (turn_of v).held h ≡ true → nat_abs h ≡ suc i → upto i (v.entry h) ≡ false
    off h held size = not_so (upto i (v.entry h)) (λ t. let p = (upto_parts i (v.entry h) t).1 in let e = ap nat_abs (x.named h held) in omega (arith, p, e, size))

    module _ (s : ℕ) (l : 1 ≤ s) (u : s ≤ cap) (d : s ≡ b → ⊥) where
      place : upto (suc i) s ≡ true → nat_abs (v.row s).name ≡ suc i → (s ≡ a) ⊎ (s ≡ b)
      place t size = named (two_names i (v.row s).name size)
        where
          found : v.entry (v.row s).name ≡ s
          found = x.found s l u (named_home s l u (upto_parts (suc i) s t).0)

          named : ((v.row s).name ≡ pos (suc i)) ⊎ ((v.row s).name ≡ negsuc i) → (s ≡ a) ⊎ (s ≡ b)
          named (inl z) = inl (sym found ∙ ap v.entry z)
          named (inr z) = inr (sym found ∙ ap v.entry z)

      down : (s ≡ a → ⊥) → upto (suc i) s ≡ true → upto i s ≡ true
      down e t =
          let p = upto_parts (suc i) s t in
          let other : (nat_abs (v.row s).name ≡ suc i → ⊥) = λ z. neither (place t z) in
          upto_from i s p.0 (let q = p.1 in omega (arith, other))
        where
          neither : (s ≡ a) ⊎ (s ≡ b) → ⊥
          neither (inl z) = e z
          neither (inr z) = d z

      others : upto (suc i) s ≡ mid s
      others = go (cases_eq s a)
        where
          go : (s ≡ a) ⊎ (s ≡ a → ⊥) → upto (suc i) s ≡ mid s
          go (inl z) = ap (upto (suc i)) z ∙ on (pos (suc i)) here refl ∙ sym (cond-true (eqb s a) true (upto i s) (eq-eqb s a z))
          go (inr e) =
              same_so (upto (suc i) s) (upto i s) (down e) (λ t. let p = upto_parts i s t in upto_from (suc i) s p.0 (let q = p.1 in omega arith))
              ∙ sym (cond-false (eqb s a) true (upto i s) (ne_eqb s a e))

    upto_more : count cap (upto (suc i)) ≡ 2 + count cap (upto i)
    upto_more =
        let first = count_raise cap (upto i) mid a (low (pos (suc i)) here) (high (pos (suc i))) (off (pos (suc i)) here refl) (cond-true (eqb a a) true (upto i a) (eq-eqb a a refl)) (λ s l u d. cond-false (eqb s a) true (upto i s) (ne_eqb s a d)) in
        let second = count_raise cap mid (upto (suc i)) b (low (negsuc i) back) (high (negsuc i)) (cond-false (eqb b a) true (upto i b) (ne_eqb b a apart) ∙ off (negsuc i) back refl) (on (negsuc i) back refl) others in
        omega (arith, first, second)

  upto_count : (i : ℕ) → count cap (upto i) ≡ 2 * edge_count i (turn_of v)
  upto_count zero = count_none cap (upto 0) (λ s l u. upto_none s) ∙ sym (ap (λ m. 2 * m) (edges_none (turn_of v)))
  upto_count (suc i) = go (cases_Bool ((turn_of v).held (pos (suc i)))) (upto_count i)
    where
      go : ((turn_of v).held (pos (suc i)) ≡ true) ⊎ ((turn_of v).held (pos (suc i)) ≡ false) → count cap (upto i) ≡ 2 * edge_count i (turn_of v) → count cap (upto (suc i)) ≡ 2 * edge_count (suc i) (turn_of v)
      go (inl e) rec = let m = edges_more (turn_of v) i ∙ ap (λ t. indicator t + edge_count i (turn_of v)) e in let more = upto_more i e in omega (arith, m, more, rec)
      go (inr e) rec = let m = edges_more (turn_of v) i ∙ ap (λ t. indicator t + edge_count i (turn_of v)) e in let same = count_same cap (upto (suc i)) (upto i) (upto_less i e) in omega (arith, m, same, rec)

  -- two rows for each edge
  pub alone_used : used cap v ≡ 2 * edge_count n (turn_of v)
  unfolding used
  alone_used = count_same cap (taken_row v) (upto n) same ∙ upto_count n
    where
      inside : (h : ℤ) → (turn_of v).held h ≡ true → nat_abs h ≤ n
      inside (pos m) e = let u = w.high (pos m) e in omega (arith, ints)
      inside (negsuc m) e = let u = w.low (negsuc m) e in omega (arith, ints)

      same : (s : ℕ) → 1 ≤ s → s ≤ cap → taken_row v s ≡ upto n s
      same s l u = same_so (taken_row v s) (upto n s)
          (λ t. let some : ((v.row s).name ≡ pos 0 → ⊥) = λ z. grind (arith, tell (v.row s).name (pos 0), z, t) in upto_from n s some (inside (v.row s).name (named_held s l u some)))
          (λ t. (and_parts (taken_row v s) (leb (nat_abs (v.row s).name) n) t).0)

  -- a row that is not home has no links
  pub alone_unlinked : Unlinked cap v
  alone_unlinked s l u e = let r = alone s l u e in (ap (λ y. y.follower) r, ap (λ y. y.predecessor) r)

-- ---- a row moves to another strip
-- the row in another strip
abbrev pub with_strip : ℕ → Halfedge → Halfedge
with_strip i r = record { strip = i; name = r.name; follower = r.follower; predecessor = r.predecessor; x = r.x; y = r.y; index = r.index }

module _ (cap : ℕ) (v : View) (s i : ℕ) where
  abbrev v' : View
  v' = written s (with_strip i (v.row s)) v

  -- the row at each slot is as it was, but for its strip
  moved_row : (j : ℕ) → v'.row j ≡ with_strip (v'.row j).strip (v.row j)
  moved_row j = go (cases_eq j s)
    where
      go : (j ≡ s) ⊎ (j ≡ s → ⊥) → v'.row j ≡ with_strip (v'.row j).strip (v.row j)
      go (inl e) =
          let is : v'.row j ≡ with_strip i (v.row s) = cond-true (eqb j s) _ _ (eq-eqb j s e) in
          is ∙ ap₂ with_strip (ap (λ r. r.strip) (sym is)) (ap v.row (sym e))
      go (inr d) =
          let is : v'.row j ≡ v.row j = cond-false (eqb j s) _ _ (ne_eqb j s d) in
          is ∙ ap (λ k. with_strip k (v.row j)) (ap (λ r. r.strip) (sym is))

  pub moved_lines : lines_in (written s (with_strip i (v.row s)) v) ≡ lines_in v
  moved_lines = λ d. record {
    turn = record { held = (turn_of v).held; follower = λ g. (moved_row (v.entry g) d).follower; predecessor = λ g. (moved_row (v.entry g) d).predecessor };
    points = λ g. cond ((turn_of v).held g) (Some (row_point (moved_row (v.entry g) d))) None;
  }

  pub moved_indexed : Indexed cap v → Indexed cap (written s (with_strip i (v.row s)) v)
  moved_indexed x = record {
    inside = x.inside;
    named = λ g e. ap (λ r. r.name) (moved_row (v.entry g)) ∙ x.named g e;
    found = λ j l u e. ap (λ r. v.entry r.name) (moved_row j) ∙ x.found j l u (sym (ap home (moved_row j)) ∙ e);
  }

  -- a home row stays home
  pub moved_alone : home (v.row s) ≡ true → HomesAlone cap v → HomesAlone cap (written s (with_strip i (v.row s)) v)
  moved_alone here alone j l u e = go (cases_eq j s)
    where
      go : (j ≡ s) ⊎ (j ≡ s → ⊥) → v'.row j ≡ none
      go (inl z) = absurd (both_ways _ (sym (ap home (moved_row j)) ∙ e) (ap (λ k. home (v.row k)) z ∙ here))
      go (inr d) = cond-false (eqb j s) _ _ (ne_eqb j s d) ∙ alone j l u (sym (ap home (moved_row j)) ∙ e)

  pub moved_here : v'.row s ≡ with_strip i (v.row s)
  moved_here = cond-true (eqb s s) _ _ (eq-eqb s s refl)

  pub moved_there : (j : ℕ) → (j ≡ s → ⊥) → v'.row j ≡ v.row j
  moved_there j d = cond-false (eqb j s) _ _ (ne_eqb j s d)
