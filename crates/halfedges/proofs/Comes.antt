-- What one name's coming does to the meaning of rows. Assumes nothing.
use Rattle.std.proofs.Common.{◌≡◌, ℕ, suc, ◌+◌, ◌≤◌, true, false, cond, not, eqb, ℤ, pos, Some, None, Option, sym, refl, ap, ◌∙◌, inl, inr, arith}
use Rattle.std.proofs.lemmas.Bool.{cond-true, cond-false, both_ways}
use Rattle.std.proofs.lemmas.Bool.Decides.{eqb_tells, leb_tells}
use Rattle.flat.specs.Orbits.{indicator}
use Rattle.flat.specs.Whole.{equal}
use Rattle.chart.specs.declared.point.Point.{Point}
use Rattle.chart.specs.Changes.{at, alone, put_after, put}
use Rattle.laws.specs.Rotations.{Rotation, Fresh}
use Rattle.laws.proofs.Equal.{tell, Tells}
use Rattle.halfedges.specs.declared.halfedge.Halfedge.{Halfedge}
use Rattle.halfedges.specs.View.{View, row_of, led, trailed, with_follower, with_predecessor}
use Rattle.halfedges.specs.Rows.{turn_of, row_point, points_of, strips_of, Unlinked, Indexed, fresh, settled, hooked, CornerHeld, taken_row, used, same_place, slot_count}
use Rattle.halfedges.proofs.Counted.{count_more, slot_gain}
use Rattle.halfedges.proofs.Meaning.{written_rows, written_indexed, written_unlinked, home_not}

-- ---- k comes in at a free slot
module _ (cap : ℕ) (v : View) (x : Indexed cap v) (s : ℕ) (low : 1 ≤ s) (high : s ≤ cap) (free : (v.row s).name ≡ pos 0) (some_k : (h : ℤ) → (turn_of v).held h ≡ true → h ≡ pos 0 → ⊥)
    (k : ℤ) (new : (turn_of v).held k ≡ false) (r : Halfedge) (name : r.name ≡ k) where
  pub settled_rows : (g : ℤ) → row_of (settled s k r v) g ≡ at k r (row_of v) g
  settled_rows g =
      grind (arith, tell g k, eqb_tells s s, eqb_tells (v.entry g) s, eqb_tells (v.entry g) 0, x.named g, some_k g)

  pub settled_held : (g : ℤ) → (turn_of (settled s k r v)).held g ≡ at k true (turn_of v).held g
  settled_held g = grind (arith, tell g k, eqb_tells s 0)

  pub settled_indexed : Indexed cap (settled s k r v)
  settled_indexed = record {
    inside = λ g. grind (arith, tell g k, x.inside g, leb_tells s cap);
    named = λ g e. ap (λ y. y.name) (settled_rows g) ∙ grind (arith, tell g k, x.named g, settled_held g, name);
    found = λ i l u e.
        grind (arith, eqb_tells i s, x.found i l u, tell r.name k, tell (v.row i).name k, name, eqb_tells (v.entry k) 0);
  }

-- ---- k comes in, after its corner or alone
module _ (cap : ℕ) (v : View) (x : Indexed cap v) (n : ℕ) (w : Rotation n (turn_of v)) (s strip : ℕ) (low : 1 ≤ s) (high : s ≤ cap) (free : (v.row s).name ≡ pos 0) (k : ℤ) (fr : Fresh n (turn_of v) k) (p : Point) where
  some : (h : ℤ) → (turn_of v).held h ≡ true → h ≡ pos 0 → ⊥
  some h e z = both_ways _ w.no_zero (ap (turn_of v).held (sym z) ∙ e)

  place_in : (u : View) → ((g : ℤ) → ((turn_of u).held g ≡ at k true (turn_of v).held g)) → ((g : ℤ) → ((row_of u g).x ≡ at k p.x (λ h. (row_of v h).x) g) × ((row_of u g).y ≡ at k p.y (λ h. (row_of v h).y) g)) → (g : ℤ) → points_of u g ≡ at k (Some p) (points_of v) g
  place_in u held xy g = go (tell g k)
    where
      go : Tells g k → points_of u g ≡ at k (Some p) (points_of v) g
      go (inl e) =
          cond-true _ _ _ (held g ∙ cond-true _ _ _ e.0)
          ∙ ap Some (λ i. record { x = ((xy g).0 ∙ cond-true _ _ _ e.0) i; y = ((xy g).1 ∙ cond-true _ _ _ e.0) i })
          ∙ sym (cond-true _ _ _ e.0)
      go (inr e) =
          ap (λ t. cond t (Some (row_point (row_of u g))) None) (held g ∙ cond-false _ _ _ e.0)
          ∙ ap (λ q. cond ((turn_of v).held g) (Some q) None) (λ i. record { x = ((xy g).0 ∙ cond-false _ _ _ e.0) i; y = ((xy g).1 ∙ cond-false _ _ _ e.0) i })
          ∙ sym (cond-false _ _ _ e.0)

  -- ---- alone
  abbrev one : View
  one = hooked s strip k None p v

  one_held : (g : ℤ) → (turn_of one).held g ≡ at k true (turn_of v).held g
  one_held g = settled_held cap v x s low high free some k fr.new (fresh strip k k k p) refl g

  one_rows : (g : ℤ) → row_of one g ≡ at k (fresh strip k k k p) (row_of v) g
  one_rows g = settled_rows cap v x s low high free some k fr.new (fresh strip k k k p) refl g

  alone_turn : turn_of (hooked s strip k None p v) ≡ alone k (turn_of v)
  alone_turn = λ i. record { held = λ g. one_held g i; follower = λ g. f g i; predecessor = λ g. b g i }
    where
      f : (g : ℤ) → (turn_of one).follower g ≡ (alone k (turn_of v)).follower g
      f g = grind (arith, tell g k, one_rows g)

      b : (g : ℤ) → (turn_of one).predecessor g ≡ (alone k (turn_of v)).predecessor g
      b g = grind (arith, tell g k, one_rows g)

  alone_points : points_of (hooked s strip k None p v) ≡ at k (Some p) (points_of v)
  alone_points = λ i g. place_in one one_held (λ h. (grind (arith, tell h k, one_rows h), grind (arith, tell h k, one_rows h))) g i

  -- ---- after a corner
  module _ (c : ℤ) (corner : (turn_of v).held c ≡ true) where
    abbrev m : ℤ
    m = (row_of v c).follower

    pub corner_next : (turn_of v).held (row_of v c).follower ≡ true
    corner_next = w.ahead c corner

    abbrev v₁ : View
    v₁ = led c k v

    pub corner_indexed : Indexed cap (led c k v)
    corner_indexed = written_indexed cap v x c corner (with_follower k (row_of v c)) (x.named c corner)

    rows₁ : (g : ℤ) → row_of v₁ g ≡ at c (with_follower k (row_of v c)) (row_of v) g
    rows₁ g = written_rows cap v x c corner (with_follower k (row_of v c)) (x.named c corner) g

    abbrev v₂ : View
    v₂ = trailed m k v₁

    indexed₂ : Indexed cap v₂
    indexed₂ = written_indexed cap v₁ corner_indexed m corner_next (with_predecessor k (row_of v₁ m)) (corner_indexed.named m corner_next)

    rows₂ : (g : ℤ) → row_of v₂ g ≡ at m (with_predecessor k (row_of v₁ m)) (row_of v₁) g
    rows₂ g = written_rows cap v₁ corner_indexed m corner_next (with_predecessor k (row_of v₁ m)) (corner_indexed.named m corner_next) g

    free₂ : (v₂.row s).name ≡ pos 0
    free₂ = grind (arith, eqb_tells s (v.entry m), eqb_tells s (v.entry c), eqb_tells (v.entry m) (v.entry c), free)

    abbrev new_row : Halfedge
    new_row = fresh strip k m c p

    abbrev two : View
    two = hooked s strip k (Some c) p v

    two_held : (g : ℤ) → (turn_of two).held g ≡ at k true (turn_of v).held g
    two_held g = settled_held cap v₂ indexed₂ s low high free₂ some k fr.new new_row refl g

    two_rows : (g : ℤ) → row_of two g ≡ at k new_row (row_of v₂) g
    two_rows g = settled_rows cap v₂ indexed₂ s low high free₂ some k fr.new new_row refl g

    after_turn : turn_of (hooked s strip k (Some c) p v) ≡ put_after c k (turn_of v)
    after_turn = λ i. record { held = λ g. two_held g i; follower = λ g. f g i; predecessor = λ g. b g i }
      where
        f : (g : ℤ) → (turn_of two).follower g ≡ (put_after c k (turn_of v)).follower g
        f g = grind (arith, tell g k, tell g c, tell g m, two_rows g, rows₂ g, rows₁ g, rows₁ m)

        b : (g : ℤ) → (turn_of two).predecessor g ≡ (put_after c k (turn_of v)).predecessor g
        b g = grind (arith, tell g k, tell g c, tell g m, two_rows g, rows₂ g, rows₁ g, rows₁ m)

    after_points : points_of (hooked s strip k (Some c) p v) ≡ at k (Some p) (points_of v)
    after_points = λ i g. place_in two two_held (λ h. (xs h, ys h)) g i
      where
        xs : (g : ℤ) → (row_of two g).x ≡ at k p.x (λ h. (row_of v h).x) g
        xs g = grind (arith, tell g k, tell g c, tell g m, two_rows g, rows₂ g, rows₁ g, rows₁ m)

        ys : (g : ℤ) → (row_of two g).y ≡ at k p.y (λ h. (row_of v h).y) g
        ys g = grind (arith, tell g k, tell g c, tell g m, two_rows g, rows₂ g, rows₁ g, rows₁ m)

    after_indexed : Indexed cap (hooked s strip k (Some c) p v)
    after_indexed = settled_indexed cap v₂ indexed₂ s low high free₂ some k fr.new new_row refl

  -- ---- either
  abbrev Held : Option ℤ → Type 0
  Held c = CornerHeld v c

  pub hooked_turn : (c : Option ℤ) → Held c → turn_of (hooked s strip k c p v) ≡ put c k (turn_of v)
  hooked_turn None o = alone_turn
  hooked_turn (Some c) o = after_turn c o

  pub hooked_points : (c : Option ℤ) → Held c → points_of (hooked s strip k c p v) ≡ at k (Some p) (points_of v)
  hooked_points None o = alone_points
  hooked_points (Some c) o = after_points c o

  pub hooked_indexed : (c : Option ℤ) → Held c → Indexed cap (hooked s strip k c p v)
  hooked_indexed None o = settled_indexed cap v x s low high free some k fr.new (fresh strip k k k p) refl
  hooked_indexed (Some c) o = after_indexed c o

  named_k : not (equal k (pos 0)) ≡ true
  named_k = grind (arith, tell k (pos 0), fr.no_zero)

  -- one row more is used
  pub hooked_used : (c : Option ℤ) → Held c → used cap (hooked s strip k c p v) ≡ suc (used cap v)
  unfolding used
  hooked_used None o =
      count_more cap (taken_row v) (taken_row (hooked s strip k None p v)) s low high
      (grind (arith, free, tell (pos 0) (pos 0)))
      (grind (arith, eqb_tells s s, named_k))
      (λ i d. grind (arith, eqb_tells i s))
  hooked_used (Some c) o =
      count_more cap (taken_row v) (taken_row (hooked s strip k (Some c) p v)) s low high
      (grind (arith, free, tell (pos 0) (pos 0)))
      (grind (arith, eqb_tells s s, named_k))
      (λ i d. grind (arith, eqb_tells i s, eqb_tells i (v.entry (row_of v c).follower), eqb_tells i (v.entry c), eqb_tells (v.entry (row_of v c).follower) (v.entry c)))

  pub hooked_strips : (c : Option ℤ) → Held c → strips_of (hooked s strip k c p v) ≡ at k strip (strips_of v)
  hooked_strips None o = λ i g. one_strip g i
    where
      one_strip : (g : ℤ) → strips_of one g ≡ at k strip (strips_of v) g
      one_strip g = grind (arith, tell g k, one_rows g)
  hooked_strips (Some c) o = λ i g. two_strip g i
    where
      two_strip : (g : ℤ) → strips_of (two c o) g ≡ at k strip (strips_of v) g
      two_strip g = grind (arith, tell g k, tell g c, tell g (row_of v c).follower, two_rows c o g, rows₂ c o g, rows₁ c o g, rows₁ c o (row_of v c).follower)

  -- one slot more of k, in its strip
  pub hooked_counted : (c : Option ℤ) → Held c → (i : ℕ) (g : ℤ) → (g ≡ pos 0 → ⊥) → slot_count cap (hooked s strip k c p v) i g ≡ indicator (same_place strip k i g) + slot_count cap v i g
  hooked_counted None o i g some-g =
      slot_gain cap v (hooked s strip k None p v) s low high
      (λ j d. (grind (arith, eqb_tells j s), grind (arith, eqb_tells j s)))
      free i g some-g
      ∙ ap (λ r. indicator (same_place r.strip r.name i g) + slot_count cap v i g) (cond-true (eqb s s) (fresh strip k k k p) (v.row s) (grind (arith, eqb_tells s s)))
  hooked_counted (Some c) o i g some-g =
      slot_gain cap v (hooked s strip k (Some c) p v) s low high
      (λ j d. (
        grind (arith, eqb_tells j s, eqb_tells j (v.entry (row_of v c).follower), eqb_tells j (v.entry c), eqb_tells (v.entry (row_of v c).follower) (v.entry c)),
        grind (arith, eqb_tells j s, eqb_tells j (v.entry (row_of v c).follower), eqb_tells j (v.entry c), eqb_tells (v.entry (row_of v c).follower) (v.entry c)),
      ))
      free i g some-g
      ∙ ap (λ r. indicator (same_place r.strip r.name i g) + slot_count cap v i g) (cond-true (eqb s s) (new_row c o) ((v₂ c o).row s) (grind (arith, eqb_tells s s)))

  pub hooked_unlinked : (c : Option ℤ) → Held c → Unlinked cap v → Unlinked cap (hooked s strip k c p v)
  hooked_unlinked None o u = written_unlinked cap v u s (fresh strip k k k p) (home_not (fresh strip k k k p) fr.no_zero fr.no_zero)
  hooked_unlinked (Some c) o u =
      let a = (row_of v c).follower in
      let next = corner_next c o in
      let index = corner_indexed c o in
      written_unlinked cap (v₂ c o)
      (written_unlinked cap (v₁ c o)
      (written_unlinked cap v u (v.entry c) (with_follower k (row_of v c)) (home_not (with_follower k (row_of v c)) (λ z. some c o (sym (x.named c o) ∙ z)) fr.no_zero))
      (v.entry a) (with_predecessor k (row_of (v₁ c o) a)) (home_not (with_predecessor k (row_of (v₁ c o) a)) (λ z. some a next (sym (index.named a next) ∙ z)) leads))
      s (new_row c o) (home_not (new_row c o) fr.no_zero (some a next))
    where
      leads : (row_of (led c k v) (row_of v c).follower).follower ≡ pos 0 → ⊥
      leads z = grind (arith, tell (row_of v c).follower c, rows₁ c o (row_of v c).follower, z, fr.no_zero, some (row_of v (row_of v c).follower).follower (w.ahead (row_of v c).follower (w.ahead c o)))
