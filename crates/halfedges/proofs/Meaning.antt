-- What the write of a held name's row, and one name's going, do to the meaning of rows. Assumes nothing.
use Rattle.std.proofs.Common.{◌≡◌, ℕ, suc, ◌+◌, ◌-◌, ◌<◌, ◌≤◌, Bool, true, false, cond, eqb, leb, ◌⊎◌, List, length, get_or, set, ℤ, pos, Some, None, sym, refl, ap, ◌∙◌, subst, ap₂, inl, inr, arith}
use Rattle.std.proofs.lemmas.Bool.{cond-true, cond-false, both_ways, leb-true}
use Rattle.std.proofs.lemmas.Bool.Decides.{eqb_tells, leb_tells}
use Rattle.flat.specs.Orbits.{indicator}
use Rattle.turning.specs.Limits.{max_edge, slots}
use Rattle.chart.specs.Changes.{at, drawn}
use Rattle.laws.specs.Rotations.{Rotation}
use Rattle.laws.proofs.Equal.{tell, Tells}
use Rattle.halfedges.specs.declared.halfedge.Halfedge.{Halfedge}
use Rattle.halfedges.specs.View.{View, none, bare, view, seen, row_of, written, led, trailed, with_follower, with_predecessor}
use Rattle.halfedges.specs.Rows.{turn_of, row_point, points_of, strips_of, home, Unlinked, Indexed, unhooked, taken_row, used, same_place, slot_count}
use Rattle.halfedges.specs.Nothing.{short_lines}
use Rattle.halfedges.proofs.Views.{row_is, write_view}
use Rattle.halfedges.proofs.Counted.{count_more, slot_loss}

pub held_slot : (v : View) (h : ℤ) → (turn_of v).held h ≡ true → 1 ≤ v.entry h
held_slot v h e = grind (arith, eqb_tells (v.entry h) 0)

-- a memory where a name is held is long enough
pub held_long : (n cap : ℕ) (rs : List Halfedge) (h : ℤ) → (turn_of (view n cap rs)).held h ≡ true → cap ≤ length rs
held_long n cap rs h e = go (leb cap (length rs)) refl
  where
    go : (b : Bool) → leb cap (length rs) ≡ b → cap ≤ length rs
    go true l = leb-true _ _ l
    go false l = absurd (both_ways _ (ap (λ x. x.turn.held h) (short_lines n cap rs l)) e)

-- ---- the record of a held name's row is set
module _ (rs : List Halfedge) (x : Indexed slots (seen rs)) (h : ℤ) (here : (turn_of (seen rs)).held h ≡ true) where
  slot_is : suc ((seen rs).entry h - 1) ≡ (seen rs).entry h
  slot_is = let low = held_slot (seen rs) h here in omega arith

  pub held_inside : (seen rs).entry h - 1 < length rs
  held_inside =
      let low = held_slot (seen rs) h here in
      let high = leb-true ((seen rs).entry h) slots (x.inside h) in
      let long = held_long max_edge slots rs h here in
      omega arith

  row_there : bare (get_or rs ((seen rs).entry h - 1) none) ≡ row_of (seen rs) h
  row_there = sym (row_is max_edge slots rs ((seen rs).entry h - 1)) ∙ ap (seen rs).row slot_is

  pub held_led : (f : ℤ) (r : Halfedge) → r ≡ get_or rs ((seen rs).entry h - 1) none → seen (set rs ((seen rs).entry h - 1) (with_follower f r)) ≡ led h f (seen rs)
  held_led f r e =
      write_view max_edge slots rs ((seen rs).entry h - 1) (with_follower f r) held_inside (ap (λ y. y.index) e)
      ∙ ap₂ (λ i y. written i (with_follower f y) (seen rs)) slot_is (ap bare e ∙ row_there)

  pub held_trailed : (p : ℤ) (r : Halfedge) → r ≡ get_or rs ((seen rs).entry h - 1) none → seen (set rs ((seen rs).entry h - 1) (with_predecessor p r)) ≡ trailed h p (seen rs)
  held_trailed p r e =
      write_view max_edge slots rs ((seen rs).entry h - 1) (with_predecessor p r) held_inside (ap (λ y. y.index) e)
      ∙ ap₂ (λ i y. written i (with_predecessor p y) (seen rs)) slot_is (ap bare e ∙ row_there)

-- ---- a held name's row is written, under its name
module _ (cap : ℕ) (v : View) (x : Indexed cap v) (b : ℤ) (here : (turn_of v).held b ≡ true) (r : Halfedge) (name : r.name ≡ b) where
  pub written_rows : (g : ℤ) → row_of (written (v.entry b) r v) g ≡ at b r (row_of v) g
  written_rows g =
      grind (arith, eqb_tells (v.entry g) (v.entry b), tell g b, x.named b here, x.named g, eqb_tells (v.entry g) 0, eqb_tells (v.entry b) 0)

  pub written_indexed : Indexed cap (written (v.entry b) r v)
  written_indexed = record {
    inside = x.inside;
    named = λ h e. ap (λ y. y.name) (written_rows h) ∙ grind (arith, tell h b, x.named h e, name);
    found = λ s l u e. grind (arith, eqb_tells s (v.entry b), name, x.found s l u);
  }

-- a row that is home, or has no links, leaves the rest as it was
pub written_unlinked : (cap : ℕ) (v : View) → Unlinked cap v → (s : ℕ) (r : Halfedge) → (home r ≡ false → (r.follower ≡ pos 0) × (r.predecessor ≡ pos 0)) → Unlinked cap (written s r v)
written_unlinked cap v o s r bare i l u = go (eqb_tells i s)
  where
    go : ((eqb i s ≡ true) × (i ≡ s)) ⊎ ((eqb i s ≡ false) × (i ≡ s → ⊥)) → home (cond (eqb i s) r (v.row i)) ≡ false → ((cond (eqb i s) r (v.row i)).follower ≡ pos 0) × ((cond (eqb i s) r (v.row i)).predecessor ≡ pos 0)
    go (inl e) = subst (λ y. home y ≡ false → (y.follower ≡ pos 0) × (y.predecessor ≡ pos 0)) (sym (cond-true (eqb i s) r (v.row i) e.0)) bare
    go (inr e) = subst (λ y. home y ≡ false → (y.follower ≡ pos 0) × (y.predecessor ≡ pos 0)) (sym (cond-false (eqb i s) r (v.row i) e.0)) (o i l u)

-- a row with a name and a follower is home
pub home_not : (r : Halfedge) → (r.name ≡ pos 0 → ⊥) → (r.follower ≡ pos 0 → ⊥) → home r ≡ false → (r.follower ≡ pos 0) × (r.predecessor ≡ pos 0)
home_not r name follower out = absurd (grind (arith, tell r.name (pos 0), tell r.follower (pos 0), name, follower, out))

-- ---- h goes out
module _ (cap : ℕ) (v : View) (x : Indexed cap v) (zero_row : v.row 0 ≡ none) (n : ℕ) (w : Rotation n (turn_of v)) (h : ℤ) (here : (turn_of v).held h ≡ true) where
  abbrev a : ℤ
  a = (row_of v h).follower

  abbrev b : ℤ
  b = (row_of v h).predecessor

  pub after_held : (turn_of v).held (row_of v h).follower ≡ true
  after_held = w.ahead h here

  pub before_held : (turn_of v).held (row_of v h).predecessor ≡ true
  before_held = w.behind h here

  abbrev v₁ : View
  v₁ = led b a v

  pub led_indexed : Indexed cap (led (row_of v h).predecessor (row_of v h).follower v)
  led_indexed = written_indexed cap v x b before_held (with_follower a (row_of v b)) (x.named b before_held)

  rows₁ : (g : ℤ) → row_of v₁ g ≡ at b (with_follower a (row_of v b)) (row_of v) g
  rows₁ g = written_rows cap v x b before_held (with_follower a (row_of v b)) (x.named b before_held) g

  abbrev v₂ : View
  v₂ = trailed a b v₁

  indexed₂ : Indexed cap v₂
  indexed₂ = written_indexed cap v₁ led_indexed a after_held (with_predecessor b (row_of v₁ a)) (led_indexed.named a after_held)

  rows₂ : (g : ℤ) → row_of v₂ g ≡ at a (with_predecessor b (row_of v₁ a)) (row_of v₁) g
  rows₂ g = written_rows cap v₁ led_indexed a after_held (with_predecessor b (row_of v₁ a)) (led_indexed.named a after_held) g

  out_other : (g : ℤ) → (g ≡ h → ⊥) → row_of (unhooked h v) g ≡ row_of v₂ g
  out_other g d =
      grind (arith, tell g h, eqb_tells (v.entry g) (v.entry h), eqb_tells (v.entry g) 0, eqb_tells (v.entry h) 0, x.named h here, x.named g)

  out_here : row_of (unhooked h v) h ≡ none
  out_here =
      let z : at h 0 v.entry h ≡ 0 = grind (arith, tell h h) in
      ap (λ i. (written (v.entry h) none v₂).row i) z
      ∙ grind (arith, eqb_tells 0 (v.entry h), eqb_tells 0 (v.entry a), eqb_tells 0 (v.entry b), held_slot v h here, held_slot v a after_held, held_slot v b before_held, zero_row)

  out_held : (g : ℤ) → (turn_of (unhooked h v)).held g ≡ (drawn h (turn_of v)).held g
  out_held g = grind (arith, tell g h, eqb_tells 0 0)

  out_follower : (g : ℤ) → (turn_of (unhooked h v)).follower g ≡ (drawn h (turn_of v)).follower g
  out_follower g = grind (arith, tell g h, tell g a, tell g b, out_here, out_other g, rows₂ g, rows₁ g, rows₁ a)

  out_predecessor : (g : ℤ) → (turn_of (unhooked h v)).predecessor g ≡ (drawn h (turn_of v)).predecessor g
  out_predecessor g = grind (arith, tell g h, tell g a, tell g b, out_here, out_other g, rows₂ g, rows₁ g, rows₁ a)

  pub unhooked_turn : turn_of (unhooked h v) ≡ drawn h (turn_of v)
  unhooked_turn = λ i. record { held = λ g. out_held g i; follower = λ g. out_follower g i; predecessor = λ g. out_predecessor g i }

  out_x : (g : ℤ) → (g ≡ h → ⊥) → ((row_of (unhooked h v) g).x ≡ (row_of v g).x) × ((row_of (unhooked h v) g).y ≡ (row_of v g).y)
  out_x g d =
      (grind (arith, tell g a, tell g b, out_other g d, rows₂ g, rows₁ g, rows₁ a), grind (arith, tell g a, tell g b, out_other g d, rows₂ g, rows₁ g, rows₁ a))

  out_place : (g : ℤ) → points_of (unhooked h v) g ≡ at h None (points_of v) g
  out_place g = go (tell g h)
    where
      go : Tells g h → points_of (unhooked h v) g ≡ at h None (points_of v) g
      go (inl e) = cond-false _ _ _ (out_held g ∙ cond-true _ _ _ e.0) ∙ sym (cond-true _ _ _ e.0)
      go (inr e) =
          let s = out_x g e.1 in
          ap (λ t. cond t (Some (row_point (row_of (unhooked h v) g))) None) (out_held g ∙ cond-false _ _ _ e.0)
          ∙ ap (λ q. cond ((turn_of v).held g) (Some q) None) (λ i. record { x = s.0 i; y = s.1 i })
          ∙ sym (cond-false _ _ _ e.0)

  pub unhooked_points : points_of (unhooked h v) ≡ at h None (points_of v)
  unhooked_points = λ i g. out_place g i

  pub unhooked_indexed : Indexed cap (unhooked h v)
  unhooked_indexed = record {
    inside = λ g. grind (arith, tell g h, x.inside g, leb_tells 0 cap);
    named = λ g e. grind (arith, tell g h, out_held g, out_other g, indexed₂.named g, eqb_tells 0 0);
    found = λ s l u e.
        grind (arith, eqb_tells s (v.entry h), indexed₂.found s l u, tell (v₂.row s).name h, tell (pos 0) (pos 0));
  }

  -- one row less is used
  pub unhooked_used : suc (used cap (unhooked h v)) ≡ used cap v
  unfolding used
  unhooked_used =
      sym (count_more cap (taken_row (unhooked h v)) (taken_row v) (v.entry h) (held_slot v h here) (leb-true _ _ (x.inside h))
      (grind (arith, eqb_tells (v.entry h) (v.entry h), tell (pos 0) (pos 0)))
      (grind (arith, x.named h here, tell h (pos 0), w.no_zero, here))
      (λ i d. grind (arith, eqb_tells i (v.entry h), eqb_tells i (v.entry a), eqb_tells i (v.entry b), eqb_tells (v.entry a) (v.entry b))))

  pub unhooked_strips : strips_of (unhooked h v) ≡ at h 0 (strips_of v)
  unhooked_strips = λ i g. strip g i
    where
      strip : (g : ℤ) → strips_of (unhooked h v) g ≡ at h 0 (strips_of v) g
      strip g = grind (arith, tell g h, tell g a, tell g b, out_here, out_other g, rows₂ g, rows₁ g, rows₁ a)

  -- its slot is free
  pub unhooked_counted : (i : ℕ) (g : ℤ) → (g ≡ pos 0 → ⊥) → slot_count cap v i g ≡ indicator (same_place (strips_of v h) h i g) + slot_count cap (unhooked h v) i g
  unhooked_counted i g some =
      slot_loss cap v (unhooked h v) (v.entry h) (held_slot v h here) (leb-true _ _ (x.inside h))
      (λ j d. (
        grind (arith, eqb_tells j (v.entry h), eqb_tells j (v.entry a), eqb_tells j (v.entry b), eqb_tells (v.entry a) (v.entry b)),
        grind (arith, eqb_tells j (v.entry h), eqb_tells j (v.entry a), eqb_tells j (v.entry b), eqb_tells (v.entry a) (v.entry b)),
      ))
      (grind (arith, eqb_tells (v.entry h) (v.entry h))) i g some
      ∙ ap (λ k. indicator (same_place (strips_of v h) k i g) + slot_count cap (unhooked h v) i g) (x.named h here)

  no_zero : (g : ℤ) → (turn_of v).held g ≡ true → g ≡ pos 0 → ⊥
  no_zero g e z = both_ways _ w.no_zero (ap (turn_of v).held (sym z) ∙ e)

  pub unhooked_unlinked : Unlinked cap v → Unlinked cap (unhooked h v)
  unhooked_unlinked o =
      written_unlinked cap v₂
      (written_unlinked cap v₁
      (written_unlinked cap v o (v.entry b) (with_follower a (row_of v b)) (home_not (with_follower a (row_of v b)) (λ z. no_zero b before_held (sym (x.named b before_held) ∙ z)) (no_zero a after_held)))
      (v.entry a) (with_predecessor b (row_of v₁ a)) (home_not (with_predecessor b (row_of v₁ a)) (λ z. no_zero a after_held (sym (led_indexed.named a after_held) ∙ z)) leads))
      (v.entry h) none (λ _. (refl, refl))
    where
      leads : (row_of v₁ a).follower ≡ pos 0 → ⊥
      leads z = grind (arith, tell a b, rows₁ a, z, no_zero a after_held, no_zero (row_of v a).follower (w.ahead a after_held))
