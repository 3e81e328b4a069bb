-- Rows that the index does not lead to: they come and go, and the meaning stays. Assumes nothing.
use Rattle.std.proofs.Common.{◌≡◌, ℕ, suc, ◌+◌, ◌-◌, ◌*◌, ◌<◌, ◌≤◌, Bool, true, false, cond, not, ◌&&◌, eqb, ltb, leb, List, length, ℤ, pos, neg_ℤ, Some, None, sym, refl, ap, ◌∙◌, subst, ap₂, arith}
use Rattle.std.proofs.lemmas.Int.{ints}
use Rattle.std.proofs.lemmas.Bool.{cond-true, cond-false, both_ways}
use Rattle.std.proofs.lemmas.Bool.Decides.{eqb_tells, leb_tells}
use Rattle.flat.specs.Orbits.{indicator}
use Rattle.flat.specs.Whole.{equal}
use Rattle.laws.specs.Keeps.{Sound}
use Rattle.laws.proofs.Equal.{tell}
use Rattle.halfedges.specs.declared.halfedge.Halfedge.{Halfedge}
use Rattle.halfedges.specs.View.{View, none, row_of, written, view}
use Rattle.halfedges.specs.Rows.{turn_of, row_point, strips_of, lines_in, Unlinked, Indexed, taken_row, used, same_place, row_in, slot_count, externals, Planted, Core}
use Rattle.halfedges.proofs.Counted.{count_none, slot_gain, slot_loss, used_swap}
use Rattle.halfedges.proofs.Meaning.{written_unlinked}

-- where no slot has the strip and the name, their count is 0
pub no_slot : (cap : ℕ) (v : View) (i : ℕ) (h : ℤ) → ((k : ℕ) → k < cap → row_in v i h (suc k) ≡ false) → 1 ≤ slot_count cap v i h → ⊥
unfolding slot_count
no_slot cap v i h none some =
    let e = count_none cap (row_in v i h) (λ s l u. let z : suc (s - 1) ≡ s = omega arith in subst (λ j. row_in v i h j ≡ false) z (none (s - 1) (omega arith))) in
    omega arith

-- the row at a slot to which no entry leads
module _ (cap : ℕ) (v : View) (x : Indexed cap v) (s : ℕ) (low : 1 ≤ s) (high : s ≤ cap) (off : (g : ℤ) → v.entry g ≡ s → ⊥)
    (r : Halfedge) (follower : r.follower ≡ pos 0) (predecessor : r.predecessor ≡ pos 0) where
  beside_rows : (g : ℤ) → row_of (written s r v) g ≡ row_of v g
  beside_rows g = cond-false (eqb (v.entry g) s) r (row_of v g) (grind (arith, eqb_tells (v.entry g) s, off g))

  pub beside_lines : lines_in (written s r v) ≡ lines_in v
  beside_lines = λ i. record {
    turn = record { held = (turn_of v).held; follower = λ g. (beside_rows g i).follower; predecessor = λ g. (beside_rows g i).predecessor };
    points = λ g. cond ((turn_of v).held g) (Some (row_point (beside_rows g i))) None;
  }

  pub beside_strips : strips_of (written s r v) ≡ strips_of v
  beside_strips = λ i g. (beside_rows g i).strip

  pub beside_indexed : Indexed cap (written s r v)
  beside_indexed = record {
    inside = x.inside;
    named = λ g e. ap (λ y. y.name) (beside_rows g) ∙ x.named g e;
    found = λ i l u e. grind (arith, eqb_tells i s, x.found i l u, tell r.follower (pos 0), follower, e);
  }

  pub beside_unlinked : Unlinked cap v → Unlinked cap (written s r v)
  beside_unlinked o = written_unlinked cap v o s r (λ _. (follower, predecessor))

  there : (written s r v).row s ≡ r
  there = cond-true (eqb s s) r (v.row s) (grind (arith, eqb_tells s s))

  same : (j : ℕ) → (j ≡ s → ⊥) → (((written s r v).row j).name ≡ (v.row j).name) × (((written s r v).row j).strip ≡ (v.row j).strip)
  same j d = let e = cond-false (eqb j s) r (v.row j) (grind (arith, eqb_tells j s, d)) in (ap (λ y. y.name) e, ap (λ y. y.strip) e)

  -- a name comes to a free row
  pub beside_planted : (v.row s).name ≡ pos 0 → (r.name ≡ pos 0 → ⊥) → Planted cap 1 (λ i h. indicator (same_place r.strip r.name i h)) v (written s r v)
  beside_planted free some = record {
    lines = beside_lines;
    strips = beside_strips;
    used =
        let e = used_swap cap v (written s r v) s low high same in
        let a : taken_row v s ≡ false = grind (arith, free, tell (v.row s).name (pos 0)) in
        let b : not (equal r.name (pos 0)) ≡ true = grind (arith, some, tell r.name (pos 0)) in
        sum (used cap v) (used cap (written s r v)) _ _ e (ap indicator a) (ap (λ y. indicator (not (equal y.name (pos 0)))) there ∙ ap indicator b);
    counted = λ i h p. slot_gain cap v (written s r v) s low high same free i h p ∙ ap (λ y. indicator (same_place y.strip y.name i h) + slot_count cap v i h) there;
  }
    where
      sum : (m n p q : ℕ) → n + p ≡ m + q → p ≡ 0 → q ≡ 1 → n ≡ 1 + m
      sum m n p q a b c = omega arith

  -- a row is freed
  pub beside_freed : (strip : ℕ) (k : ℤ) → (v.row s).strip ≡ strip → (v.row s).name ≡ k → (k ≡ pos 0 → ⊥) → r.name ≡ pos 0 → Planted cap 1 (λ i h. indicator (same_place strip k i h)) (written s r v) v
  beside_freed strip k in_strip named some none_there = record {
    lines = sym beside_lines;
    strips = sym beside_strips;
    used =
        let e = used_swap cap v (written s r v) s low high same in
        let a : taken_row v s ≡ true = grind (arith, named, some, tell (v.row s).name (pos 0)) in
        let b : not (equal r.name (pos 0)) ≡ false = grind (arith, none_there, tell r.name (pos 0)) in
        sum (used cap v) (used cap (written s r v)) _ _ e (ap indicator a) (ap (λ y. indicator (not (equal y.name (pos 0)))) there ∙ ap indicator b);
    counted = λ i h p.
        slot_loss cap v (written s r v) s low high same (ap (λ y. y.name) there ∙ none_there) i h p
        ∙ ap₂ (λ t n. indicator (same_place t n i h) + slot_count cap (written s r v) i h) in_strip named;
  }
    where
      sum : (m n p q : ℕ) → n + p ≡ m + q → p ≡ 1 → q ≡ 0 → m ≡ 1 + n
      sum m n p q a b c = omega arith

-- ---- which slots no entry leads to
pub free_off : (cap : ℕ) (v : View) → Indexed cap v → (turn_of v).held (pos 0) ≡ false → (s : ℕ) → 1 ≤ s → (v.row s).name ≡ pos 0 → (g : ℤ) → v.entry g ≡ s → ⊥
free_off cap v x zero-free s low free g e =
    let held : (turn_of v).held g ≡ true = grind (arith, eqb_tells (v.entry g) 0, e) in
    let z : g ≡ pos 0 = sym (x.named g held) ∙ ap (λ i. (v.row i).name) e ∙ free in
    both_ways _ zero-free (ap (turn_of v).held (sym z) ∙ held)

pub away_off : (cap : ℕ) (v : View) → Indexed cap v → (s : ℕ) → 1 ≤ s → (strip : ℕ) (k : ℤ) → row_in v strip k s ≡ true → (strips_of v k ≡ strip → ⊥) → (g : ℤ) → v.entry g ≡ s → ⊥
away_off cap v x s low strip k here away g e =
    let held : (turn_of v).held g ≡ true = grind (arith, eqb_tells (v.entry g) 0, e) in
    let name : (v.row s).name ≡ k = grind (arith, tell (v.row s).name k, here) in
    let in_strip : (v.row s).strip ≡ strip = grind (arith, tell (v.row s).name k, eqb_tells (v.row s).strip strip, here) in
    let z : g ≡ k = sym (x.named g held) ∙ ap (λ i. (v.row i).name) e ∙ name in
    away (ap (strips_of v) (sym z) ∙ ap (λ i. (v.row i).strip) e ∙ in_strip)

pub row_in_is : (v : View) (strip : ℕ) (k : ℤ) (s : ℕ) → (v.row s).name ≡ k → (v.row s).strip ≡ strip → row_in v strip k s ≡ true
row_in_is v strip k s named in_strip = grind (arith, tell (v.row s).name k, eqb_tells (v.row s).strip strip)

pub row_in_not : (v : View) (strip : ℕ) (k : ℤ) (s : ℕ) → ((v.row s).name ≡ k → (v.row s).strip ≡ strip → ⊥) → row_in v strip k s ≡ false
row_in_not v strip k s other = grind (arith, tell (v.row s).name k, eqb_tells (v.row s).strip strip, other)

pub row_in_parts : (v : View) (strip : ℕ) (k : ℤ) (s : ℕ) → row_in v strip k s ≡ true → ((v.row s).strip ≡ strip) × ((v.row s).name ≡ k)
row_in_parts v strip k s here = (
  grind (arith, tell (v.row s).name k, eqb_tells (v.row s).strip strip, here),
  grind (arith, tell (v.row s).name k, here),
)

-- a memory with the same line work
pub core_same : (n cap : ℕ) (rs rs' : List Halfedge) → Core n cap rs → cap ≤ length rs' → Indexed cap (view n cap rs') → lines_in (view n cap rs') ≡ lines_in (view n cap rs) → Core n cap rs'
core_same n cap rs rs' core long indexed lines = record { long = long; indexed = indexed; sound = subst (Sound n) (sym lines) core.sound }

-- ---- several at once
pub planted_none : (cap : ℕ) (c : ℕ → ℤ → ℕ) (v : View) → ((i : ℕ) (h : ℤ) → c i h ≡ 0) → Planted cap 0 c v v
planted_none cap c v z = record {
  lines = refl;
  strips = refl;
  used = omega arith;
  counted = λ i h _. let e = z i h in sum (c i h) (slot_count cap v i h) e;
}
  where
    sum : (p q : ℕ) → p ≡ 0 → q ≡ p + q
    sum p q e = omega arith

pub planted_more : (cap m m' total : ℕ) (c c' all : ℕ → ℤ → ℕ) (u v w : View) → Planted cap m c u v → Planted cap m' c' v w → total ≡ m' + m → ((i : ℕ) (h : ℤ) → all i h ≡ c' i h + c i h) → Planted cap total all u w
planted_more cap m m' total c c' all u v w p q sum both = record {
  lines = q.lines ∙ p.lines;
  strips = q.strips ∙ p.strips;
  used = three (used cap u) (used cap v) (used cap w) m m' total p.used q.used sum;
  counted = λ i h some. three (slot_count cap u i h) (slot_count cap v i h) (slot_count cap w i h) (c i h) (c' i h) (all i h) (p.counted i h some) (q.counted i h some) (both i h);
}
  where
    three : (x y z a b t : ℕ) → y ≡ a + x → z ≡ b + y → t ≡ b + a → z ≡ t + x
    three x y z a b t e f g = omega arith

-- ---- an edge over one border more
pub externals_none : (e a i : ℕ) (h : ℤ) → externals e a a i h ≡ 0
externals_none e a i h = go (equal (pos e) h) (equal (neg_ℤ (pos e)) h)
  where
    go : (b c : Bool) → indicator (b && ltb a i && leb i a) + indicator (c && leb a i && ltb i a) ≡ 0
    go b c = grind (arith, leb_tells (suc a) i, leb_tells i a, leb_tells a i, leb_tells (suc i) a)

pub externals_more : (e a b i : ℕ) (h : ℤ) → a ≤ b → externals e a (suc b) i h ≡ (indicator (same_place (suc b) (pos e) i h) + indicator (same_place b (neg_ℤ (pos e)) i h)) + externals e a b i h
externals_more e a b i h l = go (equal (pos e) h) (equal (neg_ℤ (pos e)) h)
  where
    go : (p q : Bool) → indicator (p && ltb a i && leb i (suc b)) + indicator (q && leb a i && ltb i (suc b)) ≡ (indicator (p && eqb (suc b) i) + indicator (q && eqb b i)) + (indicator (p && ltb a i && leb i b) + indicator (q && leb a i && ltb i b))
    go true true = grind (arith, leb_tells (suc a) i, leb_tells i (suc b), leb_tells a i, leb_tells (suc i) (suc b), eqb_tells (suc b) i, eqb_tells b i, leb_tells i b, leb_tells (suc i) b)
    go true false = grind (arith, leb_tells (suc a) i, leb_tells i (suc b), eqb_tells (suc b) i, leb_tells i b)
    go false true = grind (arith, leb_tells a i, leb_tells (suc i) (suc b), eqb_tells b i, leb_tells (suc i) b)
    go false false = refl

pub externals_within : (e a b c i : ℕ) (h : ℤ) → b ≤ c → externals e a b i h ≤ externals e a c i h
externals_within e a b c i h l = go (equal (pos e) h) (equal (neg_ℤ (pos e)) h)
  where
    go : (p q : Bool) → indicator (p && ltb a i && leb i b) + indicator (q && leb a i && ltb i b) ≤ indicator (p && ltb a i && leb i c) + indicator (q && leb a i && ltb i c)
    go p q = grind (arith, leb_tells (suc a) i, leb_tells i c, leb_tells a i, leb_tells (suc i) c, leb_tells i b, leb_tells (suc i) b)

-- the rows over one border more come
pub plant_step : (cap e a i next : ℕ) (u v w x : View) → a ≤ i → next ≡ suc i → Planted cap (2 * (i - a)) (externals e a i) u v → Planted cap 1 (λ j h. indicator (same_place i (neg_ℤ (pos e)) j h)) v w
    → Planted cap 1 (λ j h. indicator (same_place next (pos e) j h)) w x → Planted cap (2 * (next - a)) (externals e a next) u x
plant_step cap e a i next u v w x l is past back ahead =
    planted_more cap (2 * (i - a)) 2 (2 * (next - a)) (externals e a i) (λ j h. indicator (same_place next (pos e) j h) + indicator (same_place i (neg_ℤ (pos e)) j h)) (externals e a next) u v x past
    (planted_more cap 1 1 2 (λ j h. indicator (same_place i (neg_ℤ (pos e)) j h)) (λ j h. indicator (same_place next (pos e) j h)) (λ j h. indicator (same_place next (pos e) j h) + indicator (same_place i (neg_ℤ (pos e)) j h)) v w x back ahead refl (λ j h. refl))
    (omega arith)
    (λ j h. subst (λ n. externals e a n j h ≡ (indicator (same_place n (pos e) j h) + indicator (same_place i (neg_ℤ (pos e)) j h)) + externals e a i j h) (sym is) (externals_more e a i j h l))

-- the rows over one border more go
pub uproot_step : (cap e a i next : ℕ) (u v w x : View) → a ≤ i → next ≡ suc i → Planted cap (2 * (i - a)) (externals e a i) v u → Planted cap 1 (λ j h. indicator (same_place i (neg_ℤ (pos e)) j h)) w v
    → Planted cap 1 (λ j h. indicator (same_place next (pos e) j h)) x w → Planted cap (2 * (next - a)) (externals e a next) x u
uproot_step cap e a i next u v w x l is past back ahead =
    planted_more cap 2 (2 * (i - a)) (2 * (next - a)) (λ j h. indicator (same_place i (neg_ℤ (pos e)) j h) + indicator (same_place next (pos e) j h)) (externals e a i) (externals e a next) x v u
    (planted_more cap 1 1 2 (λ j h. indicator (same_place next (pos e) j h)) (λ j h. indicator (same_place i (neg_ℤ (pos e)) j h)) (λ j h. indicator (same_place i (neg_ℤ (pos e)) j h) + indicator (same_place next (pos e) j h)) x w v ahead back refl (λ j h. refl))
    past (omega arith)
    (λ j h. swap (externals e a next j h) (externals e a i j h) _ _ (subst (λ n. externals e a n j h ≡ (indicator (same_place n (pos e) j h) + indicator (same_place i (neg_ℤ (pos e)) j h)) + externals e a i j h) (sym is) (externals_more e a i j h l)))
  where
    swap : (m k p q : ℕ) → m ≡ (p + q) + k → m ≡ k + (q + p)
    swap m k p q z = omega arith

-- the slots over the next border are still there
pub still_there : (cap e a b i : ℕ) (u v : View) → a ≤ i → i < b → Planted cap (2 * (i - a)) (externals e a i) v u → ((j : ℕ) (h : ℤ) → (h ≡ pos 0 → ⊥) → externals e a b j h ≤ slot_count cap u j h)
    → (j : ℕ) (h : ℤ) → (h ≡ pos 0 → ⊥) → indicator (same_place (suc i) (pos e) j h) + indicator (same_place i (neg_ℤ (pos e)) j h) ≤ slot_count cap v j h
still_there cap e a b i u v l m past there j h some =
    left _ _ (externals e a i j h) (externals e a (suc i) j h) (externals e a b j h) (slot_count cap u j h) (slot_count cap v j h) (externals_more e a i j h l) (externals_within e a (suc i) b j h m) (there j h some) (past.counted j h some)
  where
    left : (p q k k' b u v : ℕ) → k' ≡ (p + q) + k → k' ≤ b → b ≤ u → u ≡ k + v → p + q ≤ v
    left p q k k' b u v x y z w = omega arith

pub same_place_is : (i : ℕ) (h : ℤ) → indicator (same_place i h i h) ≡ 1
same_place_is i h = let e : same_place i h i h ≡ true = grind (arith, tell h h, eqb_tells i i) in ap indicator e

-- a held edge has two names, and neither is 0
pub plus_some : (e : ℕ) → 1 ≤ e → pos e ≡ pos 0 → ⊥
plus_some e l z = omega (arith, ints)

pub minus_some : (e : ℕ) → 1 ≤ e → neg_ℤ (pos e) ≡ pos 0 → ⊥
minus_some e l z = omega (arith, ints)
