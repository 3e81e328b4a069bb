use Rattle.std.proofs.Common.{◌≡◌, ℕ, suc, ◌+◌, ◌-◌, ◌*◌, ◌≤◌, ℤ, pos, neg_ℤ, sym, ap, ◌∙◌, subst, subst₂, add-one, arith}
use Rattle.flat.specs.Orbits.{indicator}
use Rattle.turning.specs.Limits.{max_edge, slots}
use Rattle.turning.proofs.Names.{plus_fits, plus_name, minus_fits, minus_name, held_small}
use Rattle.laws.proofs.Edges.{rotation_of, held_some}
use Rattle.halfedges.specs.View.{seen}
use Rattle.halfedges.specs.Rows.{strips_of, same_place, slot_count, externals, Planted}
use Rattle.halfedges.proofs.Beside.{planted_none, externals_none, uproot_step, still_there, same_place_is, plus_some, minus_some}
use Rattle.halfedges.proofs.external.uproot_edge.Goals as goal

pub overflow_cast-e : goal.overflow_cast-e
overflow_cast-e c = plus_fits c.args.edge (held_small _ c.requires.core.sound.0 c.args.edge c.requires.here)

pub overflow_sub-back : goal.overflow_sub-back
overflow_sub-back c = minus_fits c.args.edge (held_small _ c.requires.core.sound.0 c.args.edge c.requires.here)

pub loop-i-init : goal.loop-i-init
loop-i-init c =
    let a = c.row_of-west.result.strip in
    let v = seen c.args.rows.now in
    let none : 0 ≡ 2 * (a - a) = omega arith in
    (c.requires.core, subst (λ m. Planted slots m (externals c.args.edge a a) v v) none (planted_none slots (externals c.args.edge a a) v (λ i h. externals_none c.args.edge a i h)), λ o. o)

second : (p q n : ℕ) → p + q ≤ n → q ≡ 1 → 1 ≤ n
second p q n l e = omega arith

first : (p q n n' : ℕ) → p + q ≤ n → p ≡ 1 → n ≡ q + n' → 1 ≤ n'
first p q n n' l e k = omega arith

pub uproot-requires : goal.uproot-requires
uproot-requires c =
    let v = seen c.args.rows.now in
    let u = seen c.loop-i.rows in
    let e = c.args.edge in
    let i = c.loop-i.i in
    let small = held_small _ c.requires.core.sound.0 e c.requires.here in
    let one = held_some max_edge _ (rotation_of max_edge _ c.requires.core.sound.0) e c.requires.here in
    let west : c.row_of-west.result.strip ≡ strips_of v (pos e) = ap (λ r. r.strip) c.row_of-west.ensures ∙ ap (strips_of v) (plus_name e small) in
    let east : c.row_of-east.result.strip ≡ strips_of v (neg_ℤ (pos e)) = ap (λ r. r.strip) c.row_of-east.ensures ∙ ap (strips_of v) (minus_name e small) in
    let there = subst₂ (λ a b. (j : ℕ) (h : ℤ) → (h ≡ pos 0 → ⊥) → externals e a b j h ≤ slot_count slots v j h) (sym west) (sym east) c.requires.there in
    let left = still_there slots e c.row_of-west.result.strip c.row_of-east.result.strip i v u c.loop-i.auto.i c.loop-i-test.true c.loop-i.invariant.1 there i (neg_ℤ (pos e)) (minus_some e one) in
    record {
      core = c.loop-i.invariant.0;
      there = subst (λ z. 1 ≤ slot_count slots u i z) (sym (minus_name e small)) (second _ _ _ left (same_place_is i (neg_ℤ (pos e))));
      some = λ z. minus_some e one (sym (minus_name e small) ∙ z);
      away = λ z.
          let is : c.row_of-east.result.strip ≡ i = east ∙ ap (λ f. f (neg_ℤ (pos e))) c.loop-i.invariant.1.strips ∙ ap (strips_of u) (sym (minus_name e small)) ∙ z in
          omega (arith, is, c.loop-i-test.true);
    }

pub uproot-requires-in-loop-i : goal.uproot-requires-in-loop-i
uproot-requires-in-loop-i c =
    let v = seen c.args.rows.now in
    let u = seen c.loop-i.rows in
    let w = seen c.uproot.new.rows in
    let e = c.args.edge in
    let i = c.loop-i.i in
    let small = held_small _ c.requires.core.sound.0 e c.requires.here in
    let one = held_some max_edge _ (rotation_of max_edge _ c.requires.core.sound.0) e c.requires.here in
    let west : c.row_of-west.result.strip ≡ strips_of v (pos e) = ap (λ r. r.strip) c.row_of-west.ensures ∙ ap (strips_of v) (plus_name e small) in
    let east : c.row_of-east.result.strip ≡ strips_of v (neg_ℤ (pos e)) = ap (λ r. r.strip) c.row_of-east.ensures ∙ ap (strips_of v) (minus_name e small) in
    let there = subst₂ (λ a b. (j : ℕ) (h : ℤ) → (h ≡ pos 0 → ⊥) → externals e a b j h ≤ slot_count slots v j h) (sym west) (sym east) c.requires.there in
    let left = still_there slots e c.row_of-west.result.strip c.row_of-east.result.strip i v u c.loop-i.auto.i c.loop-i-test.true c.loop-i.invariant.1 there (suc i) (pos e) (plus_some e one) in
    let back : Planted slots 1 (λ j h. indicator (same_place i (neg_ℤ (pos e)) j h)) w u = subst (λ z. Planted slots 1 (λ j h. indicator (same_place i z j h)) w u) (minus_name e small) c.uproot.ensures.planted in
    record {
      core = c.uproot.ensures.core;
      there = subst₂ (λ j z. 1 ≤ slot_count slots w j z) (sym (add-one i)) (sym (plus_name e small)) (first _ _ _ _ left (same_place_is (suc i) (pos e)) (back.counted (suc i) (pos e) (plus_some e one)));
      some = λ z. plus_some e one (sym (plus_name e small) ∙ z);
      away = λ z.
          let is : c.row_of-west.result.strip ≡ i + 1 = west ∙ ap (λ f. f (pos e)) c.loop-i.invariant.1.strips ∙ ap (λ f. f (pos e)) back.strips ∙ ap (strips_of w) (sym (plus_name e small)) ∙ z in
          omega (arith, is, c.loop-i.auto.i);
    }

pub loop-i-preserved : goal.loop-i-preserved
loop-i-preserved c =
    let v = seen c.args.rows.now in
    let u = seen c.loop-i.rows in
    let w = seen c.uproot.new.rows in
    let x = seen c.uproot-in-loop-i.new.rows in
    let e = c.args.edge in
    let i = c.loop-i.i in
    let small = held_small _ c.requires.core.sound.0 e c.requires.here in
    let back : Planted slots 1 (λ j h. indicator (same_place i (neg_ℤ (pos e)) j h)) w u = subst (λ z. Planted slots 1 (λ j h. indicator (same_place i z j h)) w u) (minus_name e small) c.uproot.ensures.planted in
    let ahead : Planted slots 1 (λ j h. indicator (same_place (i + 1) (pos e) j h)) x w = subst (λ z. Planted slots 1 (λ j h. indicator (same_place (i + 1) z j h)) x w) (plus_name e small) c.uproot-in-loop-i.ensures.planted in (
      c.uproot-in-loop-i.ensures.core,
      uproot_step slots e c.row_of-west.result.strip i (i + 1) v u w x c.loop-i.auto.i (add-one i) c.loop-i.invariant.1 back ahead,
      λ o. c.uproot-in-loop-i.ensures.unlinked (c.uproot.ensures.unlinked (c.loop-i.invariant.2 o)),
    )

pub returns : goal.returns
returns c =
    let v = seen c.args.rows.now in
    let u = seen c.loop-i.rows in
    let e = c.args.edge in
    let small = held_small _ c.requires.core.sound.0 e c.requires.here in
    let west : c.row_of-west.result.strip ≡ strips_of v (pos e) = ap (λ r. r.strip) c.row_of-west.ensures ∙ ap (strips_of v) (plus_name e small) in
    let east : c.row_of-east.result.strip ≡ strips_of v (neg_ℤ (pos e)) = ap (λ r. r.strip) c.row_of-east.ensures ∙ ap (strips_of v) (minus_name e small) in
    let past = c.loop-i-test.false in
    let last = c.loop-i.auto.i-end in
    let order : c.row_of-west.result.strip ≤ c.row_of-east.result.strip = omega (arith, west, east, c.requires.eastward) in
    let end : c.loop-i.i ≡ strips_of v (neg_ℤ (pos e)) = omega (arith, last order, east) in
    record {
      core = c.loop-i.invariant.0;
      planted = subst₂ (λ a b. Planted slots (2 * (b - a)) (externals e a b) u v) west end c.loop-i.invariant.1;
      unlinked = c.loop-i.invariant.2;
    }
