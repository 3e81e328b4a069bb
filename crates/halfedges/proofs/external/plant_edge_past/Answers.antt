use Rattle.std.proofs.Common.{◌≡◌, ℕ, ◌+◌, ◌-◌, ◌*◌, ◌<◌, ◌≤◌, pos, neg_ℤ, sym, ap, ◌∙◌, subst, subst₂, add-one, arith}
use Rattle.flat.specs.Orbits.{indicator}
use Rattle.turning.specs.Limits.{max_edge, slots}
use Rattle.turning.proofs.Names.{plus_fits, plus_name, minus_fits, minus_name, held_small}
use Rattle.laws.proofs.Edges.{rotation_of, held_some}
use Rattle.halfedges.specs.View.{seen}
use Rattle.halfedges.specs.Rows.{strips_of, used, same_place, externals, Planted}
use Rattle.halfedges.proofs.Beside.{planted_none, externals_none, plant_step, plus_some, minus_some}
use Rattle.halfedges.proofs.external.plant_edge_past.Goals as goal

pub overflow_cast-e : goal.overflow_cast-e
overflow_cast-e c = plus_fits c.args.edge (held_small _ c.requires.core.sound.0 c.args.edge c.requires.here)

pub overflow_sub-back : goal.overflow_sub-back
overflow_sub-back c = minus_fits c.args.edge (held_small _ c.requires.core.sound.0 c.args.edge c.requires.here)

pub loop-i-init : goal.loop-i-init
loop-i-init c =
    let a = c.row_of-west.result.strip in
    let v = seen c.args.rows.now in
    let none : 0 ≡ 2 * (a - a) = omega arith in
    (c.requires.core, subst (λ m. Planted slots m (externals c.args.edge a a) v v) none (planted_none slots (externals c.args.edge a a) v (λ i h. externals_none c.args.edge a i h)), λ o. o, c.requires.packed)

-- two slots are left for the rows over the next border
room_left : (u v a b x y i s : ℕ) → v ≡ 2 * (i - x) + u → u + 2 * (b - a) ≤ s → x ≡ a → y ≡ b → x ≤ i → i < y → v + 2 ≤ s
room_left u v a b x y i s p q r t k l = omega arith

one_left : (v s : ℕ) → v + 2 ≤ s → v < s
one_left v s l = omega arith

then_one : (v w s : ℕ) → w ≡ 1 + v → v + 2 ≤ s → w < s
then_one v w s e l = omega arith

pub plant_past-known-requires : goal.plant_past-known-requires
plant_past-known-requires c =
    let v = seen c.args.rows.now in
    let u = seen c.loop-i.rows in
    let e = c.args.edge in
    let small = held_small _ c.requires.core.sound.0 e c.requires.here in
    let one = held_some max_edge _ (rotation_of max_edge _ c.requires.core.sound.0) e c.requires.here in
    let west : c.row_of-west.result.strip ≡ strips_of v (pos e) = ap (λ r. r.strip) c.row_of-west.ensures ∙ ap (strips_of v) (plus_name e small) in
    let east : c.row_of-east.result.strip ≡ strips_of v (neg_ℤ (pos e)) = ap (λ r. r.strip) c.row_of-east.ensures ∙ ap (strips_of v) (minus_name e small) in
    record {
      core = c.loop-i.invariant.0;
      room = one_left (used slots u) slots (room_left (used slots v) (used slots u) _ _ _ _ c.loop-i.i slots c.loop-i.invariant.1.used c.requires.room west east c.loop-i.auto.i c.loop-i-test.true);
      some = λ z. minus_some e one (sym (minus_name e small) ∙ z);
      packed = c.loop-i.invariant.3;
    }

pub plant_past-known-requires-in-loop-i : goal.plant_past-known-requires-in-loop-i
plant_past-known-requires-in-loop-i c =
    let v = seen c.args.rows.now in
    let u = seen c.loop-i.rows in
    let w = seen c.plant_past-known.new.rows in
    let e = c.args.edge in
    let small = held_small _ c.requires.core.sound.0 e c.requires.here in
    let one = held_some max_edge _ (rotation_of max_edge _ c.requires.core.sound.0) e c.requires.here in
    let west : c.row_of-west.result.strip ≡ strips_of v (pos e) = ap (λ r. r.strip) c.row_of-west.ensures ∙ ap (strips_of v) (plus_name e small) in
    let east : c.row_of-east.result.strip ≡ strips_of v (neg_ℤ (pos e)) = ap (λ r. r.strip) c.row_of-east.ensures ∙ ap (strips_of v) (minus_name e small) in
    record {
      core = c.plant_past-known.ensures.core;
      room = then_one (used slots u) (used slots w) slots c.plant_past-known.ensures.planted.used (room_left (used slots v) (used slots u) _ _ _ _ c.loop-i.i slots c.loop-i.invariant.1.used c.requires.room west east c.loop-i.auto.i c.loop-i-test.true);
      some = λ z. plus_some e one (sym (plus_name e small) ∙ z);
      packed = c.plant_past-known.ensures.packed;
    }

pub loop-i-preserved : goal.loop-i-preserved
loop-i-preserved c =
    let v = seen c.args.rows.now in
    let u = seen c.loop-i.rows in
    let w = seen c.plant_past-known.new.rows in
    let x = seen c.plant_past-known-in-loop-i.new.rows in
    let e = c.args.edge in
    let i = c.loop-i.i in
    let small = held_small _ c.requires.core.sound.0 e c.requires.here in
    let back : Planted slots 1 (λ j h. indicator (same_place i (neg_ℤ (pos e)) j h)) u w = subst (λ z. Planted slots 1 (λ j h. indicator (same_place i z j h)) u w) (minus_name e small) c.plant_past-known.ensures.planted in
    let ahead : Planted slots 1 (λ j h. indicator (same_place (i + 1) (pos e) j h)) w x = subst (λ z. Planted slots 1 (λ j h. indicator (same_place (i + 1) z j h)) w x) (plus_name e small) c.plant_past-known-in-loop-i.ensures.planted in (
      c.plant_past-known-in-loop-i.ensures.core,
      plant_step slots e c.row_of-west.result.strip i (i + 1) v u w x c.loop-i.auto.i (add-one i) c.loop-i.invariant.1 back ahead,
      λ o. c.plant_past-known-in-loop-i.ensures.unlinked (c.plant_past-known.ensures.unlinked (c.loop-i.invariant.2 o)),
      c.plant_past-known-in-loop-i.ensures.packed,
    )

pub returns : goal.returns
returns c =
    let v = seen c.args.rows.now in
    let u = seen c.loop-i.rows in
    let e = c.args.edge in
    let small = held_small _ c.requires.core.sound.0 e c.requires.here in
    let west : c.row_of-west.result.strip ≡ strips_of v (pos e) = ap (λ r. r.strip) c.row_of-west.ensures ∙ ap (strips_of v) (plus_name e small) in
    let east : c.row_of-east.result.strip ≡ strips_of v (neg_ℤ (pos e)) = ap (λ r. r.strip) c.row_of-east.ensures ∙ ap (strips_of v) (minus_name e small) in
    let past = c.loop-i-test.false in
    let last = c.loop-i.auto.i-end in
    let order : c.row_of-west.result.strip ≤ c.row_of-east.result.strip = omega (arith, west, east, c.requires.eastward) in
    let end : c.loop-i.i ≡ strips_of v (neg_ℤ (pos e)) = omega (arith, last order, east) in
    record {
      core = c.loop-i.invariant.0;
      planted = subst₂ (λ a b. Planted slots (2 * (b - a)) (externals e a b) v u) west end c.loop-i.invariant.1;
      unlinked = c.loop-i.invariant.2;
      packed = c.loop-i.invariant.3;
    }
