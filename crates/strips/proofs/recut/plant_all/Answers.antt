use Rattle.std.proofs.Common.{◌≡◌, ℕ, suc, ◌+◌, ◌-◌, ◌*◌, ◌≤◌, Bool, true, false, not, List, ℤ, pos, neg_ℤ, sym, refl, ap, ◌∙◌, subst, subst₂, arith}
use Rattle.std.proofs.lemmas.Bool.{eq-eqb, ne_eqb}
use Rattle.turning.specs.Limits.{max_edge, slots}
use Rattle.turning.proofs.Names.{small, plus_name}
use Rattle.laws.specs.Keeps.{Sound}
use Rattle.halfedges.specs.declared.halfedge.Halfedge.{Halfedge}
use Rattle.halfedges.specs.View.{seen}
use Rattle.halfedges.specs.Rows.{turn_of, strips_of, lines_in, Packed, used, slot_count, Unlinked, externals, Planted, Core}
use Rattle.halfedges.proofs.Counted.{packed_none}
use Rattle.halfedges.proofs.Alone.{alone_each, alone_used, alone_unlinked}
use Rattle.strips.proofs.Keeping.{Tally, home_is, stripped_by}
use Rattle.strips.proofs.Planting.{Planting, planting_none, planting_skip, planting_eastward, planting_room, planting_more, planting_all}
use Rattle.strips.proofs.recut.plant_all.Goals as goal
use Rattle.strips.proofs.recut.plant_all.Goals.{then-slot-ne0, else-slot-ne0}

abbrev PlantedTo : List ℤ → List Halfedge → ℕ → List Halfedge → Type 0
PlantedTo bs rs₀ i rs =
    Core max_edge slots rs × (lines_in (seen rs) ≡ lines_in (seen rs₀)) × Unlinked slots (seen rs)
    × Planting max_edge bs (lines_in (seen rs₀)) i (strips_of (seen rs)) (slot_count slots (seen rs)) (used slots (seen rs))

pub loop-e-init : goal.loop-e-init
loop-e-init c = (
  packed_none (seen c.args.rows.now),
  λ i z.
      let bs = c.args._borders.now.items in
      let rs = c.args.rows.now in
      let v = seen rs in
      let core = c.requires.core in
      let lawful = core.sound.0 in
      let same : 0 ≡ i = omega arith in
      let first : PlantedTo bs rs 0 rs = (
        core,
        refl,
        alone_unlinked max_edge slots v core.indexed lawful c.requires.alone,
        planting_none max_edge bs (lines_in v) (strips_of v) (slot_count slots v) (used slots v)
            (λ h held. c.requires.homes h held ∙ sym (home_is bs v h held))
            (alone_each max_edge slots v core.indexed lawful c.requires.alone)
            (alone_used max_edge slots v core.indexed lawful c.requires.alone),
      ) in
      subst (λ k. PlantedTo bs rs k rs) same first,
)

-- an edge is held by the memory at the start of the loop, where it is now
held_first : (rs₀ rs : List Halfedge) → lines_in (seen rs) ≡ lines_in (seen rs₀) → (i e : ℕ) → suc i ≡ e → (b : Bool) → (turn_of (seen rs)).held (pos e) ≡ b → (lines_in (seen rs₀)).turn.held (pos (suc i)) ≡ b
held_first rs₀ rs lines i e is b held = ap (λ k. (lines_in (seen rs₀)).turn.held (pos k)) is ∙ ap (λ l. l.turn.held (pos e)) (sym lines) ∙ held

pub plant_edge_past-known-requires : goal.plant_edge_past-known-requires
plant_edge_past-known-requires c =
    let bs = c.args._borders.now.items in
    let rs₀ = c.args.rows.now in
    let rs = c.loop-e.rows in
    let v = seen rs in
    let e = c.loop-e.e in
    let low = c.loop-e.auto.e in
    let high : e ≤ max_edge = c.loop-e-test.true in
    let e-is : suc (e - 1) ≡ e = omega arith in
    let past = c.loop-e.invariant.1 (e - 1) (sym e-is) in
    let held : (turn_of v).held (pos e) ≡ true = ap not (ne_eqb (v.entry (pos e)) 0 (λ z. c.if-slot-ne0.true (c.slot.ensures ∙ ap v.entry (plus_name e (small e high)) ∙ z))) in
    let first = held_first rs₀ rs past.1 (e - 1) e e-is true held in
    let l = lines_in (seen rs₀) in
    record {
      core = past.0;
      here = held;
      eastward = subst (λ k. strips_of v (pos k) ≤ strips_of v (neg_ℤ (pos k))) e-is (planting_eastward max_edge bs l c.requires.core.sound (e - 1) first (strips_of v) (slot_count slots v) (used slots v) past.3);
      room =
          subst (λ k. used slots v + 2 * (strips_of v (neg_ℤ (pos k)) - strips_of v (pos k)) ≤ slots) e-is
          (planting_room max_edge bs l c.requires.core.sound (e - 1) first (strips_of v) (slot_count slots v) (used slots v) past.3 slots (subst (λ k. k ≤ max_edge) (sym e-is) high) c.requires.room);
      packed = c.loop-e.invariant.0;
    }

-- one edge more has its external rows
grown : (bs : List ℤ) (rs₀ : List Halfedge) → Sound max_edge (lines_in (seen rs₀)) → (i : ℕ) (rs rs' : List Halfedge) → PlantedTo bs rs₀ i rs → (lines_in (seen rs₀)).turn.held (pos (suc i)) ≡ true → Core max_edge slots rs'
    → Planted slots (2 * (strips_of (seen rs) (neg_ℤ (pos (suc i))) - strips_of (seen rs) (pos (suc i)))) (externals (suc i) (strips_of (seen rs) (pos (suc i))) (strips_of (seen rs) (neg_ℤ (pos (suc i))))) (seen rs) (seen rs')
    → (Unlinked slots (seen rs) → Unlinked slots (seen rs')) → PlantedTo bs rs₀ (suc i) rs'
grown bs rs₀ sound i rs rs' past here core planted unlinked =
    let v = seen rs in
    let u = seen rs' in (
      core,
      planted.lines ∙ past.1,
      unlinked past.2,
      planting_more max_edge bs (lines_in (seen rs₀)) sound i here (strips_of v) (slot_count slots v) (used slots v) past.3 (strips_of u) (slot_count slots u) (used slots u) planted.strips planted.counted planted.used,
    )

-- the count of edges goes on
next : (bs : List ℤ) (rs₀ : List Halfedge) (j i e : ℕ) (rs rs' : List Halfedge) → suc j ≡ e → e + 1 ≡ suc i → rs' ≡ rs → PlantedTo bs rs₀ (suc j) rs → PlantedTo bs rs₀ i rs'
next bs rs₀ j i e rs rs' a b is past = let same : suc j ≡ i = omega arith in subst (PlantedTo bs rs₀ i) (sym is) (subst (λ k. PlantedTo bs rs₀ k rs) same past)

-- the slots that are known to be used go on
still_packed : (c : goal.Joined-slot-ne0) → Packed c.if-slot-ne0.known (seen c.if-slot-ne0.rows)
still_packed c = elim c.if-slot-ne0.branch [
  | then-slot-ne0 w ↦ subst₂ (λ k rs. Packed k (seen rs)) (sym w.known-is) (sym w.rows-is) w.plant_edge_past-known.ensures.packed
  | else-slot-ne0 w ↦ subst₂ (λ k rs. Packed k (seen rs)) (sym w.known-is) (sym w.rows-is) c.loop-e.invariant.0
]

pub loop-e-preserved : goal.loop-e-preserved
loop-e-preserved c = (
  still_packed c,
  λ i z.
      let bs = c.args._borders.now.items in
      let rs₀ = c.args.rows.now in
      let rs = c.loop-e.rows in
      let v = seen rs in
      let e = c.loop-e.e in
      let low = c.loop-e.auto.e in
      let high : e ≤ max_edge = c.loop-e-test.true in
      let e-is : suc (e - 1) ≡ e = omega arith in
      let past = c.loop-e.invariant.1 (e - 1) (sym e-is) in
      let slot_is : c.slot.result ≡ v.entry (pos e) = c.slot.ensures ∙ ap v.entry (plus_name e (small e high)) in
      let sound = c.requires.core.sound in
      elim c.if-slot-ne0.branch [
        | then-slot-ne0 w ↦
            let held : (turn_of v).held (pos e) ≡ true = ap not (ne_eqb (v.entry (pos e)) 0 (λ y. w.if-slot-ne0.true (slot_is ∙ y))) in
            let first = held_first rs₀ rs past.1 (e - 1) e e-is true held in
            let u = seen w.plant_edge_past-known.new.rows in
            let planted = subst (λ k. Planted slots (2 * (strips_of v (neg_ℤ (pos k)) - strips_of v (pos k))) (externals k (strips_of v (pos k)) (strips_of v (neg_ℤ (pos k)))) v u) (sym e-is) w.plant_edge_past-known.ensures.planted in
            next bs rs₀ (e - 1) i e w.plant_edge_past-known.new.rows c.if-slot-ne0.rows e-is z w.rows-is
            (grown bs rs₀ sound (e - 1) rs w.plant_edge_past-known.new.rows past first w.plant_edge_past-known.ensures.core planted w.plant_edge_past-known.ensures.unlinked)
        | else-slot-ne0 w ↦
            let held : (turn_of v).held (pos e) ≡ false = ap not (eq-eqb (v.entry (pos e)) 0 (sym slot_is ∙ w.if-slot-ne0.false)) in
            let first = held_first rs₀ rs past.1 (e - 1) e e-is false held in
            next bs rs₀ (e - 1) i e rs c.if-slot-ne0.rows e-is z w.rows-is
            (past.0, past.1, past.2, planting_skip max_edge bs (lines_in (seen rs₀)) sound (e - 1) first (strips_of v) (slot_count slots v) (used slots v) past.3)
      ],
)

pub returns : goal.returns
returns c =
    let bs = c.args._borders.now.items in
    let rs₀ = c.args.rows.now in
    let rs = c.loop-e.rows in
    let v = seen rs in
    let past = c.loop-e-test.false in
    let end : c.loop-e.e ≡ suc max_edge = omega arith in
    let all = c.loop-e.invariant.1 max_edge end in
    record {
      stripped = stripped_by bs rs all.0 all.2 (subst (λ l. Tally bs l (strips_of v) (slot_count slots v) (used slots v)) (sym all.1) (planting_all bs (lines_in (seen rs₀)) c.requires.core.sound (strips_of v) (slot_count slots v) (used slots v) all.3));
      lines = all.1;
    }
