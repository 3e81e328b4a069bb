use Rattle.std.proofs.Common.{◌≡◌, ◌/◌, ◌%◌, false, get_or, pos, ◌+ℤ◌, neg_ℤ, nat_abs, ◌≤ℤ◌, sym, ap, ◌∙◌, arith, w16, SFits, to_z, of_z}
use Rattle.std.proofs.lemmas.Int.{ints, to_z-of_z}
use Rattle.turning.specs.Limits.{max_edge, slots}
use Rattle.halfedges.specs.View.{none, entry_at, key, is_name}
use Rattle.halfedges.proofs.Views.{entry_in, entry_out, entry_short, name_is, key_nat_abs}
use Rattle.halfedges.proofs.slots.slot.Goals as goal
use Rattle.halfedges.proofs.slots.slot.Goals.{then-rows-lt-SLOTS-via-then-rows-lt-SLOTS, then-rows-lt-SLOTS-via-else-rows-lt-SLOTS+then-h, then-rows-lt-SLOTS-via-else-rows-lt-SLOTS+else-h+then-h-gt-MAX_NAME}

pub returns-then-rows-lt-SLOTS : goal.returns-then-rows-lt-SLOTS
returns-then-rows-lt-SLOTS c =
    let rs = c.args.rows.now in
    let h = c.args.h in
    let b = to_z-of_z w16 h c.ranges.h in
    elim c.then-rows-lt-SLOTS.branch [
      | then-rows-lt-SLOTS-via-then-rows-lt-SLOTS w ↦ sym (entry_short max_edge slots rs h w.if-rows-lt-SLOTS.true)
      | then-rows-lt-SLOTS-via-else-rows-lt-SLOTS+then-h w ↦
          let out : is_name max_edge h ≡ false = grind (arith, ints, w.if-h.true) in
          sym (entry_out max_edge slots rs h out)
      | then-rows-lt-SLOTS-via-else-rows-lt-SLOTS+else-h+then-h-gt-MAX_NAME w ↦
          let out : is_name max_edge h ≡ false = grind (arith, ints, w.if-h-gt-MAX_NAME.true) in
          sym (entry_out max_edge slots rs h out)
    ]

pub returns : goal.returns
unfolding entry_at
returns c =
    let h = c.args.h in
    let rs = c.args.rows.now in
    let a : neg_ℤ (pos max_edge) ≤ℤ h = omega (arith, ints, c.if-h.false) in
    let b : h ≤ℤ pos max_edge = omega (arith, ints, c.if-h-gt-MAX_NAME.false) in
    let f : SFits w16 (to_z w16 (of_z w16 h) +ℤ pos max_edge) = omega (arith, ints) in
    let k : nat_abs (to_z w16 (of_z w16 (to_z w16 (of_z w16 h) +ℤ pos max_edge))) ≡ key max_edge h =
    ap nat_abs (to_z-of_z w16 _ f ∙ ap (λ z. z +ℤ pos max_edge) (to_z-of_z w16 h c.ranges.h)) ∙ key_nat_abs max_edge h a b in
    ap (λ x. get_or (get_or rs (x / 3) none).index (x % 3) 0) k ∙ sym (entry_in max_edge slots rs c.if-rows-lt-SLOTS.false h (name_is max_edge h a b))
