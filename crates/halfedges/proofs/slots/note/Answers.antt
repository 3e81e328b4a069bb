use Rattle.std.proofs.Common.{◌≡◌, ◌/◌, length, get_or, pos, ◌+ℤ◌, nat_abs, ap, ◌∙◌, subst, arith, w16, SFits, to_z, of_z}
use Rattle.std.proofs.lemmas.Int.{ints, to_z-of_z}
use Rattle.turning.specs.Limits.{max_edge, slots}
use Rattle.halfedges.specs.View.{none, seen, key}
use Rattle.halfedges.proofs.Views.{key_nat_abs, note_at, note_view}
use Rattle.halfedges.proofs.slots.note.Goals as goal

pub returns : goal.returns
returns c =
    let h = c.args.h in
    let v = c.args.s in
    let rs = c.args.rows.now in
    let a = c.requires.low in
    let b = c.requires.high in
    let f : SFits w16 (to_z w16 (of_z w16 h) +ℤ pos max_edge) = omega (arith, ints) in
    let k : nat_abs (to_z w16 (of_z w16 (to_z w16 (of_z w16 h) +ℤ pos max_edge))) ≡ key max_edge h =
    ap nat_abs (to_z-of_z w16 _ f ∙ ap (λ z. z +ℤ pos max_edge) (to_z-of_z w16 h c.ranges.h)) ∙ key_nat_abs max_edge h a b in
    let wide : length (get_or rs (key max_edge h / 3) none).index ≡ 3 = subst (λ x. length (get_or rs (x / 3) none).index ≡ 3) k c.set_entry.ensures.three in
    rw c.set_entry.ensures.set (ap (λ x. seen (note_at rs x v)) k ∙ note_view max_edge slots rs c.requires.long (omega arith) h v a b wide)
