use Rattle.std.proofs.Common.{◌≡◌, [], pos, sym, refl, ap, ◌∙◌, subst, arith, w16}
use Rattle.std.proofs.lemmas.Int.{to_z-of_z}
use Rattle.flat.specs.Orbits.{indicator}
use Rattle.turning.specs.Limits.{max_edge, slots}
use Rattle.halfedges.specs.declared.halfedge.Halfedge.{Halfedge}
use Rattle.halfedges.specs.View.{seen, written}
use Rattle.halfedges.specs.Rows.{Packed, Unlinked, Indexed, same_place, Planted}
use Rattle.halfedges.proofs.Beside.{free_off, beside_indexed, beside_unlinked, beside_planted, core_same}
use Rattle.halfedges.proofs.Counted.{packed_more}
use Rattle.halfedges.proofs.external.plant_past.Goals as goal

pub returns : goal.returns
returns c =
    let rs = c.args.rows.now in
    let rs' = c.write.new.rows in
    let v = seen rs in
    let k = c.args.k in
    let s = c.free_slot_past-s.result in
    let f = c.free_slot_past-s.ensures in
    let core = c.requires.core in
    let off = free_off slots v core.indexed core.sound.0.no_zero s f.low f.free in
    let r : Halfedge = record { strip = c.args.strip; name = k; follower = pos 0; predecessor = pos 0; x = pos 0; y = pos 0; index = [] } in
    let e : seen rs' ≡ written s r v = c.write.ensures ∙ ap (λ z. written s (record { strip = c.args.strip; name = z; follower = pos 0; predecessor = pos 0; x = pos 0; y = pos 0; index = [] }) v) (to_z-of_z w16 k c.ranges.k) in
    let planted : Planted slots 1 (λ i h. indicator (same_place c.args.strip k i h)) v (seen rs') =
    subst (Planted slots 1 (λ i h. indicator (same_place c.args.strip k i h)) v) (sym e) (beside_planted slots v core.indexed s f.low f.high off r refl refl f.free c.requires.some) in
    record {
      core = core_same max_edge slots rs rs' core (omega arith) (subst (Indexed slots) (sym e) (beside_indexed slots v core.indexed s f.low f.high off r refl refl)) planted.lines;
      planted = planted;
      unlinked = λ o. subst (Unlinked slots) (sym e) (beside_unlinked slots v core.indexed s f.low f.high off r refl refl o);
      packed = subst (Packed s) (sym e) (packed_more s r v f.packed c.requires.some);
    }
