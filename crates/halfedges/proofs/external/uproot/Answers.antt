use Rattle.std.proofs.Common.{◌≡◌, true, sym, refl, ap, ◌∙◌, subst, arith, w16}
use Rattle.std.proofs.lemmas.Int.{to_z-of_z}
use Rattle.flat.specs.Orbits.{indicator}
use Rattle.turning.specs.Limits.{max_edge, slots}
use Rattle.halfedges.specs.View.{none, seen, written}
use Rattle.halfedges.specs.Rows.{Unlinked, Indexed, same_place, row_in, Planted}
use Rattle.halfedges.proofs.Beside.{away_off, row_in_parts, beside_indexed, beside_unlinked, beside_freed, core_same}
use Rattle.halfedges.proofs.external.uproot.Goals as goal

pub returns : goal.returns
returns c =
    let rs = c.args.rows.now in
    let rs' = c.write.new.rows in
    let v = seen rs in
    let k = c.args.k in
    let strip = c.args.strip in
    let s = c.find_slot-s.result in
    let f = c.find_slot-s.ensures in
    let core = c.requires.core in
    let found : row_in v strip k s ≡ true = ap (λ z. row_in v strip z s) (sym (to_z-of_z w16 k c.ranges.k)) ∙ f.found in
    let at = row_in_parts v strip k s found in
    let off = away_off slots v core.indexed s f.low strip k found c.requires.away in
    let e : seen rs' ≡ written s none v = c.write.ensures in
    let planted : Planted slots 1 (λ i h. indicator (same_place strip k i h)) (seen rs') v =
    subst (λ u. Planted slots 1 (λ i h. indicator (same_place strip k i h)) u v) (sym e) (beside_freed slots v core.indexed s f.low f.high off none refl refl strip k at.0 at.1 c.requires.some refl) in
    record {
      core = core_same max_edge slots rs rs' core (omega arith) (subst (Indexed slots) (sym e) (beside_indexed slots v core.indexed s f.low f.high off none refl refl)) (sym planted.lines);
      planted = planted;
      unlinked = λ o. subst (Unlinked slots) (sym e) (beside_unlinked slots v core.indexed s f.low f.high off none refl refl o);
    }
