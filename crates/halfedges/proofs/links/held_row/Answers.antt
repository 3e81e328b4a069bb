use Rattle.std.proofs.Common.{ap, ◌∙◌, arith, w16}
use Rattle.std.proofs.lemmas.Int.{to_z-of_z}
use Rattle.halfedges.specs.View.{seen}
use Rattle.halfedges.proofs.Meaning.{held_inside}
use Rattle.halfedges.proofs.links.held_row.Goals as goal

pub slice_element_follow-rows : goal.slice_element_follow-rows
slice_element_follow-rows c =
    let rs = c.args.rows.now in
    let h = c.args.h in
    let at = c.slot-s.ensures ∙ ap (seen rs).entry (to_z-of_z w16 h c.ranges.h) in
    let l = held_inside rs c.requires.indexed h c.requires.here in
    omega arith
