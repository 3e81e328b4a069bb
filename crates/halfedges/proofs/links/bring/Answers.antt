use Rattle.std.proofs.Common.{◌≡◌, sym, ap, ◌∙◌, subst, w16}
use Rattle.std.proofs.lemmas.Int.{to_z-of_z}
use Rattle.turning.specs.Limits.{max_edge, slots}
use Rattle.halfedges.specs.View.{seen}
use Rattle.halfedges.specs.Rows.{turn_of, points_of, strips_of, Unlinked, Indexed, hooked, used, slot_count}
use Rattle.halfedges.proofs.Comes.{hooked_turn, hooked_points, hooked_strips, hooked_indexed, hooked_used, hooked_counted, hooked_unlinked}
use Rattle.halfedges.proofs.links.bring.Goals as goal

pub returns : goal.returns
returns c =
    let v = seen c.args.rows.now in
    let v' = seen c.hook.new.rows in
    let s = c.free_slot-s.result in
    let a = c.args in
    let r = c.requires in
    let f = c.free_slot-s.ensures in
    let e : v' ≡ hooked s a.strip a.k a.corner a.at v = c.hook.ensures ∙ ap (λ z. hooked s a.strip z a.corner a.at v) (to_z-of_z w16 a.k c.ranges.k) in
    record {
      turn = ap turn_of e ∙ hooked_turn slots v r.indexed max_edge r.rotation s a.strip f.low f.high f.free a.k r.fresh a.at a.corner r.corner;
      points = ap points_of e ∙ hooked_points slots v r.indexed max_edge r.rotation s a.strip f.low f.high f.free a.k r.fresh a.at a.corner r.corner;
      strips = ap strips_of e ∙ hooked_strips slots v r.indexed max_edge r.rotation s a.strip f.low f.high f.free a.k r.fresh a.at a.corner r.corner;
      indexed = subst (Indexed slots) (sym e) (hooked_indexed slots v r.indexed max_edge r.rotation s a.strip f.low f.high f.free a.k r.fresh a.at a.corner r.corner);
      used = ap (used slots) e ∙ hooked_used slots v r.indexed max_edge r.rotation s a.strip f.low f.high f.free a.k r.fresh a.at a.corner r.corner;
      counted = λ i h some. ap (λ u. slot_count slots u i h) e ∙ hooked_counted slots v r.indexed max_edge r.rotation s a.strip f.low f.high f.free a.k r.fresh a.at a.corner r.corner i h some;
      unlinked = λ o. subst (Unlinked slots) (sym e) (hooked_unlinked slots v r.indexed max_edge r.rotation s a.strip f.low f.high f.free a.k r.fresh a.at a.corner r.corner o);
    }
