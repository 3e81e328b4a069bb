use Rattle.std.proofs.Common.{◌≡◌, true, get_or, sym, ap, ◌∙◌, subst, arith, w16}
use Rattle.std.proofs.lemmas.Int.{to_z-of_z}
use Rattle.std.proofs.lemmas.Bool.{cond-true}
use Rattle.flat.specs.Orbits.{◌∈◌}
use Rattle.turning.specs.Limits.{max_edge}
use Rattle.chart.specs.Linework.{lines_of}
use Rattle.search.specs.Marks.{Within, place}
use Rattle.search.proofs.Marking.{place_below, held_within}
use Rattle.writing.specs.Written.{starts_in, names_in}
use Rattle.writing.proofs.CodeNames.{follower_in}
use Rattle.writing.proofs.arrays.follower_slot.Goals as goal

pub place_of-requires : goal.place_of-requires
place_of-requires g c =
    let t = g.C.Turning.turn c.args.chart.now in
    let law = g.C.Turning.lawful c.args.chart.now in
    let back = to_z-of_z w16 c.follower.result (record { sfits = c.follower.type_inv }) in
    let is : c.follower.result ≡ t.follower c.args.h = c.follower.ensures ∙ ap t.follower (to_z-of_z w16 c.args.h c.ranges.h) in
    subst (Within max_edge) (sym (back ∙ is)) (held_within max_edge t law (t.follower c.args.h) (law.ahead c.args.h c.requires.held))

pub bounds-slots-place_of : goal.bounds-slots-place_of
bounds-slots-place_of g c =
    let t = g.C.Turning.turn c.args.chart.now in
    let law = g.C.Turning.lawful c.args.chart.now in
    let back = to_z-of_z w16 c.follower.result (record { sfits = c.follower.type_inv }) in
    let is : c.follower.result ≡ t.follower c.args.h = c.follower.ensures ∙ ap t.follower (to_z-of_z w16 c.args.h c.ranges.h) in
    let at : c.place_of.result ≡ place max_edge (t.follower c.args.h) = c.place_of.ensures.value ∙ ap (place max_edge) (back ∙ is) in
    let in_range = place_below max_edge (t.follower c.args.h) (held_within max_edge t law (t.follower c.args.h) (law.ahead c.args.h c.requires.held)) in
    omega arith

pub returns : goal.returns
returns g c =
    let l = lines_of g.C.Turning.turn g.C.Chart.points c.args.chart.now in
    let bs = c.args.borders.now.items in
    let law = g.C.Turning.lawful c.args.chart.now in
    let h = c.args.h in
    let back = to_z-of_z w16 c.follower.result (record { sfits = c.follower.type_inv }) in
    let is : c.follower.result ≡ l.turn.follower h = c.follower.ensures ∙ ap l.turn.follower (to_z-of_z w16 h c.ranges.h) in
    let at : c.place_of.result ≡ place max_edge (l.turn.follower h) = c.place_of.ensures.value ∙ ap (place max_edge) (back ∙ is) in
    let here : starts_in bs l c.args.strip h ≡ true = sym (ap (starts_in bs l c.args.strip) (to_z-of_z w16 h c.ranges.h)) ∙ sym c.if-not-starts_in.ensures in
    let slot : l.turn.follower h ∈ names_in max_edge bs l c.args.strip = follower_in max_edge bs l law c.placed.ensures c.args.strip h c.requires.held here in
    ap (λ k. get_or c.args.slots.now k 0) at ∙ c.requires.slotted (l.turn.follower h) slot ∙ sym (cond-true (starts_in bs l c.args.strip h) _ _ here)
