use Rattle.std.proofs.Common.{◌≡◌, ◌+◌, length, get_or, set, pos, sym, ap, ◌∙◌, subst, arith, w16, SFits, rules}
use Rattle.std.proofs.lemmas.Int.{to_z-of_z}
use Rattle.turning.specs.Limits.{max_edge, marks_for}
use Rattle.search.specs.Marks.{Within, place}
use Rattle.search.proofs.Marking.{place_below}
use Rattle.writing.proofs.CodeSlots.{NotedTo, noted_more, noted_all, element_in}
use Rattle.writing.proofs.arrays.note_slots.Goals as goal

pub place_of-requires : goal.place_of-requires
place_of-requires c =
    let z = get_or c.args.names.now c.loop-k.k (pos 0) in
    let f : SFits w16 z = search rules in
    subst (Within max_edge) (sym (to_z-of_z w16 z f)) (c.requires.within z (element_in c.args.names.now c.loop-k.k (pos 0) c.loop-k-test.true))

pub bounds-slots-place_of : goal.bounds-slots-place_of
bounds-slots-place_of c =
    let z = get_or c.args.names.now c.loop-k.k (pos 0) in
    let f : SFits w16 z = search rules in
    let in_range = place_below max_edge z (c.requires.within z (element_in c.args.names.now c.loop-k.k (pos 0) c.loop-k-test.true)) in
    let is : c.place_of.result ≡ place max_edge z = c.place_of.ensures.value ∙ ap (place max_edge) (to_z-of_z w16 z f) in
    omega arith

pub loop-k-preserved : goal.loop-k-preserved
loop-k-preserved c =
    let k = c.loop-k.k in
    let names = c.args.names.now in
    let slots = c.loop-k.slots in
    let z = get_or names k (pos 0) in
    let f : SFits w16 z = search rules in
    let long : length slots ≡ marks_for max_edge = omega arith in
    let is : place max_edge z ≡ c.place_of.result = sym (c.place_of.ensures.value ∙ ap (place max_edge) (to_z-of_z w16 z f)) in
    subst (λ p. NotedTo max_edge (k + 1) names (set slots p k)) is (noted_more max_edge k names slots c.requires.within c.requires.apart long c.loop-k-test.true c.loop-k.invariant)

pub returns : goal.returns
returns c = noted_all max_edge c.loop-k.k c.args.names.now c.loop-k.slots (omega (arith, c.loop-k-test.false)) c.loop-k.invariant
