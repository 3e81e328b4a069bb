use Rattle.std.proofs.Common.{◌≡◌, ◌<◌, true, sym, ap, ◌∙◌, subst, w16, SFits, rules, arith}
use Rattle.std.proofs.lemmas.Int.{to_z-of_z}
use Rattle.turning.specs.Limits.{max_edge}
use Rattle.search.specs.Marks.{place as mark_at}
use Rattle.file.specs.Strips.{home}
use Rattle.file.specs.Views.{told}
use Rattle.seam_questions.specs.Vertices.{vertex_at}
use Rattle.seam_questions.proofs.Numbering.{vertex_told}
use Rattle.reading.proofs.Filling.{entry_same, slot_put, vertex_is}
use Rattle.reading.proofs.entering.enter_slot.Goals as goal

pub point-point-requires : goal.point-point-requires
point-point-requires c =
    vertex_told (told c.args.s) c.requires.sound c.args.i c.requires.slot c.args.line.now c.requires.line c.in-Some.vertex (c.in-Some.ensures ∙ ap (vertex_at c.args.line.now) c.line_in.ensures.value)

pub place_in-place-requires : goal.place_in-place-requires
place_in-place-requires c =
    let s = told c.args.s in
    let u : home s c.args.i ≡ true = sym c.is_home.ensures ∙ c.if-not-is_home.false in
    let l : c.follower-after.result < c.args.s.slots = subst (λ k. k < c.args.s.slots) (sym c.follower-after.ensures) (c.requires.sound.turned.ahead c.args.i c.requires.slot u) in
    record { slot = l; named = c.requires.sound.named c.follower-after.result l }

pub returns : goal.returns
returns c =
    let s = told c.args.s in
    let i = c.args.i in
    let u : home s i ≡ true = sym c.is_home.ensures ∙ c.if-not-is_home.false in
    let after = c.follower-after.ensures in
    let l : s.follower i < s.slots = c.requires.sound.turned.ahead i c.requires.slot u in
    let v = vertex_is s c.args.line.now i c.in-Some.vertex c.requires.slot u c.requires.line (c.in-Some.ensures ∙ ap (vertex_at c.args.line.now) c.line_in.ensures.value) in
    let f : SFits w16 c.name-follower.result = search rules in
    let p : SFits w16 c.name-predecessor.result = search rules in
    slot_put s i c.place_in-place.result _ c.args.entries.now (omega arith) (c.requires.sound.named (s.follower i) l) u
    (c.place_in-place.ensures.value ∙ ap (λ k. mark_at max_edge (s.name k)) after)
    (entry_same _ _ _ _ _ _
    (to_z-of_z w16 c.name-follower.result f ∙ c.name-follower.ensures ∙ ap s.name (c.follower.ensures ∙ ap s.follower after))
    (to_z-of_z w16 c.name-predecessor.result p ∙ c.name-predecessor.ensures)
    (c.point-point.ensures ∙ ap s.point v))
