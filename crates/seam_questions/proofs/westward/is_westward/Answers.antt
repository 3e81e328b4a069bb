use Rattle.std.proofs.Common.{◌≡◌, ℕ, ◌<◌, true, Some, sym, ap, ◌∙◌, subst, w16, SFits, rules}
use Rattle.std.proofs.lemmas.Int.{to_z-of_z}
use Rattle.turning.specs.Limits.{max_edge}
use Rattle.file.specs.Questions.{named, positive}
use Rattle.file.specs.Views.{told}
use Rattle.seam_questions.specs.Vertices.{line_at, vertex_at}
use Rattle.strip_questions.proofs.Marks.{named_neg, neg_is}
use Rattle.seam_questions.proofs.Numbering.{below_one, from_one, west_by_line, west_else, vertex_told, against_told}
use Rattle.seam_questions.proofs.westward.is_westward.Goals as goal

pub returns-then-name-lt1 : goal.returns-then-name-lt1
returns-then-name-lt1 c =
    let f : SFits w16 c.name.result = search rules in
    west_else (told c.args.s) c.requires.sound c.args.i c.requires.slot (below_one _ _ (to_z-of_z w16 c.name.result f ∙ c.name.ensures) c.if-name-lt1.true)

pub line_of-requires : goal.line_of-requires
line_of-requires c =
    let z = (told c.args.s).name c.args.i in
    let g = c.requires.sound.named c.args.i c.requires.slot in
    subst (λ y. named max_edge y ≡ true) (sym (neg_is c.name-2.result z c.name-2.ensures g)) (named_neg z g)

pub is_west-requires : goal.is_west-requires
is_west-requires c =
    let s = told c.args.s in
    let first : c.vertex_at-p.result ≡ _ = c.vertex_at-p.ensures ∙ ap (vertex_at c.args.line.now) c.line_in.ensures.value in
    let second : c.vertex_at-q.result ≡ _ = c.vertex_at-q.ensures ∙ ap (vertex_at c.args.line.now) (c.line_of.ensures.value ∙ ap (line_at max_edge) (neg_is c.name-2.result (s.name c.args.i) c.name-2.ensures (c.requires.sound.named c.args.i c.requires.slot))) in
    let far : (v : ℕ) → c.vertex_at-q.result ≡ Some v → v < c.args.s.vertices = λ v e.
    let r = against_told s c.requires.sound c.args.i c.requires.slot c.args.line.now c.requires.numbered v (sym e ∙ second) in
    vertex_told s c.requires.sound r.0 r.1 c.args.line.now c.requires.numbered v r.2 in
    record { first = λ v e. vertex_told s c.requires.sound c.args.i c.requires.slot c.args.line.now c.requires.numbered v (sym e ∙ first); second = far }

pub returns : goal.returns
returns c =
    let s = told c.args.s in
    let first : c.vertex_at-p.result ≡ _ = c.vertex_at-p.ensures ∙ ap (vertex_at c.args.line.now) c.line_in.ensures.value in
    let second : c.vertex_at-q.result ≡ _ = c.vertex_at-q.ensures ∙ ap (vertex_at c.args.line.now) (c.line_of.ensures.value ∙ ap (line_at max_edge) (neg_is c.name-2.result (s.name c.args.i) c.name-2.ensures (c.requires.sound.named c.args.i c.requires.slot))) in
    let f : SFits w16 c.name.result = search rules in
    let up : positive (s.name c.args.i) ≡ true = from_one _ _ (to_z-of_z w16 c.name.result f ∙ c.name.ensures) c.if-name-lt1.false in
    c.is_west.ensures ∙ west_by_line s c.requires.sound c.args.i c.requires.slot c.args.line.now c.requires.numbered up _ _ first second
