use Rattle.std.proofs.Common.{int_eq, ap, ◌∙◌, to_z, of_z, w32, SFits}
use Rattle.std.proofs.lemmas.Int.{to_z-of_z}
use Rattle.std.specs.List.{list_any}
use Rattle.strips.specs.Seams.{is_border}
use Rattle.strips.proofs.Bordering.{border_found, same_test}
use Rattle.strips.proofs.seams.has_border.Goals as goal

pub returns : goal.returns
returns c =
    let fx : SFits w32 c.args.x = c.ranges.x in
    let x = to_z w32 (of_z w32 c.args.x) in
    c.contains.ensures.value ∙ ap (list_any (λ b. int_eq b x)) c.as_slice.ensures.value ∙ border_found x (λ b. int_eq b x) c.args.borders.now.items (λ b. same_test x b)
    ∙ ap (λ z. is_border z c.args.borders.now.items) (to_z-of_z w32 c.args.x fx)
