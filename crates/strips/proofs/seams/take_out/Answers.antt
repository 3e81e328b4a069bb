use Rattle.std.proofs.Common.{◌++◌, int_eq, not, ap, ◌∙◌, to_z, of_z, w32, SFits, rules, tests}
use Rattle.std.proofs.lemmas.Int.{to_z-of_z}
use Rattle.arrayvec.proofs.ArrayVecLemmas.{filter-from_retain}
use Rattle.strips.specs.Seams.{without_border}
use Rattle.strips.proofs.Bordering.{without_filtered, same_test}
use Rattle.strips.proofs.seams.take_out.Goals as goal

pub returns : goal.returns
returns c =
    let fx : SFits w32 c.args.x = c.ranges.x in
    let x = to_z w32 (of_z w32 c.args.x) in
    c.of_list.ensures ∙ c.as_slice-2.ensures.value
    ∙ filter-from_retain _ (λ b. not (int_eq b x)) _ (λ b r f y k. search (rules, tests)) _ _ c.retain.ensures.filtered
    ∙ without_filtered x (λ b. not (int_eq b x)) c.append.new.list.items (λ b. ap not (same_test x b))
    ∙ ap (without_border x) (c.append.ensures ∙ ap (λ l. l ++ c.as_slice.result.now) c.new-fewer.ensures ∙ c.as_slice.ensures.value)
    ∙ ap (λ z. without_border z c.args.borders.now.items) (to_z-of_z w32 c.args.x fx)
