use Rattle.std.proofs.Common.{◌≡◌, suc, ◌-◌, [], ◌∷◌, ◌++◌, append_assoc, length, take, drop, sym, ap, ap₂, ◌∙◌, arith, w32, SFits, to_z, of_z}
use Rattle.std.proofs.lemmas.Int.{to_z-of_z}
use Rattle.strips.specs.Borders.{strip_of}
use Rattle.strips.specs.Seams.{with_border}
use Rattle.strips.proofs.Cutting.{strip_low, strip_high}
use Rattle.strips.proofs.Bordering.{with_inserted}
use Rattle.strips.proofs.seams.put_in.Goals as goal

pub overflow_sub-strip_of : goal.overflow_sub-strip_of
overflow_sub-strip_of c = omega (arith, c.strip_of.ensures, strip_low c.args.borders.now.items (to_z w32 (of_z w32 c.args.x)))

pub split_at-requires : goal.split_at-requires
split_at-requires c = omega (arith, c.strip_of.ensures, ap length c.as_slice.ensures.value, strip_high c.args.borders.now.items (to_z w32 (of_z w32 c.args.x)))

pub returns : goal.returns
returns c =
    let bs = c.args.borders.now.items in
    let fx : SFits w32 c.args.x = c.ranges.x in
    let x = to_z w32 (of_z w32 c.args.x) in
    let i = c.strip_of.result - 1 in
    let place : suc i ≡ strip_of bs x = omega (arith, c.strip_of.ensures, strip_low bs x) in
    let west : c.append.new.list.items ≡ take i bs = c.append.ensures ∙ ap (λ l. l ++ c.split_at.result.0.now) c.new-more.ensures ∙ c.split_at.ensures.front ∙ ap (take i) c.as_slice.ensures.value in
    let more : c.push.new.self.items ≡ take i bs ++ (x ∷ []) = c.push.ensures.items ∙ ap (λ l. l ++ (x ∷ [])) west in
    let east : c.split_at.result.1.now ≡ drop i bs = c.split_at.ensures.back ∙ ap (drop i) c.as_slice.ensures.value in
    c.of_list.ensures ∙ c.as_slice-2.ensures.value ∙ c.append-2.ensures ∙ ap₂ (λ l r. l ++ r) more east ∙ append_assoc (take i bs) (x ∷ []) (drop i bs)
    ∙ sym (with_inserted x bs i place) ∙ ap (λ z. with_border z bs) (to_z-of_z w32 c.args.x fx)
