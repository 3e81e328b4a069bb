use Rattle.std.proofs.Common.{◌≡◌, suc, sym, ap, ◌∙◌, add-one, tests, w32, SFits, to_z, of_z, rules}
use lib.Signed.{le_z}
use Rattle.std.proofs.lemmas.Int.{to_z-of_z}
use Rattle.std.proofs.lemmas.Iterator.{YieldsList-from_slice}
use Rattle.std.proofs.lemmas.Iterator.Search.{YieldsList-from_take_while}
use Rattle.std.proofs.lemmas.Iterator.Consumers.{count_from_yields_List}
use Rattle.std.proofs.lemmas.List.Folds.{length-prefix_len}
use Rattle.strips.specs.Borders.{strip_of}
use Rattle.strips.proofs.Bordering.{strip_passed}
use Rattle.strips.proofs.borders.strip_of.Goals as goal

pub returns : goal.returns
returns c =
    let bs = c.args.borders.now.items in
    let x = c.args.x in
    let fx : SFits w32 x = c.ranges.x in
    let bits : to_z w32 (of_z w32 x) ≡ x = to_z-of_z w32 x fx in
    let count = count_from_yields_List c.take_while.result c.count.result c.count.ensures.ran
    (YieldsList-from_take_while _ (λ b. le_z b (to_z w32 (of_z w32 x))) (YieldsList-from_slice bs (cc)) c.take_while.ensures.closure c.take_while.ensures.done (λ b r q k. search (rules, tests)))
    ∙ length-prefix_len (λ b. le_z b (to_z w32 (of_z w32 x))) bs in
    add-one c.count.result ∙ ap suc count ∙ sym (strip_passed bs (to_z w32 (of_z w32 x))) ∙ ap (strip_of bs) bits
