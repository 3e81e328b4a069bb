use Rattle.std.proofs.Common.{◌≡◌, ◌≤◌, ◌++◌, List, length, take, drop, replicate, ℤ, pos, sym, refl, ap, ◌∙◌, subst}
use Rattle.std.proofs.lemmas.List.{take_at, drop-replicate}
use Rattle.strips.specs.Places.{Padded, padded}
use Rattle.strips.proofs.borders.of_list.Goals as goal

-- a list laid over the first of 31 zeros
laid : (bs : List ℤ) → length bs ≤ 31 → Padded (length bs) (bs ++ drop (length bs) (replicate 31 (pos 0)))
laid bs few =
    let first : take (length bs) (bs ++ drop (length bs) (replicate 31 (pos 0))) ≡ bs = take_at bs _ (length bs) refl in
    (few, ap length first, ap (λ z. bs ++ z) (drop-replicate (length bs) 31 (pos 0)) ∙ sym (ap padded first))

pub invariant_of-result : goal.invariant_of-result
invariant_of-result c =
    let bs = c.args.list.now in
    subst (λ new. Padded (length bs) (new ++ drop (length bs) (replicate 31 (pos 0)))) (sym c.copy_from_slice.ensures.after) (laid bs c.requires)
