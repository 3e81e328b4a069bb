use Rattle.std.proofs.Common.{◌≡◌, ◌+◌, ◌-◌, ◌<◌, length, sym, ap, ◌∙◌, subst, add-one, arith, rules, tests}
use Rattle.std.specs.List.{AllWithin, HoldsAt}
use Rattle.std.specs.Option.{MatchOption}
use Rattle.std.proofs.lemmas.Iterator.{IsFirst-from_position, YieldsList-from_slice}
use Rattle.halfedges.specs.View.{seen}
use Rattle.halfedges.specs.Rows.{Packed}
use Rattle.halfedges.proofs.Scans.{Unnamed, Named, known_within, rest, length_rest, passed, free_found, first_low, first_free}
use Rattle.halfedges.proofs.slots.free_slot_past.Goals as goal

pub offset_bounds-rows-known : goal.offset_bounds-rows-known
offset_bounds-rows-known c =
    let w = known_within c.args.rows.now c.requires.long c.args.known c.requires.room c.requires.packed in
    search rules

pub slice_bounds-iter-count : goal.slice_bounds-iter-count
slice_bounds-iter-count c = known_within c.args.rows.now c.requires.long c.args.known c.requires.room c.requires.packed

pub slice_bounds-iter-start : goal.slice_bounds-iter-start
slice_bounds-iter-start c =
    let w = known_within c.args.rows.now c.requires.long c.args.known c.requires.room c.requires.packed in
    search rules

pub unwrap-requires : goal.unwrap-requires
unwrap-requires c =
    free_found c.args.rows.now c.requires.long c.args.known c.requires.room c.requires.packed c.position-first.result
    (IsFirst-from_position _ _ c.position-first.result Unnamed Named c.position-first.ensures.ran (YieldsList-from_slice _ c.iter.ensures.rest)
    (λ x q k. search (rules, tests)) (λ x q k. search (rules, tests)))

pub returns : goal.returns
returns c =
    let rs = c.args.rows.now in
    let known = c.args.known in
    let i = c.unwrap.result in
    let xs = rest rs c.requires.long known c.requires.room c.requires.packed in
    let first = subst (λ r. MatchOption r (AllWithin Named xs 0 (length xs)) (λ j. (j < length xs) × HoldsAt Unnamed xs j × AllWithin Named xs 0 j)) c.unwrap.ensures
    (IsFirst-from_position _ _ c.position-first.result Unnamed Named c.position-first.ensures.ran (YieldsList-from_slice _ c.iter.ensures.rest)
    (λ x q k. search (rules, tests)) (λ x q k. search (rules, tests))) in
    let high = first_low rs c.requires.long known c.requires.room c.requires.packed i first.0 in
    let free = first_free rs c.requires.long known c.requires.room c.requires.packed i first.0 first.1 in
    let last : known + i + 1 - 1 ≡ known + i = omega arith in
    record {
      low = omega arith;
      high = omega arith;
      free = ap (λ s. ((seen rs).row s).name) (add-one (known + i)) ∙ free;
      packed = subst (λ k. Packed k (seen rs)) (sym last) (passed rs c.requires.long known c.requires.room c.requires.packed i (omega (arith, length_rest rs c.requires.long known c.requires.room c.requires.packed, first.0)) first.2);
    }
