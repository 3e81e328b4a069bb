use Rattle.std.proofs.Common.{◌<◌, length, ap, ◌∙◌, subst, add-one, arith, rules, tests}
use Rattle.std.specs.List.{AllWithin, HoldsAt}
use Rattle.std.specs.Option.{MatchOption}
use Rattle.std.proofs.lemmas.Iterator.{IsFirst-from_position, YieldsList-from_slice}
use Rattle.halfedges.specs.View.{seen}
use Rattle.halfedges.specs.Rows.{row_in}
use Rattle.halfedges.proofs.Scans.{Sought, Other, searched, slot_found, found_low, found_here}
use Rattle.halfedges.proofs.external.find_slot.Goals as goal

pub unwrap-requires : goal.unwrap-requires
unwrap-requires c =
    slot_found c.args.rows.now c.requires.long c.args.strip c.args.k c.requires.there c.position-first.result
    (IsFirst-from_position _ _ c.position-first.result (Sought c.args.strip c.args.k) (Other c.args.strip c.args.k) c.position-first.ensures.ran (YieldsList-from_slice _ c.iter.ensures.rest)
    (λ x q r. search (rules, tests)) (λ x q r. search (rules, tests)))

pub returns : goal.returns
returns c =
    let rs = c.args.rows.now in
    let i = c.unwrap.result in
    let strip = c.args.strip in
    let k = c.args.k in
    let xs = searched rs c.requires.long strip k c.requires.there in
    let first = subst (λ r. MatchOption r (AllWithin (Other strip k) xs 0 (length xs)) (λ j. (j < length xs) × HoldsAt (Sought strip k) xs j × AllWithin (Other strip k) xs 0 j)) c.unwrap.ensures
    (IsFirst-from_position _ _ c.position-first.result (Sought strip k) (Other strip k) c.position-first.ensures.ran (YieldsList-from_slice _ c.iter.ensures.rest)
    (λ x q r. search (rules, tests)) (λ x q r. search (rules, tests))) in
    let high = found_low rs c.requires.long strip k c.requires.there i first.0 in
    let here = found_here rs c.requires.long strip k c.requires.there i first.0 first.1 in
    record {
      low = omega arith;
      high = omega arith;
      found = ap (row_in (seen rs) strip k) (add-one i) ∙ here;
    }
