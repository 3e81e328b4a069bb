use Rattle.std.proofs.Common.{◌≡◌, ℕ, ◌≤◌, ◌^◌, Bool, true, false, cond, length, take, ap, ◌∙◌, sym, length-take-le, arith, rules, tests}
use Rattle.std.proofs.lemmas.Iterator.{YieldsList-from_slice, YieldsList-from_map}
use Rattle.std.proofs.lemmas.Iterator.Adapters.{fits_from_length, at_most_from_yields_List}
use Rattle.std.proofs.lemmas.Iterator.Consumers.{sum_from_yields_List}
use Rattle.std.proofs.lemmas.List.Sums.{length-filter, sum-map}
use Rattle.halfedges.specs.declared.halfedge.Halfedge.{Halfedge}
use Rattle.halfedges.proofs.Scans.{has_name, used_filtered}
use Rattle.turning.specs.Limits.{slots}
use Rattle.halfedges.proofs.slots.count_used.Goals as goal

-- a record counts for one where it has a name
abbrev one : Halfedge → ℕ
one r = cond (has_name r) 1 0

one_low : (r : Halfedge) → one r ≤ 1
one_low r = low (has_name r)
  where
    low : (b : Bool) → cond b 1 0 ≤ 1
    low true = omega arith
    low false = omega arith

pub sum-requires-clause-fits : goal.sum-requires-clause-fits
sum-requires-clause-fits c =
    let rs = take slots c.args.rows.now in
    let few : length rs ≤ slots = omega (arith, length-take-le slots c.args.rows.now c.requires) in
    fits_from_length _ _ slots (2 ^ 64) (at_most_from_yields_List (YieldsList-from_slice rs (ap (λ i. i.rest.now) c.map.ensures.source ∙ c.iter.ensures.rest)) few) c.map.ensures.closure (omega arith) (λ x r q k. (search rules, let e : r ≡ one x.now = search (rules, tests) in omega (arith, e, one_low x.now)))

pub returns : goal.returns
returns c =
    let rs = take slots c.args.rows.now in
    sum_from_yields_List c.map.result c.sum.result c.sum.ensures.ran
    (YieldsList-from_map _ one (YieldsList-from_slice rs (ap (λ i. i.rest.now) c.map.ensures.source ∙ c.iter.ensures.rest)) c.map.ensures.closure (λ x r q k. search (rules, tests)))
    ∙ sum-map one rs ∙ sym (length-filter has_name rs) ∙ sym (used_filtered c.args.rows.now slots c.requires)
