use Rattle.std.proofs.Common.{◌^◌, ◌∙◌, refl, arith, rules, tests}
use Rattle.std.proofs.lemmas.Iterator.{YieldsList-from_range, YieldsList-from_map}
use Rattle.std.proofs.lemmas.Iterator.Adapters.{fits_from_length, at_most_from_yields_List}
use Rattle.std.proofs.lemmas.Iterator.Consumers.{sum_from_yields_List}
use Rattle.std.proofs.lemmas.List.FromFn.{length-range_with_len}
use Rattle.turning.specs.Limits.{max_edge}
use Rattle.chart.specs.Linework.{lines_of}
use Rattle.strips.specs.Borders.{slots_of}
use Rattle.strips.proofs.Planting.{taken_summed}
use Rattle.strips.proofs.taken.slots_needed.Goals as goal

pub sum-requires-clause-fits : goal.sum-requires-clause-fits
sum-requires-clause-fits g c =
    fits_from_length _ _ max_edge (2 ^ 32) (at_most_from_yields_List (YieldsList-from_range 1 4096 max_edge (cc) refl) (omega (arith, length-range_with_len 1 max_edge))) c.map.ensures.closure (omega arith) (λ e r q k. (search rules, omega arith))

pub returns : goal.returns
returns g c =
    let slots_each = slots_of c.args.borders.now.items (lines_of g.C.Turning.turn g.C.Chart.points c.args.chart.now) in
    sum_from_yields_List c.map.result c.sum.result c.sum.ensures.ran (YieldsList-from_map _ slots_each (YieldsList-from_range 1 4096 max_edge (cc) refl) c.map.ensures.closure (λ e r q k. search (rules, tests)))
    ∙ taken_summed c.args.borders.now.items (lines_of g.C.Turning.turn g.C.Chart.points c.args.chart.now) max_edge
