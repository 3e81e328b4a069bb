use Rattle.std.proofs.Common.{◌≡◌, sym, ◌∙◌, rules, tests}
use lib.Signed.{lt_z}
use Rattle.std.specs.List.{list_all}
use Rattle.std.proofs.lemmas.Fn.{always_returns_same}
use Rattle.std.proofs.lemmas.Iterator.{YieldsList-from_slice}
use Rattle.std.proofs.lemmas.Iterator.Search.{all_from_yields_List}
use Rattle.chart.specs.Points.{within}
use Rattle.strips.proofs.Cutting.{rising_out, rising_by}
use Rattle.strips.proofs.borders.is_rising.Goals as goal

pub returns-then-all : goal.returns-then-all
returns-then-all c =
    let bs = c.args.borders.now in
    let all : c.all.result ≡ list_all within bs = all_from_yields_List within _ _ c.all.result c.all.ensures.ran (YieldsList-from_slice bs c.iter.ensures.rest) (λ x b q k. search (rules, tests)) in
    rising_by bs c.is_sorted_by.result (c.is_sorted_by.ensures.cases lt_z (always_returns_same _ _ _ (λ a r q k. (search (rules, tests), search rules)))) (sym all ∙ c.if-all.true)

pub returns-else-all : goal.returns-else-all
returns-else-all c =
    let bs = c.args.borders.now in
    let all : c.all.result ≡ list_all within bs = all_from_yields_List within _ _ c.all.result c.all.ensures.ran (YieldsList-from_slice bs c.iter.ensures.rest) (λ x b q k. search (rules, tests)) in
    c.if-all.false ∙ sym (rising_out bs (sym all ∙ c.if-all.false))
