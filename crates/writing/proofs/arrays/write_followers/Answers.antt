use Rattle.std.proofs.Common.{ℕ, ℤ, List, get_or, ◌∙◌, subst}
use Rattle.flat.specs.Orbits.{◌∈◌}
use Rattle.turning.specs.Limits.{max_edge}
use Rattle.chart.specs.Linework.{lines_of}
use Rattle.writing.specs.Written.{u16_bytes, follower_slot}
use Rattle.writing.specs.Gathers.{Slotted}
use Rattle.writing.proofs.CodeNames.{in_strip_held}
use Rattle.writing.proofs.CodeSlots.{element_in}
use Rattle.writing.proofs.WordByWord.{each_is}
use Rattle.writing.proofs.arrays.write_followers.Goals as goal

pub write_each-requires-clause-callable : goal.write_each-requires-clause-callable
write_each-requires-clause-callable g c =
    let l = lines_of g.C.Turning.turn g.C.Chart.points c.args.chart.now in
    let names = c.args.names.now in
    λ k d lt.
    let z = get_or names k d in (
      subst (λ zs. Slotted max_edge zs c.args.slots.now) c.requires.names c.requires.slots,
      in_strip_held max_edge c.args.borders.now.items l (g.C.Turning.lawful c.args.chart.now) c.args.strip z (subst (λ zs. z ∈ zs) c.requires.names (element_in names k d lt)),
    )

pub returns : goal.returns
returns g c =
    let l = lines_of g.C.Turning.turn g.C.Chart.points c.args.chart.now in
    let code : ℤ → List ℕ = λ h. u16_bytes (follower_slot max_edge c.args.borders.now.items l c.args.strip h) in
    each_is _ code c.args.names.now c.write_each.new.part (λ k d lt word (w, (own, e)). e ∙ own) c.write_each.ensures
