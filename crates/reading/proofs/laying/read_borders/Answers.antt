use Rattle.std.proofs.Common.{◌≡◌, ◌-◌, length, ap, ◌∙◌, arith}
use Rattle.file.specs.Layout.{strips, border}
use Rattle.told.specs.Tells.{list_below, borders_in}
use Rattle.told.proofs.Borders.{below_length}
use Rattle.reading.proofs.laying.read_borders.Goals as goal

pub push-requires : goal.push-requires
push-requires c =
    let long : length c.loop-k.borders.items ≡ c.loop-k.k = ap length c.loop-k.invariant ∙ below_length (border c.args.file.bytes.now) c.loop-k.k in
    let few = c.args.file.shaped.few in
    (omega arith, omega (arith, c.loop-k-test.true))

pub returns : goal.returns
unfolding borders_in
returns c =
    let b = c.args.file.bytes.now in
    let last = c.loop-k.auto.k-end in
    let count = c.args.file.shaped.count in
    let end : c.loop-k.k ≡ strips b - 1 = omega (arith, c.loop-k-test.false) in
    c.loop-k.invariant ∙ ap (list_below (border b)) end
