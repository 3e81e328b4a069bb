use Rattle.std.proofs.Common.{◌≡◌, ◌+◌, ◌*◌, sym, subst, arith, w16, Fits, rules}
use Rattle.turning.specs.Limits.{max_edge}
use Rattle.chart.specs.Linework.{lines_of}
use Rattle.strips.specs.Borders.{strip_count}
use Rattle.writing.proofs.CodeWhole.{Measured, measured_none, measured_long, measured_more}
use Rattle.writing.proofs.write.measure_all.Goals as goal

pub loop-j-init : goal.loop-j-init
loop-j-init g c = measured_none max_edge c.args.borders.now.items (lines_of g.C.Turning.turn g.C.Chart.points c.args.chart.now) c.args.sizes.now.items c.requires

pub overflow_add-total : goal.overflow_add-total
overflow_add-total g c =
    let b = c.args.borders.now in
    let few = c.strip_count-j-end.ensures.few in
    let v : Fits w16 c.measure-own.result.vertices = search rules in
    let s : Fits w16 c.measure-own.result.slots = search rules in
    omega (arith, c.loop-j.invariant.few, c.bytes-total.ensures, c.strip_count-j-end.ensures.count, c.loop-j-test.true)

pub push-requires : goal.push-requires
push-requires g c =
    let long = measured_long max_edge c.args.borders.now.items (lines_of g.C.Turning.turn g.C.Chart.points c.args.chart.now) c.loop-j.j c.loop-j.sizes.items c.loop-j.total c.loop-j.invariant in
    let few = c.strip_count-j-end.ensures.few in
    (omega arith, omega (arith, c.loop-j-test.true))

pub loop-j-preserved : goal.loop-j-preserved
loop-j-preserved g c =
    let l = lines_of g.C.Turning.turn g.C.Chart.points c.args.chart.now in
    let bs = c.args.borders.now.items in
    let j = c.loop-j.j in
    let own = c.measure-own.result in
    let v : Fits w16 own.vertices = search rules in
    let s : Fits w16 own.slots = search rules in
    let more = measured_more max_edge bs l j c.loop-j.sizes.items c.loop-j.total own c.measure-own.ensures v.fits s.fits c.loop-j.invariant in
    subst (λ k. Measured max_edge bs l (j + 1) c.push.new.self.items (c.loop-j.total + k)) (sym c.bytes-total.ensures)
    (subst (λ xs. Measured max_edge bs l (j + 1) xs (c.loop-j.total + (4 * own.slots + 8 * own.vertices))) (sym c.push.ensures.items) more)

pub returns : goal.returns
returns g c =
    let l = lines_of g.C.Turning.turn g.C.Chart.points c.args.chart.now in
    let bs = c.args.borders.now.items in
    let few = c.strip_count-j-end.ensures.few in
    let last = c.loop-j.auto.j-end in
    let end : c.loop-j.j ≡ strip_count bs = omega (arith, c.strip_count-j-end.ensures.count, c.loop-j-test.false) in
    let all : Measured max_edge bs l (strip_count bs) c.loop-j.sizes.items c.loop-j.total = subst (λ j. Measured max_edge bs l j c.loop-j.sizes.items c.loop-j.total) end c.loop-j.invariant in
    record { sizes = all.put; long = all.long; few = omega (arith, all.few) }
