use Rattle.std.proofs.Common.{◌≡◌, ◌+◌, ◌*◌, length, ap, ◌∙◌, arith, rules}
use Rattle.file.specs.Layout.{slots_in, vertices_in, strip_length, strip_at}
use Rattle.file.proofs.Places.{sum_within, sum_more}
use Rattle.file.proofs.Sizes.{strip_is, read_sizes}
use Rattle.file.proofs.parts.File.strip.Goals as goal

pub loop-k-init : goal.loop-k-init
loop-k-init c = let e = c.args.self.now.shaped.count in (omega arith, c.new-sizes.ensures.at, c.new-sizes.ensures.bytes)

pub sizes-requires : goal.sizes-requires
sizes-requires c =
    let l = c.args.self.now.shaped.whole in
    let e = c.args.self.now.shaped.count in
    omega (arith, c.loop-k.invariant.1, ap length c.loop-k.invariant.2)

pub overflow_add-at-in-loop-k : goal.overflow_add-at-in-loop-k
overflow_add-at-in-loop-k c =
    let w = sum_within (strip_length c.args.self.now.bytes.now) c.loop-k.k c.args.self.now.count (omega arith) in
    let l = c.args.self.now.shaped.whole in
    let e = c.args.self.now.shaped.count in
    let r = read_sizes c.args.self.now.bytes.now _ _ _ _ c.loop-k.k c.loop-k.invariant.2 c.loop-k.invariant.1 c.sizes.ensures.vertices c.sizes.ensures.slots in
    let v : c.sizes.result.vertices ≡ vertices_in c.args.self.now.bytes.now c.loop-k.k = r.0 in
    let h : c.sizes.result.slots ≡ slots_in c.args.self.now.bytes.now c.loop-k.k = r.1 in
    search rules

pub loop-k-preserved : goal.loop-k-preserved
loop-k-preserved c =
    let s = sum_more (strip_length c.args.self.now.bytes.now) c.loop-k.k in
    let r = read_sizes c.args.self.now.bytes.now _ _ _ _ c.loop-k.k c.loop-k.invariant.2 c.loop-k.invariant.1 c.sizes.ensures.vertices c.sizes.ensures.slots in
    let v : c.sizes.result.vertices ≡ vertices_in c.args.self.now.bytes.now c.loop-k.k = r.0 in
    let h : c.sizes.result.slots ≡ slots_in c.args.self.now.bytes.now c.loop-k.k = r.1 in
    (omega arith, omega (arith, c.sizes.ensures.at, c.loop-k.invariant.1), c.sizes.ensures.bytes ∙ c.loop-k.invariant.2)

pub sizes-requires-2 : goal.sizes-requires-2
sizes-requires-2 c =
    let l = c.args.self.now.shaped.whole in
    let e = c.args.self.now.shaped.count in
    omega (arith, c.loop-k.invariant.1, ap length c.loop-k.invariant.2)

pub strip-requires : goal.strip-requires
strip-requires c =
    let w = sum_within (strip_length c.args.self.now.bytes.now) c.args.j c.args.self.now.count c.requires in
    let l = c.args.self.now.shaped.whole in
    let e = c.args.self.now.shaped.count in
    let k : c.loop-k.k ≡ c.args.j = search rules in
    let a : c.loop-k.at ≡ strip_at c.args.self.now.bytes.now c.args.j = c.loop-k.invariant.0 ∙ ap (strip_at c.args.self.now.bytes.now) k in
    let r = read_sizes c.args.self.now.bytes.now _ _ _ _ c.args.j c.loop-k.invariant.2 (c.loop-k.invariant.1 ∙ ap (λ n. 2 + 4 * n) k) c.sizes-2.ensures.vertices c.sizes-2.ensures.slots in
    let v : c.sizes-2.result.vertices ≡ vertices_in c.args.self.now.bytes.now c.args.j = r.0 in
    let h : c.sizes-2.result.slots ≡ slots_in c.args.self.now.bytes.now c.args.j = r.1 in
    omega (arith, ap length c.new-arrays.ensures.bytes, c.new-arrays.ensures.at)

pub returns : goal.returns
returns c =
    let small = c.args.self.now.shaped.small c.args.j c.requires in
    let fewer = c.args.self.now.shaped.fewer c.args.j c.requires in
    let k : c.loop-k.k ≡ c.args.j = search rules in
    let a : c.loop-k.at ≡ strip_at c.args.self.now.bytes.now c.args.j = c.loop-k.invariant.0 ∙ ap (strip_at c.args.self.now.bytes.now) k in
    let r = read_sizes c.args.self.now.bytes.now _ _ _ _ c.args.j c.loop-k.invariant.2 (c.loop-k.invariant.1 ∙ ap (λ n. 2 + 4 * n) k) c.sizes-2.ensures.vertices c.sizes-2.ensures.slots in
    let v : c.sizes-2.result.vertices ≡ vertices_in c.args.self.now.bytes.now c.args.j = r.0 in
    let h : c.sizes-2.result.slots ≡ slots_in c.args.self.now.bytes.now c.args.j = r.1 in
    record {
      told = strip_is c.args.self.now.bytes.now _ _ _ _ _ _ _ c.args.j c.strip.ensures.value c.new-arrays.ensures.bytes (c.new-arrays.ensures.at ∙ a)
          h v c.strip.ensures.slots c.strip.ensures.vertices;
      few = omega (arith, c.strip.ensures.slots);
      fewer = omega (arith, c.strip.ensures.slots, c.strip.ensures.vertices);
    }
