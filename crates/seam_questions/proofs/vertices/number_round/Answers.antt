use Rattle.std.proofs.Common.{◌≡◌, ℕ, ◌+◌, cond, length, set, pos, Some, sym, ap, ◌∙◌, add-one, arith}
use Rattle.flat.specs.Orbits.{iterate}
use Rattle.turning.specs.Limits.{max_edge, line_for}
use Rattle.file.specs.Strips.{met}
use Rattle.file.specs.Views.{told}
use Rattle.file.proofs.Walking.{home_at, met_all}
use Rattle.strip_questions.proofs.Rounding.{iterate_more}
use Rattle.seam_questions.specs.Vertices.{slot_at, vertex_at}
use Rattle.seam_questions.proofs.Numbering.{met_put}
use Rattle.seam_questions.proofs.vertices.number_round.Goals as goal

pub line_in-requires : goal.line_in-requires
line_in-requires c =
    let o = home_at (told c.args.s) c.requires.sound.turned c.args.i c.requires.slot c.requires.home c.loop-n.n in
    record { slot = omega (arith, o.0, c.loop-n.invariant.0); sound = c.requires.sound }

pub follower-at-requires : goal.follower-at-requires
follower-at-requires c =
    let o = home_at (told c.args.s) c.requires.sound.turned c.args.i c.requires.slot c.requires.home c.loop-n.n in
    omega (arith, o.0, c.loop-n.invariant.0)

pub returns-then-at-i : goal.returns-then-at-i
returns-then-at-i c =
    let s = told c.args.s in
    let o = home_at s c.requires.sound.turned c.args.i c.requires.slot c.requires.home c.loop-n.n in
    let long : length c.loop-n.line ≡ line_for max_edge = c.loop-n.invariant.2 in
    let e : c.put_vertex.new.line ≡ set c.loop-n.line (slot_at s (iterate c.loop-n.n s.follower c.args.i)) (pos (c.args.v + 1)) =
    c.put_vertex.ensures ∙ ap (λ k. set c.loop-n.line k (pos (c.args.v + 1))) (c.line_in.ensures.value ∙ ap (slot_at s) c.loop-n.invariant.0) in
    let on : c.follower-at.result ≡ s.follower (iterate c.loop-n.n s.follower c.args.i) = c.follower-at.ensures ∙ ap s.follower c.loop-n.invariant.0 in
    let more = met_put s c.requires.sound c.loop-n.line c.args.line.now c.args.i c.loop-n.n c.args.v o.0 long c.loop-n.invariant.1 in
    let whole : (k : ℕ) → met s c.args.i (c.loop-n.n + 1) k ≡ met s c.args.i c.args.s.slots k =
    λ k. ap (λ q. met s c.args.i q k) (add-one c.loop-n.n)
    ∙ met_all s c.requires.sound.turned c.args.i c.loop-n.n k c.loop-n-test.true (sym on ∙ c.if-at-i.true) in
    λ k h. ap (λ m. vertex_at m (slot_at s k)) e ∙ more k h ∙ ap (λ b. cond b (Some c.args.v) (vertex_at c.args.line.now (slot_at s k))) (whole k)

pub loop-n-preserved : goal.loop-n-preserved
loop-n-preserved c =
    let s = told c.args.s in
    let o = home_at s c.requires.sound.turned c.args.i c.requires.slot c.requires.home c.loop-n.n in
    let long : length c.loop-n.line ≡ line_for max_edge = c.loop-n.invariant.2 in
    let e : c.put_vertex.new.line ≡ set c.loop-n.line (slot_at s (iterate c.loop-n.n s.follower c.args.i)) (pos (c.args.v + 1)) =
    c.put_vertex.ensures ∙ ap (λ k. set c.loop-n.line k (pos (c.args.v + 1))) (c.line_in.ensures.value ∙ ap (slot_at s) c.loop-n.invariant.0) in
    let on : c.follower-at.result ≡ s.follower (iterate c.loop-n.n s.follower c.args.i) = c.follower-at.ensures ∙ ap s.follower c.loop-n.invariant.0 in
    let more = met_put s c.requires.sound c.loop-n.line c.args.line.now c.args.i c.loop-n.n c.args.v o.0 long c.loop-n.invariant.1 in (
      on ∙ sym (iterate_more s.follower c.loop-n.n c.args.i),
      (λ k h. ap (λ m. vertex_at m (slot_at s k)) e ∙ more k h),
      c.put_vertex.array_long,
    )
