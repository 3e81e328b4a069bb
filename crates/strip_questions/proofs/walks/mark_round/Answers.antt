use Rattle.std.proofs.Common.{◌≡◌, ℕ, ◌+◌, ◌<◌, cond, length, get_or, set, sym, ap, ◌∙◌, add-one, arith, rules}
use Rattle.flat.specs.Orbits.{iterate}
use Rattle.file.specs.Strips.{met}
use Rattle.file.specs.Views.{told}
use Rattle.file.proofs.Walking.{home_at, met_all}
use Rattle.strip_questions.proofs.Rounding.{met_set, iterate_more}
use Rattle.strip_questions.proofs.walks.mark_round.Goals as goal

pub follower-at-requires : goal.follower-at-requires
follower-at-requires c =
    let o = home_at (told c.args.s) c.requires.turned c.args.i c.requires.slot c.requires.home c.loop-n.n in
    omega (arith, o.0, c.loop-n.invariant.0)

pub returns-then-at-i : goal.returns-then-at-i
returns-then-at-i c =
    let o = home_at (told c.args.s) c.requires.turned c.args.i c.requires.slot c.requires.home c.loop-n.n in
    let w : iterate c.loop-n.n (told c.args.s).follower c.args.i < length c.loop-n.marks = omega (arith, o.0) in
    let on : c.follower-at.result ≡ (told c.args.s).follower (iterate c.loop-n.n (told c.args.s).follower c.args.i) =
    c.follower-at.ensures ∙ ap (told c.args.s).follower c.loop-n.invariant.0 in
    let more = met_set c.loop-n.marks c.args.marks.now (told c.args.s) c.args.i c.loop-n.n w c.loop-n.invariant.1 in
    let whole : (k : ℕ) → met (told c.args.s) c.args.i (c.loop-n.n + 1) k ≡ met (told c.args.s) c.args.i c.args.s.slots k =
    λ k. ap (λ q. met (told c.args.s) c.args.i q k) (add-one c.loop-n.n)
    ∙ met_all (told c.args.s) c.requires.turned c.args.i c.loop-n.n k c.loop-n-test.true (sym on ∙ c.if-at-i.true) in
    λ k h. ap (λ a. get_or (set c.loop-n.marks a 1) k 0) c.loop-n.invariant.0 ∙ more k h ∙ ap (λ b. cond b 1 (get_or c.args.marks.now k 0)) (whole k)

pub loop-n-preserved : goal.loop-n-preserved
loop-n-preserved c =
    let o = home_at (told c.args.s) c.requires.turned c.args.i c.requires.slot c.requires.home c.loop-n.n in
    let w : iterate c.loop-n.n (told c.args.s).follower c.args.i < length c.loop-n.marks = omega (arith, o.0) in
    let on : c.follower-at.result ≡ (told c.args.s).follower (iterate c.loop-n.n (told c.args.s).follower c.args.i) =
    c.follower-at.ensures ∙ ap (told c.args.s).follower c.loop-n.invariant.0 in
    let more = met_set c.loop-n.marks c.args.marks.now (told c.args.s) c.args.i c.loop-n.n w c.loop-n.invariant.1 in (
      on ∙ sym (iterate_more (told c.args.s).follower c.loop-n.n c.args.i),
      (λ k h. ap (λ a. get_or (set c.loop-n.marks a 1) k 0) c.loop-n.invariant.0 ∙ more k h),
    )

pub bounds-marks-at : goal.bounds-marks-at
bounds-marks-at c =
    let o = home_at (told c.args.s) c.requires.turned c.args.i c.requires.slot c.requires.home c.loop-n.n in
    let w : c.loop-n.at < c.args.s.slots = omega (arith, o.0, c.loop-n.invariant.0) in
    let m = c.requires.few in
    omega arith

pub overflow_cast-marks : goal.overflow_cast-marks
overflow_cast-marks c =
    let o = home_at (told c.args.s) c.requires.turned c.args.i c.requires.slot c.requires.home c.loop-n.n in
    let w : c.loop-n.at < c.args.s.slots = omega (arith, o.0, c.loop-n.invariant.0) in
    let m = c.requires.few in
    search rules
