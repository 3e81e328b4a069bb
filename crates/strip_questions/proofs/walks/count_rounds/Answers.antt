use Rattle.std.proofs.Common.{◌≡◌, ◌+◌, true, false, length, get_or, sym, refl, ap, ◌∙◌, arith, rules}
use Rattle.flat.specs.Orbits.{indicator}
use Rattle.std.proofs.lemmas.List.{get_or-replicate}
use Rattle.file.specs.Places.{count_below}
use Rattle.file.specs.Strips.{home, low, opens, rounds}
use Rattle.file.specs.Views.{told}
use Rattle.file.proofs.Places.{count_more}
use Rattle.strip_questions.proofs.Rounding.{round_marked, round_skipped, nothing_below}
use Rattle.strip_questions.proofs.walks.count_rounds.Goals as goal
use Rattle.strip_questions.proofs.walks.count_rounds.Goals.{then-opens_round, else-opens_round}

pub loop-i-init : goal.loop-i-init
loop-i-init c = (
  refl,
  omega arith,
  (λ k h. ap (λ m. get_or m k 0) c.requires.clean ∙ get_or-replicate (length c.args.marks.now) k 0 0 (omega arith) ∙ nothing_below (home (told c.args.s) k) (low (told c.args.s) k)),
)

pub loop-i-preserved : goal.loop-i-preserved
loop-i-preserved c = elim c.if-opens_round.branch [
  | then-opens_round w ↦
      let o : opens (told c.args.s) c.loop-i.i ≡ true = sym c.opens_round.ensures ∙ w.if-opens_round.true in
      let n : count_below (opens (told c.args.s)) (c.loop-i.i + 1) ≡ 1 + count_below (opens (told c.args.s)) c.loop-i.i =
      count_more (opens (told c.args.s)) c.loop-i.i ∙ ap (λ b. indicator b + count_below (opens (told c.args.s)) c.loop-i.i) o in (
        omega (arith, w.count-is, c.loop-i.invariant.0),
        omega (arith, w.count-is, c.loop-i.invariant.1),
        (λ k h. ap (λ m. get_or m k 0) w.marks-is
            ∙ round_marked (told c.args.s) c.requires.turned c.loop-i.i c.loop-i-test.true o k _ _ h (c.loop-i.invariant.2 k h) (w.mark_round.ensures k h)),
      )
  | else-opens_round w ↦
      let o : opens (told c.args.s) c.loop-i.i ≡ false = sym c.opens_round.ensures ∙ w.if-opens_round.false in
      let n : count_below (opens (told c.args.s)) (c.loop-i.i + 1) ≡ 0 + count_below (opens (told c.args.s)) c.loop-i.i =
      count_more (opens (told c.args.s)) c.loop-i.i ∙ ap (λ b. indicator b + count_below (opens (told c.args.s)) c.loop-i.i) o in (
        omega (arith, w.count-is, c.loop-i.invariant.0),
        omega (arith, w.count-is, c.loop-i.invariant.1),
        (λ k h. ap (λ m. get_or m k 0) w.marks-is
            ∙ round_skipped (told c.args.s) c.requires.turned c.loop-i.i c.loop-i-test.true o k _ h (c.loop-i.invariant.2 k h)),
      )
]

pub returns : goal.returns
unfolding rounds
returns c =
    let e : c.loop-i.i ≡ c.args.s.slots = search rules in
    c.loop-i.invariant.0 ∙ ap (count_below (opens (told c.args.s))) e
