use Rattle.std.proofs.Common.{◌≡◌, ◌+◌, Bool, true, false, ◌&&◌, eqb, sym, refl, ap, ◌∙◌, arith, rules}
use Rattle.flat.specs.Orbits.{indicator}
use Rattle.file.specs.Places.{count_below}
use Rattle.file.specs.Strips.{home, low, opens}
use Rattle.file.specs.Views.{told}
use Rattle.file.proofs.Places.{count_more}
use Rattle.seam_questions.specs.Vertices.{slot_at, vertex_at}
use Rattle.seam_questions.proofs.Numbering.{none_numbered, all_numbered, round_numbered, round_passed}
use Rattle.seam_questions.proofs.vertices.number_rounds.Goals as goal
use Rattle.seam_questions.proofs.vertices.number_rounds.Goals.{then-opens_round, else-opens_round}

opens_is_home : (a b : Bool) → (a && b) ≡ true → a ≡ true
opens_is_home a b e = grind arith

pub loop-i-init : goal.loop-i-init
loop-i-init c = (refl, omega arith, none_numbered (told c.args.s) c.requires.sound c.args.line.now c.told-line c.requires.clean)

pub number_round-requires-clause-home : goal.number_round-requires-clause-home
number_round-requires-clause-home c =
    opens_is_home (home (told c.args.s) c.loop-i.i) (eqb (low (told c.args.s) c.loop-i.i) c.loop-i.i) (sym c.opens_round.ensures ∙ c.if-opens_round.true)

pub loop-i-preserved : goal.loop-i-preserved
loop-i-preserved c = elim c.if-opens_round.branch [
  | then-opens_round w ↦
      let s = told c.args.s in
      let o : opens s c.loop-i.i ≡ true = sym c.opens_round.ensures ∙ w.if-opens_round.true in
      let n : count_below (opens s) (c.loop-i.i + 1) ≡ 1 + count_below (opens s) c.loop-i.i =
      count_more (opens s) c.loop-i.i ∙ ap (λ b. indicator b + count_below (opens s) c.loop-i.i) o in (
        omega (arith, w.count-is, c.loop-i.invariant.0),
        omega (arith, w.count-is, c.loop-i.invariant.1),
        (λ k h. ap (λ m. vertex_at m (slot_at s k)) w.line-is
            ∙ round_numbered s c.requires.sound.turned c.loop-i.i c.loop-i-test.true o c.loop-i.count c.loop-i.invariant.0 k _ _ h (c.loop-i.invariant.2 k h) (w.number_round.ensures k h)),
      )
  | else-opens_round w ↦
      let s = told c.args.s in
      let o : opens s c.loop-i.i ≡ false = sym c.opens_round.ensures ∙ w.if-opens_round.false in
      let n : count_below (opens s) (c.loop-i.i + 1) ≡ 0 + count_below (opens s) c.loop-i.i =
      count_more (opens s) c.loop-i.i ∙ ap (λ b. indicator b + count_below (opens s) c.loop-i.i) o in (
        omega (arith, w.count-is, c.loop-i.invariant.0),
        omega (arith, w.count-is, c.loop-i.invariant.1),
        (λ k h. ap (λ m. vertex_at m (slot_at s k)) w.line-is ∙ c.loop-i.invariant.2 k h
            ∙ round_passed s c.requires.sound.turned c.loop-i.i c.loop-i-test.true o k h),
      )
]

pub returns : goal.returns
returns c =
    let e : c.loop-i.i ≡ c.args.s.slots = search rules in
    all_numbered (told c.args.s) c.requires.sound c.loop-i.line c.loop-i.i e c.loop-i.invariant.2
