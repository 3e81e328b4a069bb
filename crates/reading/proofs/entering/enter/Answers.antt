use Rattle.std.proofs.Common.{◌≡◌, subst, arith}
use Rattle.file.specs.Views.{told}
use Rattle.seam_questions.proofs.Numbering.{lent_sound}
use Rattle.reading.specs.Entering.{Entered}
use Rattle.reading.proofs.Filling.{none_entered, all_entered}
use Rattle.reading.proofs.entering.enter.Goals as goal

pub loop-j-init : goal.loop-j-init
loop-j-init c = none_entered c.args.judged.file.bytes.now c.args.entries.now c.requires.empty

pub number_vertices-requires-clause-sound : goal.number_vertices-requires-clause-sound
number_vertices-requires-clause-sound c =
    lent_sound c.args.judged.file.bytes.now c.args.judged.file.count c.loop-j.j (told c.strip-s.result) c.args.judged.judged c.loop-j-test.true c.strip-s.ensures.told

pub enter_strip-requires-clause-judged : goal.enter_strip-requires-clause-judged
enter_strip-requires-clause-judged c =
    lent_sound c.args.judged.file.bytes.now c.args.judged.file.count c.loop-j.j (told c.strip-s.result) c.args.judged.judged c.loop-j-test.true c.strip-s.ensures.told

pub returns : goal.returns
returns c =
    let b = c.args.judged.file.bytes.now in
    let n = c.args.judged.file.count in
    let last = c.loop-j.auto.j-end in
    let end : c.loop-j.j ≡ n = omega (arith, c.loop-j-test.false) in
    all_entered b n c.loop-j.entries c.args.judged.file.shaped.count c.requires.sound (subst (λ j. Entered b j 0 c.loop-j.entries) end c.loop-j.invariant)
