use Rattle.std.proofs.Common.{◌≡◌, ◌<◌, sym, ap, ◌∙◌, subst, rules}
use Rattle.file.specs.Layout.{strip}
use Rattle.file.specs.Strips.{Turned}
use Rattle.reading.specs.Entering.{Put}
use Rattle.reading.proofs.Filling.{slot_entered, strip_entered}
use Rattle.reading.proofs.entering.enter_strip.Goals as goal

pub loop-i-preserved : goal.loop-i-preserved
loop-i-preserved c =
    let b = c.args.bytes.now in
    let j = c.args.j in
    let i = c.loop-i.i in
    let same = c.requires.strip in
    let l : i < (strip b j).slots = subst (λ s. i < s.slots) same c.loop-i-test.true in
    let put : Put (strip b j) i c.loop-i.entries c.enter_slot.new.entries = subst (λ s. Put s i c.loop-i.entries c.enter_slot.new.entries) same c.enter_slot.ensures in
    slot_entered b j c.requires.sound (subst Turned same c.requires.judged.turned) c.requires.tells i l c.loop-i.entries c.enter_slot.new.entries put c.loop-i.invariant

pub returns : goal.returns
returns c =
    let e : c.loop-i.i ≡ (strip c.args.bytes.now c.args.j).slots = sym (search rules) ∙ ap (λ s. s.slots) c.requires.strip in
    strip_entered c.args.bytes.now c.args.j c.loop-i.i c.loop-i.entries e c.loop-i.invariant
