use Rattle.std.proofs.Common.{◌≡◌, sym, ◌∙◌, subst, subst₂}
use Rattle.turning.specs.Limits.{max_edge, slots}
use Rattle.laws.specs.Keeps.{Sound}
use Rattle.told.specs.Tells.{borders_in, Standing}
use Rattle.told.proofs.Telling.{accepted_tells}
use Rattle.reading.specs.Entries.{lines_by}
use Rattle.reading.proofs.Placing.{two_bytes, shaped_by, judged_by, laid_out}
use Rattle.reading.proofs.laying.lay_out.Goals as goal

pub read_u16-count-requires : goal.read_u16-count-requires
read_u16-count-requires c = two_bytes c.args.bytes.now c.requires.accepted

pub invariant_of-file : goal.invariant_of-file
invariant_of-file c = record { shaped = shaped_by c.args.bytes.now c.read_u16-count.result c.read_u16-count.ensures c.requires.accepted }

pub invariant_of-enter : goal.invariant_of-enter
invariant_of-enter c = record { judged = judged_by c.args.bytes.now c.read_u16-count.result c.read_u16-count.ensures c.requires.accepted }

pub enter-requires-clause-tells : goal.enter-requires-clause-tells
enter-requires-clause-tells c = (accepted_tells c.args.bytes.now c.requires.accepted).1

pub enter-requires-clause-sound : goal.enter-requires-clause-sound
enter-requires-clause-sound c = (accepted_tells c.args.bytes.now c.requires.accepted).0.sound

pub invariant_of-told : goal.invariant_of-told
invariant_of-told c = record { ok = ∣ subst (Sound max_edge) (sym c.enter.ensures) (accepted_tells c.args.bytes.now c.requires.accepted).0.sound ∣₁ }

pub returns : goal.returns
returns c =
    let b = c.args.bytes.now in
    let old = c.args.sheet.now in
    let new = c.layout.new.self in
    let bs = c.as_slice.result.now in
    let own : bs ≡ borders_in b = c.as_slice.ensures.value ∙ c.read_borders-borders.ensures in
    let standing = subst₂ (Standing max_edge slots) (sym own) (sym c.enter.ensures) (accepted_tells b c.requires.accepted).0 in
    let p = laid_out c.layout.result bs old.borders.items new.borders.items old.rows.at.now new.rows.at.now (lines_by c.enter.new.entries) standing c.requires.long c.layout.ensures.answer c.layout.ensures.laid in
    record { borders = p.0 ∙ own; lines = p.1 ∙ c.enter.ensures; length = c.layout.ensures.length }
