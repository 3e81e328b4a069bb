use Rattle.std.proofs.Common.{◌≡◌, true, false, leb, length, Err, sym, refl, ap, ◌∙◌, subst, arith}
use Rattle.std.proofs.lemmas.Result.{err_from_is_err_and}
use Rattle.std.proofs.lemmas.Bool.{leb-true}
use Rattle.turning.specs.Limits.{max_edge, slots}
use Rattle.file.specs.declared.fault.Layer.TheVariants.{Flat}
use Rattle.file.specs.Faults.{told_fault}
use Rattle.file.specs.Lines.{flat}
use Rattle.file.specs.Numbers.{flat_number}
use Rattle.file.specs.Verdict.{told_lines}
use Rattle.reading.specs.Reading.{Read}
use Rattle.reading.proofs.Deciding.{answer_shape, answer_flat, answer_yes, ready_long, accepted, refused}
use Rattle.reading.proofs.read_into.Goals as goal

pub lay_out-requires : goal.lay_out-requires
lay_out-requires c =
    let rs = c.args.sheet.now.rows.at.now in
    let long : leb slots (length rs) ≡ true = ready_long c.ready.result _ c.is_err.result c.ready.ensures c.is_err.ensures.value c.if-is_err.false in
    record {
      accepted = accepted c.args.marks.now c.args.line.now c.args.bytes.now (omega arith) (omega arith) c.in_ok-judge.ensures.answer;
      long = leb-true slots (length rs) long;
    }

pub returns-in_err-judge : goal.returns-in_err-judge
returns-in_err-judge c =
    let b = c.args.bytes.now in
    let sheet = c.args.sheet.now in
    let rs = sheet.rows.at.now in
    let long : leb slots (length rs) ≡ true = ready_long c.ready.result _ c.is_err.result c.ready.ensures c.is_err.ensures.value c.if-is_err.false in
    let no = refused c.args.marks.now c.args.line.now b (omega arith) (omega arith) _ c.in_err-judge.ensures.answer in
    let p = err_from_is_err_and c.from_residual.result c.from_residual.ensures.1 in
    record {
      answer = p.1 ∙ ap Err p.2 ∙ answer_shape (leb slots (length rs)) long b _ no;
      read = subst (λ r. Read r b sheet.borders.items rs) (sym p.1) (c.requires.uncut, c.requires.empty);
      length = refl;
    }

pub returns-then-not-is_flat : goal.returns-then-not-is_flat
returns-then-not-is_flat c =
    let b = c.args.bytes.now in
    let rs = c.args.sheet.now.rows.at.now in
    let long : leb slots (length rs) ≡ true = ready_long c.ready.result _ c.is_err.result c.ready.ensures c.is_err.ensures.value c.if-is_err.false in
    let yes = accepted c.args.marks.now c.args.line.now b (omega arith) (omega arith) c.in_ok-judge.ensures.answer in
    let f : flat max_edge (told_lines b).turn ≡ false = ap (λ l. flat max_edge l.turn) (sym c.lay_out.ensures.lines) ∙ sym c.is_flat.ensures ∙ c.if-not-is_flat.true in
    record {
      answer = ap Err (c.from-then-not-is_flat.ensures ∙ ap (told_fault Flat flat_number) c.new-then-not-is_flat.ensures) ∙ answer_flat (leb slots (length rs)) long b yes f;
      read = (c.clear.ensures.uncut, c.clear.ensures.empty);
      length = c.clear.ensures.length ∙ c.lay_out.ensures.length;
    }

pub returns : goal.returns
returns c =
    let b = c.args.bytes.now in
    let rs = c.args.sheet.now.rows.at.now in
    let long : leb slots (length rs) ≡ true = ready_long c.ready.result _ c.is_err.result c.ready.ensures c.is_err.ensures.value c.if-is_err.false in
    let yes = accepted c.args.marks.now c.args.line.now b (omega arith) (omega arith) c.in_ok-judge.ensures.answer in
    let f : flat max_edge (told_lines b).turn ≡ true = ap (λ l. flat max_edge l.turn) (sym c.lay_out.ensures.lines) ∙ sym c.is_flat.ensures ∙ c.if-not-is_flat.false in
    record {
      answer = answer_yes (leb slots (length rs)) long b yes f;
      read = (c.lay_out.ensures.borders, c.lay_out.ensures.lines);
      length = c.lay_out.ensures.length;
    }
