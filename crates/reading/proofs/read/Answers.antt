use Rattle.std.proofs.Common.{◌≡◌, Err, true, leb, length, pos, sym, ap, ◌∙◌}
use Rattle.turning.specs.Limits.{max_edge, slots, marks_for, line_for}
use Rattle.search.specs.Buffers.{enough}
use Rattle.search.proofs.Buffers.{enough_both, line_short, given_zero, given_same, given_whole}
use Rattle.file.specs.declared.fault.Layer.TheVariants.{Call}
use Rattle.file.specs.Faults.{told_fault}
use Rattle.file.specs.Numbers.{call_number}
use Rattle.file.specs.Places.{answered}
use Rattle.reading.specs.Reading.{sheet_verdict, read_verdict}
use Rattle.reading.proofs.read.Goals as goal

pub returns-in_default-first_chunk_mut-clause-answer : goal.returns-in_default-first_chunk_mut-clause-answer
returns-in_default-first_chunk_mut-clause-answer c =
    ap Err (c.from-short.ensures ∙ ap (told_fault Call call_number) c.new.ensures)
    ∙ sym (ap (λ lent. answered (read_verdict lent (leb slots (length c.args.sheet.now.rows.at.now)) c.args.bytes.now) tt) (line_short max_edge c.args.marks.now c.args.line.now c.in_default-first_chunk_mut.ensures.cases))

pub returns-in_default-first_chunk_mut-clause-zero : goal.returns-in_default-first_chunk_mut-clause-zero
returns-in_default-first_chunk_mut-clause-zero c =
    given_same (enough max_edge c.args.marks.now c.args.line.now) (marks_for max_edge) 0 c.args.marks.now
    (line_short max_edge c.args.marks.now c.args.line.now c.in_default-first_chunk_mut.ensures.cases) c.in-Some.marks.now c.in-Some.ensures.cases.same

pub returns-in_default-first_chunk_mut-clause-blank : goal.returns-in_default-first_chunk_mut-clause-blank
returns-in_default-first_chunk_mut-clause-blank c =
    given_whole (enough max_edge c.args.marks.now c.args.line.now) (line_for max_edge) (pos 0) c.args.line.now
    (line_short max_edge c.args.marks.now c.args.line.now c.in_default-first_chunk_mut.ensures.cases)

pub returns : goal.returns
returns c =
    let b = c.args.bytes.now in
    let m = c.args.marks.now in
    let l = c.args.line.now in
    let rs = c.args.sheet.now.rows.at.now in
    let i = c.in-Some.ensures.cases in
    let j = c.in-Some-first_chunk_mut.ensures.cases in
    let e : enough max_edge m l ≡ true = enough_both max_edge m l i.enough j.enough in
    record {
      answer = c.read_within.ensures.answer ∙ ap (λ n. answered (sheet_verdict (leb slots n) b) tt) c.clear.ensures.length ∙ sym (ap (λ lent. answered (read_verdict lent (leb slots (length rs)) b) tt) e);
      read = c.read_within.ensures.read;
      length = c.read_within.ensures.length ∙ c.clear.ensures.length;
      zero = given_zero (enough max_edge m l) (marks_for max_edge) 0 m e c.in-Some.marks.now c.read_within.new.marks i.enough i.same c.read_within.ensures.zero;
      blank = given_zero (enough max_edge m l) (line_for max_edge) (pos 0) l e c.in-Some-first_chunk_mut.line.now c.read_within.new.line j.enough j.same c.read_within.ensures.blank;
    }
