use Rattle.std.proofs.Common.{◌≡◌, Err, true, false, pos, sym, ap, ◌∙◌}
use Rattle.turning.specs.Limits.{max_edge, marks_for, line_for}
use Rattle.search.specs.Buffers.{enough}
use Rattle.search.proofs.Buffers.{enough_both, line_short, given_zero, given_same, given_whole}
use Rattle.file.specs.declared.fault.Layer.TheVariants.{Call}
use Rattle.file.specs.Faults.{told_fault}
use Rattle.file.specs.Numbers.{call_number}
use Rattle.file.specs.Places.{answered}
use Rattle.judge.specs.Judging.{verdict_by}
use Rattle.judge.proofs.judge.Goals as goal

pub returns-in_default-first_chunk_mut : goal.returns-in_default-first_chunk_mut
returns-in_default-first_chunk_mut c =
    let m = c.args.marks.now in
    let l = c.args.line.now in
    let e : enough max_edge m l ≡ false = line_short max_edge m l c.in_default-first_chunk_mut.ensures.cases in
    record {
      answer = ap Err (c.from-short.ensures ∙ ap (told_fault Call call_number) c.new.ensures) ∙ sym (ap (λ b. answered (verdict_by b c.args.bytes.now) tt) e);
      zero = given_same (enough max_edge m l) (marks_for max_edge) 0 m e c.in-Some.marks.now c.in-Some.ensures.cases.same;
      empty = given_whole (enough max_edge m l) (line_for max_edge) (pos 0) l e;
    }

pub returns : goal.returns
returns c =
    let m = c.args.marks.now in
    let l = c.args.line.now in
    let i = c.in-Some.ensures.cases in
    let j = c.in-Some-first_chunk_mut.ensures.cases in
    let e : enough max_edge m l ≡ true = enough_both max_edge m l i.enough j.enough in
    record {
      answer = c.judge_within.ensures.answer ∙ sym (ap (λ b. answered (verdict_by b c.args.bytes.now) tt) e);
      zero = given_zero (enough max_edge m l) (marks_for max_edge) 0 m e c.in-Some.marks.now c.judge_within.new.marks i.enough i.same c.judge_within.ensures.zero;
      empty = given_zero (enough max_edge m l) (line_for max_edge) (pos 0) l e c.in-Some-first_chunk_mut.line.now c.judge_within.new.line j.enough j.same c.judge_within.ensures.empty;
    }
