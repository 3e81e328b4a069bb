use Rattle.std.proofs.Common.{◌≡◌, true, false, pos, sym, ◌∙◌, w16}
use Rattle.std.proofs.lemmas.Int.{to_z-of_z}
use Rattle.std.proofs.lemmas.Bool.{cond-true, cond-false}
use Rattle.turning.specs.Limits.{max_edge, marks_for, line_for}
use Rattle.search.specs.Buffers.{enough}
use Rattle.search.proofs.Buffers.{enough_both, line_short, given_zero, given_same, given_whole}
use Rattle.questions.proofs.pieces.same_piece.Goals as goal

pub returns-in_default-first_chunk_mut-clause-answer : goal.returns-in_default-first_chunk_mut-clause-answer
returns-in_default-first_chunk_mut-clause-answer g c =
    sym (cond-false (enough max_edge c.args.marks.now c.args.line.now) _ _ (line_short max_edge c.args.marks.now c.args.line.now c.in_default-first_chunk_mut.ensures.cases))

pub returns-in_default-first_chunk_mut-clause-zero : goal.returns-in_default-first_chunk_mut-clause-zero
returns-in_default-first_chunk_mut-clause-zero g c =
    given_same (enough max_edge c.args.marks.now c.args.line.now) (marks_for max_edge) 0 c.args.marks.now
    (line_short max_edge c.args.marks.now c.args.line.now c.in_default-first_chunk_mut.ensures.cases) c.in-Some.marks.now c.in-Some.ensures.cases.same

pub returns-in_default-first_chunk_mut-clause-empty : goal.returns-in_default-first_chunk_mut-clause-empty
returns-in_default-first_chunk_mut-clause-empty g c =
    given_whole (enough max_edge c.args.marks.now c.args.line.now) (line_for max_edge) (pos 0) c.args.line.now
    (line_short max_edge c.args.marks.now c.args.line.now c.in_default-first_chunk_mut.ensures.cases)

pub returns-clause-answer : goal.returns-clause-answer
returns-clause-answer g c =
    let bh = to_z-of_z w16 c.args.h c.ranges.h in
    let bk = to_z-of_z w16 c.args.k c.ranges.k in
    let e : enough max_edge c.args.marks.now c.args.line.now ≡ true =
    enough_both max_edge c.args.marks.now c.args.line.now c.in-Some.ensures.cases.enough c.in-Some-first_chunk_mut.ensures.cases.enough in
    (simp (bh, bk) at c.same_piece_within.ensures.answer) ∙ sym (cond-true (enough max_edge c.args.marks.now c.args.line.now) _ _ e)

pub returns-clause-zero : goal.returns-clause-zero
returns-clause-zero g c =
    let part = c.in-Some.ensures.cases in
    let e : enough max_edge c.args.marks.now c.args.line.now ≡ true = enough_both max_edge c.args.marks.now c.args.line.now part.enough c.in-Some-first_chunk_mut.ensures.cases.enough in
    given_zero (enough max_edge c.args.marks.now c.args.line.now) (marks_for max_edge) 0 c.args.marks.now e c.in-Some.marks.now c.same_piece_within.new.marks part.enough part.same c.same_piece_within.ensures.zero

pub returns-clause-empty : goal.returns-clause-empty
returns-clause-empty g c =
    let part = c.in-Some-first_chunk_mut.ensures.cases in
    let e : enough max_edge c.args.marks.now c.args.line.now ≡ true = enough_both max_edge c.args.marks.now c.args.line.now c.in-Some.ensures.cases.enough part.enough in
    given_zero (enough max_edge c.args.marks.now c.args.line.now) (line_for max_edge) (pos 0) c.args.line.now e c.in-Some-first_chunk_mut.line.now c.same_piece_within.new.line part.enough part.same c.same_piece_within.ensures.empty
