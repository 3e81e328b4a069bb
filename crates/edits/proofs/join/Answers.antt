use Rattle.std.proofs.Common.{◌≡◌, true, false, pos, Err, sym, refl, w16}
use Rattle.std.proofs.lemmas.Int.{to_z-of_z}
use Rattle.std.proofs.lemmas.Bool.{cond-false}
use Rattle.turning.specs.Limits.{max_edge, marks_for, line_for}
use Rattle.turning.specs.declared.refusal.Refusal.TheVariants.{ShortBuffers}
use Rattle.search.specs.Buffers.{enough}
use Rattle.search.proofs.Buffers.{enough_both, line_short, given_zero, given_same, given_whole}
use Rattle.chart.specs.Stores.{meant}
use Rattle.laws.specs.Keeps.{Sound}
use Rattle.edits.specs.Edits.{joins, Done}
use Rattle.edits.proofs.Tables.{join_whole}
use Rattle.edits.proofs.Keeping.{keeps_flat, judges}
use Rattle.edits.proofs.join.Goals as goal

pub returns : goal.returns
returns g c =
    let m = meant g.S.Turning.turn g.S.Chart.points g.S.Store.frame g.S.Store.fits in
    let x = c.args.store.now in
    let ms = c.args.marks.now in
    let ls = c.args.line.now in
    let i = c.in-Some.ensures.cases in
    let j = c.in-Some-first_chunk_mut.ensures.cases in
    let long : enough max_edge ms ls ≡ true = enough_both max_edge ms ls i.enough j.enough in
    let e = joins c.args.edge c.args.c c.args.d ms ls in
    let sound : Sound max_edge (m x).lines = (g.S.Turning.lawful x, c.placed.ensures) in
    let done : Done max_edge (m x) e c.join_within.result (m c.join_within.new.store) =
    join_whole max_edge (m x) (m c.join_within.new.store) c.args.edge c.args.c c.args.d _ _
    (to_z-of_z w16 c.args.c c.ranges.c) (to_z-of_z w16 c.args.d c.ranges.d) ms ls long c.join_within.result c.join_within.ensures.done in
    record {
      done = done;
      flat = keeps_flat max_edge (m x) sound _ e _ done;
      judged = judges max_edge (m x) sound _ e _ done;
      zero = given_zero (enough max_edge ms ls) (marks_for max_edge) 0 ms long c.in-Some.marks.now c.join_within.new.marks i.enough i.same c.join_within.ensures.zero;
      empty = given_zero (enough max_edge ms ls) (line_for max_edge) (pos 0) ls long c.in-Some-first_chunk_mut.line.now c.join_within.new.line j.enough j.same c.join_within.ensures.empty;
    }

pub returns-in_default-first_chunk_mut : goal.returns-in_default-first_chunk_mut
returns-in_default-first_chunk_mut g c =
    let m = meant g.S.Turning.turn g.S.Chart.points g.S.Store.frame g.S.Store.fits in
    let x = c.args.store.now in
    let ms = c.args.marks.now in
    let ls = c.args.line.now in
    let e = joins c.args.edge c.args.c c.args.d ms ls in
    let sound : Sound max_edge (m x).lines = (g.S.Turning.lawful x, c.placed.ensures) in
    let short : enough max_edge ms ls ≡ false = line_short max_edge ms ls c.in_default-first_chunk_mut.ensures.cases in
    let done : Done max_edge (m x) e (Err ShortBuffers) (m x) = record { told = sym (cond-false (enough max_edge ms ls) _ _ short); changed = refl } in
    record {
      done = done;
      flat = λ f. f;
      judged = judges max_edge (m x) sound (m x) e (Err ShortBuffers) done;
      zero = given_same (enough max_edge ms ls) (marks_for max_edge) 0 ms short c.in-Some.marks.now c.in-Some.ensures.cases.same;
      empty = given_whole (enough max_edge ms ls) (line_for max_edge) (pos 0) ls short;
    }
