use Rattle.std.proofs.Common.{◌≡◌, ◌∙◌, w16}
use Rattle.flat.proofs.Basics.{not_T_false}
use Rattle.std.proofs.lemmas.Int.{to_z-of_z}
use Rattle.turning.specs.Limits.{max_edge}
use Rattle.search.specs.Marks.{marked, Spreads, piece_steps}
use Rattle.search.proofs.Floods.{clean_marks}
use Rattle.search.proofs.Marking.{held_within, clean_closed, unmarked_clean}
use Rattle.search.proofs.pieces.is_joined.Goals as goal

pub mark_piece-requires-clause-unmarked : goal.mark_piece-requires-clause-unmarked
mark_piece-requires-clause-unmarked g c =
    let bh = to_z-of_z w16 c.args.h c.ranges.h in
    let m = c.args.marks.now in
    simp bh (not_T_false (marked max_edge m c.args.h) (unmarked_clean max_edge m c.args.h c.requires.clean))

pub mark_piece-requires-clause-closed : goal.mark_piece-requires-clause-closed
mark_piece-requires-clause-closed g c =
    let t = g.T.Turning.turn c.args.t.now in
    clean_closed max_edge t (piece_steps t) c.args.marks.now c.requires.clean

pub is_marked-requires : goal.is_marked-requires
is_marked-requires g c =
    let t = g.T.Turning.turn c.args.t.now in
    let bk = to_z-of_z w16 c.args.k c.ranges.k in
    simp bk (held_within max_edge t (g.T.Turning.lawful c.args.t.now) c.args.k c.requires.end)

pub returns : goal.returns
returns g c =
    let t = g.T.Turning.turn c.args.t.now in
    let bh = to_z-of_z w16 c.args.h c.ranges.h in
    let bk = to_z-of_z w16 c.args.k c.ranges.k in
    let s : Spreads max_edge t (piece_steps t) c.args.h c.args.marks.now c.mark_piece.new.marks = simp bh at c.mark_piece.ensures in
    let r : c.is_marked.result ≡ marked max_edge c.mark_piece.new.marks c.args.k = simp bk at c.is_marked.ensures in
    r ∙ clean_marks max_edge t (g.T.Turning.lawful c.args.t.now) c.args.h c.requires.start c.args.marks.now c.mark_piece.new.marks c.args.k c.requires.end c.requires.clean s
