use Rattle.std.proofs.Common.{◌*◌, leb, ap, ◌∙◌}
use Rattle.std.proofs.lemmas.Bool.{le-leb}
use Rattle.turning.specs.Limits.{max_edge}
use Rattle.halfedges.specs.View.{seen}
use Rattle.halfedges.specs.Rows.{turn_of, edge_count}
use Rattle.strips.proofs.Laying.{long_room, sheet_edges, short_merged}
use Rattle.strips.proofs.Standing.{kept_sound}
use Rattle.strips.proofs.sheet.Sheet.merge.Goals as goal

pub returns : goal.returns
returns c =
    let s = c.args.self.now in
    let rs = s.rows.at.now in
    let ts = c.args.table.now.rows.at.now in
    let edges = edge_count max_edge (turn_of (seen rs)) in
    let told = c.take_over.ensures.told in
    record {
      merged = λ long. c.take_over.ensures.taken (told ∙ ap (leb (2 * edges)) (long_room ts long) ∙ le-leb _ _ (sheet_edges s.borders.items rs s.ok));
      left = λ short. short_merged rs ts _ c.take_over.result (kept_sound s.borders.items rs s.ok) short told c.take_over.ensures.taken c.take_over.ensures.left;
    }
