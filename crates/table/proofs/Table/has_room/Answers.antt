use Rattle.std.proofs.Common.{◌∙◌, rules}
use Rattle.turning.specs.Limits.{max_edge}
use Rattle.halfedges.proofs.EdgeCount.{edges_are}
use Rattle.table.specs.Tables.{lawful_of}
use Rattle.table.proofs.Table.has_room.Goals as goal

pub returns-then-is_long : goal.returns-then-is_long
returns-then-is_long c =
    let edges = c.count_edges.ensures ∙ edges_are max_edge _ (lawful_of c.args.self.now.rows.at.now c.args.self.now.ok) in
    search rules
