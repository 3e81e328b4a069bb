use Rattle.std.proofs.Common.{◌∙◌, arith}
use Rattle.turning.specs.Limits.{max_edge, slots}
use Rattle.chart.specs.Linework.{lines_of}
use Rattle.halfedges.specs.View.{seen}
use Rattle.halfedges.proofs.Copying.{copied_lines, copied_indexed, copied_sound, copied_used, copied_homes, copied_each}
use Rattle.halfedges.proofs.copy.copy_chart.Goals as goal

pub returns : goal.returns
returns g c =
    let chart = c.args.chart.now in
    let lines = lines_of g.C.Turning.turn g.C.Chart.points chart in
    let lawful = g.C.Turning.lawful chart in
    let placed = c.placed.ensures in
    let v = seen c.copy_edges.new.rows in
    let copied = c.copy_edges.ensures in
    record {
      lines = copied_lines max_edge slots lines lawful placed _ c.requires.room v copied;
      core = record {
        long = omega arith;
        indexed = copied_indexed max_edge slots lines lawful placed _ c.requires.room v copied;
        sound = copied_sound max_edge slots lines lawful placed _ c.requires.room v copied;
      };
      used = copied_used max_edge slots lines lawful placed _ c.requires.room v copied;
      homes = copied_homes max_edge slots lines lawful placed _ c.requires.room v copied;
      each = copied_each max_edge slots lines lawful placed _ c.requires.room v copied;
      length = c.copy_edges.auto.rows ∙ c.free_all.auto.rows;
    }
