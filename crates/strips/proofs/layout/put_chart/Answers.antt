use Rattle.std.proofs.Common.{◌<◌, ◌≤◌, length, sym, refl, subst, arith}
use Rattle.std.proofs.lemmas.Bool.{leb-true}
use Rattle.turning.specs.Limits.{max_edge, slots}
use Rattle.chart.specs.Linework.{lines_of}
use Rattle.strips.specs.Borders.{slots_taken}
use Rattle.strips.proofs.Laying.{short_laid, long_room, is_short}
use Rattle.strips.proofs.layout.put_chart.Goals as goal

pub returns-else-is_long : goal.returns-else-is_long
returns-else-is_long g c =
    let short : length c.args.rows.now.at.now < slots = is_short c.args.rows.now.at.now (sym c.if-is_long.ensures) in
    record {
      kept = λ long. absurd (omega arith);
      lines = short_laid c.args.borders.now.items (lines_of g.C.Turning.turn g.C.Chart.points c.args.chart.now) c.args.rows.now.at.now (g.C.Turning.lawful c.args.chart.now) c.placed.ensures short c.requires.room;
      length = refl;
    }

pub fill-requires : goal.fill-requires
fill-requires g c =
    let long : slots ≤ length c.args.rows.now.at.now = leb-true _ _ (sym c.if-is_long.ensures) in
    let l = lines_of g.C.Turning.turn g.C.Chart.points c.args.chart.now in
    record { long = long; room = subst (λ r. slots_taken c.args.borders.now.items l max_edge ≤ r) (long_room c.args.rows.now.at.now long) c.requires.room }
