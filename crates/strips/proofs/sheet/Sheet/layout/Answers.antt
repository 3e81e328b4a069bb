use Rattle.std.proofs.Common.{◌≡◌, ap, ◌∙◌, arith}
use Rattle.turning.specs.Limits.{max_edge}
use Rattle.chart.specs.Linework.{lines_of}
use Rattle.strips.specs.Borders.{rising, slots_taken}
use Rattle.strips.specs.Sheets.{room_of}
use Rattle.strips.proofs.Laying.{passed, all_yes}
use Rattle.strips.proofs.sheet.Sheet.layout.Goals as goal

pub invariant_of-self : goal.invariant_of-self
invariant_of-self g c =
    let p = passed c.args.borders.now c.in_ok-cut.cut.items c.in_ok-cut.ensures in
    record { ok = ∣ c.put_chart.ensures.kept ∣₁; rises = ap rising p.0 ∙ p.2 }

pub returns : goal.returns
returns g c =
    let bs = c.args.borders.now in
    let rs = c.args.self.now.rows.at.now in
    let l = lines_of g.C.Turning.turn g.C.Chart.points c.args.chart.now in
    let p = passed bs c.in_ok-cut.cut.items c.in_ok-cut.ensures in
    let needed : c.slots_needed.result ≡ slots_taken bs l max_edge = c.slots_needed.ensures ∙ ap (λ x. slots_taken x l max_edge) p.0 in
    record {
      answer = all_yes bs l (room_of rs) p.1 p.2 (omega (arith, needed, c.slot_count.ensures, c.if-slots_needed-slot_count.false));
      laid = (p.0, c.put_chart.ensures.lines);
      length = c.put_chart.ensures.length;
    }
