use Rattle.std.proofs.Common.{true, refl, ◌∙◌, ap₂}
use Rattle.std.proofs.lemmas.Bool.{true≢false, false≢true}
use Rattle.halfedges.specs.View.{seen}
use Rattle.halfedges.specs.Rows.{lines_in, hung_between}
use Rattle.table.specs.Tables.{fits_of}
use Rattle.halfedges.proofs.Asked.{told_hang}
use Rattle.table.proofs.Kept.{hangable, hung_good, same_frame}
use Rattle.table.proofs.TableStore.hang.Goals as goal

pub returns-then-not-may_hang : goal.returns-then-not-may_hang
returns-then-not-may_hang c = record {
  told = told_hang (lines_in (seen c.args.self.now.rows.at.now)) (fits_of c.args.self.now.rows.at.now) c.args.edge c.args.a c.args.b c.has_room-fits.result _ c.if-not-may_hang.ensures (c.has_room-fits.ensures c.args.a.point c.args.b.point);
  changed = λ t. absurd (false≢true t);
  framed = λ t. absurd (false≢true t);
  kept = λ _. refl;
}

pub hang_edge-requires : goal.hang_edge-requires
hang_edge-requires c =
    let a = c.args in
    let rs = a.self.now.rows.at.now in
    let w = c.west_to_east in
    let h = hangable rs a.self.now.ok a.edge a.a a.b w.result c.has_room-fits.result c.if-not-may_hang.ensures (c.has_room-fits.ensures a.a.point a.b.point) w.ensures.west w.ensures.east in
    record { core = h.good.core; ends = h.ends; room = h.room }

pub invariant_of-self : goal.invariant_of-self
invariant_of-self c =
    let a = c.args in
    let rs = a.self.now.rows.at.now in
    let w = c.west_to_east in
    let h = hangable rs a.self.now.ok a.edge a.a a.b w.result c.has_room-fits.result c.if-not-may_hang.ensures (c.has_room-fits.ensures a.a.point a.b.point) w.ensures.west w.ensures.east in
    let e = c.hang_edge.ensures in
    record { ok = ∣ (λ _. hung_good rs _ h.good a.edge w.result.0 w.result.1 h.ends.low h.ends.high h.ends.new e.lines e.core e.used) ∣₁ }

pub returns : goal.returns
returns c = record {
  told = told_hang (lines_in (seen c.args.self.now.rows.at.now)) (fits_of c.args.self.now.rows.at.now) c.args.edge c.args.a c.args.b c.has_room-fits.result true c.if-not-may_hang.ensures (c.has_room-fits.ensures c.args.a.point c.args.b.point);
  changed = λ _. c.hang_edge.ensures.lines ∙ ap₂ (λ x y. hung_between c.args.edge x y (lines_in (seen c.args.self.now.rows.at.now))) c.west_to_east.ensures.west c.west_to_east.ensures.east;
  framed = λ _.
      let a = c.args in
      let rs = a.self.now.rows.at.now in
      let w = c.west_to_east in
      let h = hangable rs a.self.now.ok a.edge a.a a.b w.result c.has_room-fits.result c.if-not-may_hang.ensures (c.has_room-fits.ensures a.a.point a.b.point) w.ensures.west w.ensures.east in
      same_frame rs _ h.good.core.long c.hang_edge.ensures.core;
  kept = λ f. absurd (true≢false f);
}
