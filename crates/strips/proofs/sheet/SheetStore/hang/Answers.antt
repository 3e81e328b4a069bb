use Rattle.std.proofs.Common.{true, ◌∙◌, ap₂}
use Rattle.std.proofs.lemmas.Bool.{true≢false}
use Rattle.halfedges.specs.View.{seen}
use Rattle.halfedges.specs.Rows.{lines_in, hung_between}
use Rattle.strips.specs.Sheets.{fits_of}
use Rattle.halfedges.proofs.Asked.{told_hang}
use Rattle.strips.proofs.Standing.{hangable, same_frame}
use Rattle.strips.proofs.sheet.SheetStore.hang.Goals as goal

pub hang_through-requires : goal.hang_through-requires
hang_through-requires c =
    let a = c.args in
    let s = a.self.now in
    let bs = s.borders.items in
    let rs = s.rows.at.now in
    let w = c.west_to_east in
    let h = hangable bs rs s.ok a.edge a.a a.b w.result c.has_room-fits.result c.if-not-may_hang.ensures c.has_room-fits.ensures w.ensures.west w.ensures.east in
    record { stripped = h.stripped; ends = h.ends; room = h.room }

pub returns : goal.returns
returns c = record {
  told = told_hang (lines_in (seen c.args.self.now.rows.at.now)) (fits_of c.args.self.now.borders.items c.args.self.now.rows.at.now) c.args.edge c.args.a c.args.b c.has_room-fits.result true c.if-not-may_hang.ensures c.has_room-fits.ensures;
  changed = λ _. c.hang_through.ensures.lines ∙ ap₂ (λ x y. hung_between c.args.edge x y (lines_in (seen c.args.self.now.rows.at.now))) c.west_to_east.ensures.west c.west_to_east.ensures.east;
  framed = λ _.
      let a = c.args in
      let s = a.self.now in
      let bs = s.borders.items in
      let rs = s.rows.at.now in
      let w = c.west_to_east in
      let h = hangable bs rs s.ok a.edge a.a a.b w.result c.has_room-fits.result c.if-not-may_hang.ensures c.has_room-fits.ensures w.ensures.west w.ensures.east in
      same_frame bs rs _ h.stripped.core.long c.hang_through.ensures.stripped;
  kept = λ f. absurd (true≢false f);
}
