use Rattle.std.proofs.Common.{true, sym, ◌∙◌}
use Rattle.std.proofs.lemmas.Bool.{true≢false}
use Rattle.halfedges.specs.View.{seen}
use Rattle.halfedges.specs.Rows.{lines_in}
use Rattle.strips.specs.Sheets.{fits_of}
use Rattle.halfedges.proofs.Asked.{told_cleave}
use Rattle.strips.proofs.Standing.{cleavable, ends_somewhere, same_frame}
use Rattle.strips.proofs.sheet.SheetStore.cleave.Goals as goal

pub returns-in_default : goal.returns-in_default
returns-in_default c =
    let a = c.args in
    let s = a.self.now in
    let bs = s.borders.items in
    let rs = s.rows.at.now in
    absurd (ends_somewhere bs rs s.ok a.edge a.east a.at c.has_room-fits.result c.if-not-may_cleave.ensures c.has_room-fits.ensures (sym c.east_end.ensures ∙ c.in_default.is))

pub cleave_through-requires : goal.cleave_through-requires
cleave_through-requires c =
    let a = c.args in
    let s = a.self.now in
    let bs = s.borders.items in
    let rs = s.rows.at.now in
    let h = cleavable bs rs s.ok a.edge a.east a.at c.in-Some.to c.has_room-fits.result c.if-not-may_cleave.ensures c.has_room-fits.ensures (sym c.east_end.ensures ∙ c.in-Some.is) in
    record { stripped = h.stripped; cuts = h.cuts; room = h.room }

pub returns : goal.returns
returns c = record {
  told = told_cleave (lines_in (seen c.args.self.now.rows.at.now)) (fits_of c.args.self.now.borders.items c.args.self.now.rows.at.now) c.args.edge c.args.east c.args.at c.has_room-fits.result true c.if-not-may_cleave.ensures c.has_room-fits.ensures;
  changed = λ _. c.cleave_through.ensures.lines;
  framed = λ _.
      let a = c.args in
      let s = a.self.now in
      let bs = s.borders.items in
      let rs = s.rows.at.now in
      let h = cleavable bs rs s.ok a.edge a.east a.at c.in-Some.to c.has_room-fits.result c.if-not-may_cleave.ensures c.has_room-fits.ensures (sym c.east_end.ensures ∙ c.in-Some.is) in
      same_frame bs rs _ h.stripped.core.long c.cleave_through.ensures.stripped;
  kept = λ f. absurd (true≢false f);
}
