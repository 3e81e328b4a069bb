use Rattle.std.proofs.Common.{true, sym, refl, ◌∙◌}
use Rattle.std.proofs.lemmas.Bool.{true≢false, false≢true}
use Rattle.halfedges.specs.View.{seen}
use Rattle.halfedges.specs.Rows.{lines_in}
use Rattle.table.specs.Tables.{fits_of}
use Rattle.halfedges.proofs.Asked.{told_cleave}
use Rattle.table.proofs.Kept.{cleavable, ends_somewhere, cleft_good, same_frame}
use Rattle.table.proofs.TableStore.cleave.Goals as goal

pub returns-then-not-may_cleave : goal.returns-then-not-may_cleave
returns-then-not-may_cleave c = record {
  told = told_cleave (lines_in (seen c.args.self.now.rows.at.now)) (fits_of c.args.self.now.rows.at.now) c.args.edge c.args.east c.args.at c.has_room-fits.result _ c.if-not-may_cleave.ensures (c.has_room-fits.ensures c.args.at c.args.at);
  changed = λ t. absurd (false≢true t);
  framed = λ t. absurd (false≢true t);
  kept = λ _. refl;
}

pub returns-in_default : goal.returns-in_default
returns-in_default c =
    let a = c.args in
    let rs = a.self.now.rows.at.now in
    absurd (ends_somewhere rs a.self.now.ok a.edge a.east a.at c.has_room-fits.result c.if-not-may_cleave.ensures (c.has_room-fits.ensures a.at a.at) (sym c.east_end.ensures ∙ c.in_default.is))

pub cleave_edge-requires : goal.cleave_edge-requires
cleave_edge-requires c =
    let a = c.args in
    let rs = a.self.now.rows.at.now in
    let h = cleavable rs a.self.now.ok a.edge a.east a.at c.in-Some.to c.has_room-fits.result c.if-not-may_cleave.ensures (c.has_room-fits.ensures a.at a.at) (sym c.east_end.ensures ∙ c.in-Some.is) in
    record { core = h.good.core; cuts = h.cuts; room = h.room }

pub invariant_of-self : goal.invariant_of-self
invariant_of-self c =
    let a = c.args in
    let rs = a.self.now.rows.at.now in
    let h = cleavable rs a.self.now.ok a.edge a.east a.at c.in-Some.to c.has_room-fits.result c.if-not-may_cleave.ensures (c.has_room-fits.ensures a.at a.at) (sym c.east_end.ensures ∙ c.in-Some.is) in
    let e = c.cleave_edge.ensures in
    record { ok = ∣ (λ _. cleft_good rs _ h.good a.edge a.east a.at h.cuts.low h.cuts.high h.cuts.new e.lines e.core e.used) ∣₁ }

pub returns : goal.returns
returns c = record {
  told = told_cleave (lines_in (seen c.args.self.now.rows.at.now)) (fits_of c.args.self.now.rows.at.now) c.args.edge c.args.east c.args.at c.has_room-fits.result true c.if-not-may_cleave.ensures (c.has_room-fits.ensures c.args.at c.args.at);
  changed = λ _. c.cleave_edge.ensures.lines;
  framed = λ _.
      let a = c.args in
      let rs = a.self.now.rows.at.now in
      let h = cleavable rs a.self.now.ok a.edge a.east a.at c.in-Some.to c.has_room-fits.result c.if-not-may_cleave.ensures (c.has_room-fits.ensures a.at a.at) (sym c.east_end.ensures ∙ c.in-Some.is) in
      same_frame rs _ h.good.core.long c.cleave_edge.ensures.core;
  kept = λ f. absurd (true≢false f);
}
