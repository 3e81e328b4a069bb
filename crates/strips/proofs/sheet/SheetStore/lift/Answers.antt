use Rattle.std.proofs.Common.{sym, rules}
use Rattle.turning.specs.Limits.{max_edge, slots}
use Rattle.halfedges.proofs.Meaning.{held_long}
use Rattle.strips.proofs.Standing.{kept_out, same_frame}
use Rattle.strips.proofs.sheet.SheetStore.lift.Goals as goal

pub lift_through-requires : goal.lift_through-requires
lift_through-requires c =
    let s = c.args.self.now in
    let here = sym c.if-not-holds_edge.ensures in
    record { stripped = kept_out s.borders.items s.rows.at.now s.ok (held_long max_edge slots s.rows.at.now _ here); here = here }

pub returns : goal.returns
returns c = record {
  told = search rules;
  changed = search rules;
  framed = λ _.
      let s = c.args.self.now in
      let rs = s.rows.at.now in
      let here = sym c.if-not-holds_edge.ensures in
      same_frame s.borders.items rs _ (held_long max_edge slots rs _ here) c.lift_through.ensures.stripped;
  kept = search rules;
}
