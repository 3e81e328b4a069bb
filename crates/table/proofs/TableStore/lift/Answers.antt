use Rattle.std.proofs.Common.{sym, rules}
use Rattle.turning.specs.Limits.{max_edge, slots}
use Rattle.halfedges.proofs.Meaning.{held_long}
use Rattle.table.proofs.Kept.{kept_out, lifted_good, same_frame}
use Rattle.table.proofs.TableStore.lift.Goals as goal

pub lift_edge-requires : goal.lift_edge-requires
lift_edge-requires c =
    let rs = c.args.self.now.rows.at.now in
    let here = sym c.if-not-holds_edge.ensures in
    record { core = (kept_out rs c.args.self.now.ok (held_long max_edge slots rs _ here)).core; here = here }

pub invariant_of-self : goal.invariant_of-self
invariant_of-self c =
    let rs = c.args.self.now.rows.at.now in
    let here = sym c.if-not-holds_edge.ensures in
    let e = c.lift_edge.ensures in
    record { ok = ∣ (λ _. lifted_good rs _ (kept_out rs c.args.self.now.ok (held_long max_edge slots rs _ here)) c.args.edge here e.lines e.core e.used) ∣₁ }

pub returns : goal.returns
returns c = record {
  told = search rules;
  changed = search rules;
  framed = λ _.
      let rs = c.args.self.now.rows.at.now in
      let here = sym c.if-not-holds_edge.ensures in
      same_frame rs _ (held_long max_edge slots rs _ here) c.lift_edge.ensures.core;
  kept = search rules;
}
