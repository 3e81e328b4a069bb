use Rattle.strips.proofs.Lifting.{held_eastward, held_there, gone_here, lift_lines, lift_stripped}
use Rattle.strips.proofs.changes.lift_through.Goals as goal

pub uproot_edge-requires : goal.uproot_edge-requires
uproot_edge-requires c =
    let p = c.requires in
    let a = c.args in
    let bs = a._borders.now.items in
    let rs = a.rows.now.at.now in
    record {
      core = p.stripped.core;
      here = p.here;
      eastward = held_eastward bs rs p.stripped a.edge p.here;
      there = held_there bs rs p.stripped a.edge p.here;
    }

pub lift_edge-requires : goal.lift_edge-requires
lift_edge-requires c =
    let p = c.requires in
    let a = c.args in
    let u = c.uproot_edge.ensures in
    record { core = u.core; here = gone_here a._borders.now.items a.rows.now.at.now p.stripped a.edge p.here c.uproot_edge.new.rows u.planted }

pub returns : goal.returns
returns c =
    let p = c.requires in
    let a = c.args in
    let bs = a._borders.now.items in
    let rs = a.rows.now.at.now in
    let rs₁ = c.uproot_edge.new.rows in
    let rs₂ = c.lift_edge.new.rows.at.now in
    let u = c.uproot_edge.ensures in
    let f = c.lift_edge.ensures in
    record {
      stripped = lift_stripped bs rs p.stripped a.edge p.here rs₁ u.planted u.unlinked rs₂ f.core f.lines f.used f.strips f.counted f.unlinked;
      lines = lift_lines bs rs p.stripped a.edge p.here rs₁ u.planted u.unlinked rs₂ f.core f.lines f.used f.strips f.counted f.unlinked;
    }
