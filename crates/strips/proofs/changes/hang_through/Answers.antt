use Rattle.std.proofs.Common.{◌≡◌, ℕ, ◌+◌, ℤ, pos, neg_ℤ, ap, ◌∙◌, ap₂, subst₂, w32, SFits, rules}
use Rattle.std.proofs.lemmas.Int.{to_z-of_z}
use Rattle.flat.specs.Orbits.{indicator}
use Rattle.turning.specs.Limits.{slots}
use Rattle.chart.specs.Changes.{at}
use Rattle.halfedges.specs.View.{seen}
use Rattle.halfedges.specs.Rows.{strips_of, same_place, slot_count}
use Rattle.strips.specs.Borders.{strip_of}
use Rattle.strips.proofs.Keeping.{hang_room₀, hang_here₁, hang_eastward₁, hang_room₁, hang_lines, hang_stripped}
use Rattle.strips.proofs.changes.hang_through.Goals as goal

pub hang_edge-requires : goal.hang_edge-requires
hang_edge-requires c =
    let p = c.requires in
    let a = c.args in
    record { core = p.stripped.core; ends = p.ends; room = hang_room₀ a.borders.now.items a.rows.now.at.now p.stripped a.edge a.start a.end p.ends p.room }

pub plant_edge-requires : goal.plant_edge-requires
plant_edge-requires c =
    let p = c.requires in
    let a = c.args in
    let bs = a.borders.now.items in
    let rs = a.rows.now.at.now in
    let rs₁ = c.hang_edge.new.rows.at.now in
    let h = c.hang_edge.ensures in
    let fa : SFits w32 a.start.point.x = search rules in
    let fb : SFits w32 a.end.point.x = search rules in
    let west : c.strip_of-west.result ≡ strip_of bs a.start.point.x = c.strip_of-west.ensures ∙ ap (strip_of bs) (to_z-of_z w32 _ fa) in
    let east : c.strip_of-east.result ≡ strip_of bs a.end.point.x = c.strip_of-east.ensures ∙ ap (strip_of bs) (to_z-of_z w32 _ fb) in
    let strips₁ : strips_of (seen rs₁) ≡ at (neg_ℤ (pos a.edge)) (strip_of bs a.end.point.x) (at (pos a.edge) (strip_of bs a.start.point.x) (strips_of (seen rs))) =
    h.strips ∙ ap₂ (λ x y. at (neg_ℤ (pos a.edge)) y (at (pos a.edge) x (strips_of (seen rs)))) west east in
    record {
      core = h.core;
      here = hang_here₁ bs rs p.stripped a.edge a.start a.end p.ends p.room rs₁ h.lines strips₁ h.used;
      eastward = hang_eastward₁ bs rs p.stripped a.edge a.start a.end p.ends p.room rs₁ h.lines strips₁ h.used;
      room = hang_room₁ bs rs p.stripped a.edge a.start a.end p.ends p.room rs₁ h.lines strips₁ h.used;
    }

pub returns : goal.returns
returns c =
    let p = c.requires in
    let a = c.args in
    let bs = a.borders.now.items in
    let rs = a.rows.now.at.now in
    let rs₁ = c.hang_edge.new.rows.at.now in
    let rs₂ = c.plant_edge.new.rows in
    let h = c.hang_edge.ensures in
    let g = c.plant_edge.ensures in
    let fa : SFits w32 a.start.point.x = search rules in
    let fb : SFits w32 a.end.point.x = search rules in
    let west : c.strip_of-west.result ≡ strip_of bs a.start.point.x = c.strip_of-west.ensures ∙ ap (strip_of bs) (to_z-of_z w32 _ fa) in
    let east : c.strip_of-east.result ≡ strip_of bs a.end.point.x = c.strip_of-east.ensures ∙ ap (strip_of bs) (to_z-of_z w32 _ fb) in
    let strips₁ : strips_of (seen rs₁) ≡ at (neg_ℤ (pos a.edge)) (strip_of bs a.end.point.x) (at (pos a.edge) (strip_of bs a.start.point.x) (strips_of (seen rs))) =
    h.strips ∙ ap₂ (λ x y. at (neg_ℤ (pos a.edge)) y (at (pos a.edge) x (strips_of (seen rs)))) west east in
    let counted₁ = subst₂ (λ x y. (i : ℕ) (n : ℤ) → (n ≡ pos 0 → ⊥) → slot_count slots (seen rs₁) i n ≡ indicator (same_place y (neg_ℤ (pos a.edge)) i n) + (indicator (same_place x (pos a.edge) i n) + slot_count slots (seen rs) i n)) west east h.counted in
    record {
      stripped = hang_stripped bs rs p.stripped a.edge a.start a.end p.ends p.room rs₁ h.lines strips₁ h.used counted₁ h.unlinked rs₂ g.core g.planted g.unlinked;
      lines = hang_lines bs rs p.stripped a.edge a.start a.end p.ends p.room rs₁ h.lines strips₁ h.used counted₁ h.unlinked rs₂ g.core g.planted g.unlinked;
    }
