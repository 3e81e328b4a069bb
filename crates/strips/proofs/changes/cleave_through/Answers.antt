use Rattle.std.proofs.Common.{◌≡◌, ℕ, ◌+◌, ℤ, pos, neg_ℤ, ap, ◌∙◌, ap₂, subst₂, w32, SFits, rules}
use Rattle.std.proofs.lemmas.Int.{to_z-of_z}
use Rattle.flat.specs.Orbits.{indicator}
use Rattle.turning.specs.Limits.{slots}
use Rattle.chart.specs.Changes.{at}
use Rattle.halfedges.specs.View.{seen}
use Rattle.halfedges.specs.Rows.{strips_of, Unlinked, same_place, slot_count}
use Rattle.strips.specs.Borders.{strip_of}
use Rattle.strips.proofs.Lifting.{held_eastward, held_there}
use Rattle.strips.proofs.Cleaving.{cleave_cuts₁, cleave_room₁, cleave_here₂, cleave_eastward₂, cleave_room₂, cleave_here₃, cleave_eastward₃, cleave_room₃, cleave_lines, cleave_stripped}
use Rattle.strips.proofs.changes.cleave_through.Goals as goal

pub uproot_edge-requires : goal.uproot_edge-requires
uproot_edge-requires c =
    let p = c.requires in
    let a = c.args in
    let bs = a.borders.now.items in
    let rs = a.rows.now.at.now in
    record {
      core = p.stripped.core;
      here = p.cuts.here;
      eastward = held_eastward bs rs p.stripped a.edge p.cuts.here;
      there = held_there bs rs p.stripped a.edge p.cuts.here;
    }

pub cleave_edge-requires : goal.cleave_edge-requires
cleave_edge-requires c =
    let p = c.requires in
    let a = c.args in
    let bs = a.borders.now.items in
    let rs = a.rows.now.at.now in
    let u = c.uproot_edge.ensures in
    record {
      core = u.core;
      cuts = cleave_cuts₁ bs rs p.stripped a.edge a.east a.at a.to p.cuts p.room c.uproot_edge.new.rows u.planted;
      room = cleave_room₁ bs rs p.stripped a.edge a.east a.at a.to p.cuts p.room c.uproot_edge.new.rows u.planted;
    }

pub plant_edge-requires : goal.plant_edge-requires
plant_edge-requires c =
    let p = c.requires in
    let a = c.args in
    let bs = a.borders.now.items in
    let rs = a.rows.now.at.now in
    let rs₁ = c.uproot_edge.new.rows in
    let rs₂ = c.cleave_edge.new.rows.at.now in
    let u = c.uproot_edge.ensures in
    let f = c.cleave_edge.ensures in
    let fp : SFits w32 a.at.x = search rules in
    let fq : SFits w32 a.to.x = search rules in
    let middle : c.strip_of-middle.result ≡ strip_of bs a.at.x = c.strip_of-middle.ensures ∙ ap (strip_of bs) (to_z-of_z w32 _ fp) in
    let last : c.strip_of-last.result ≡ strip_of bs a.to.x = c.strip_of-last.ensures ∙ ap (strip_of bs) (to_z-of_z w32 _ fq) in
    let strips₂ : strips_of (seen rs₂) ≡ at (pos a.east) (strip_of bs a.at.x) (at (neg_ℤ (pos a.edge)) (strip_of bs a.at.x) (at (neg_ℤ (pos a.east)) (strip_of bs a.to.x) (strips_of (seen rs₁)))) =
    f.strips ∙ ap₂ (λ x y. at (pos a.east) x (at (neg_ℤ (pos a.edge)) x (at (neg_ℤ (pos a.east)) y (strips_of (seen rs₁))))) middle last in
    record {
      core = f.core;
      here = cleave_here₂ bs rs p.stripped a.edge a.east a.at a.to p.cuts p.room rs₁ u.planted rs₂ f.lines f.used strips₂;
      eastward = cleave_eastward₂ bs rs p.stripped a.edge a.east a.at a.to p.cuts p.room rs₁ u.planted rs₂ f.lines f.used strips₂;
      room = cleave_room₂ bs rs p.stripped a.edge a.east a.at a.to p.cuts p.room rs₁ u.planted rs₂ f.lines f.used strips₂;
    }

pub plant_edge-requires-2 : goal.plant_edge-requires-2
plant_edge-requires-2 c =
    let p = c.requires in
    let a = c.args in
    let bs = a.borders.now.items in
    let rs = a.rows.now.at.now in
    let rs₁ = c.uproot_edge.new.rows in
    let rs₂ = c.cleave_edge.new.rows.at.now in
    let u = c.uproot_edge.ensures in
    let f = c.cleave_edge.ensures in
    let fp : SFits w32 a.at.x = search rules in
    let fq : SFits w32 a.to.x = search rules in
    let middle : c.strip_of-middle.result ≡ strip_of bs a.at.x = c.strip_of-middle.ensures ∙ ap (strip_of bs) (to_z-of_z w32 _ fp) in
    let last : c.strip_of-last.result ≡ strip_of bs a.to.x = c.strip_of-last.ensures ∙ ap (strip_of bs) (to_z-of_z w32 _ fq) in
    let strips₂ : strips_of (seen rs₂) ≡ at (pos a.east) (strip_of bs a.at.x) (at (neg_ℤ (pos a.edge)) (strip_of bs a.at.x) (at (neg_ℤ (pos a.east)) (strip_of bs a.to.x) (strips_of (seen rs₁)))) =
    f.strips ∙ ap₂ (λ x y. at (pos a.east) x (at (neg_ℤ (pos a.edge)) x (at (neg_ℤ (pos a.east)) y (strips_of (seen rs₁))))) middle last in
    let rs₃ = c.plant_edge.new.rows in
    let g = c.plant_edge.ensures in
    record {
      core = g.core;
      here = cleave_here₃ bs rs p.stripped a.edge a.east a.at a.to p.cuts p.room rs₁ u.planted rs₂ f.lines f.used strips₂ rs₃ g.planted;
      eastward = cleave_eastward₃ bs rs p.stripped a.edge a.east a.at a.to p.cuts p.room rs₁ u.planted rs₂ f.lines f.used strips₂ rs₃ g.planted;
      room = cleave_room₃ bs rs p.stripped a.edge a.east a.at a.to p.cuts p.room rs₁ u.planted rs₂ f.lines f.used strips₂ rs₃ g.planted;
    }

pub returns : goal.returns
returns c =
    let p = c.requires in
    let a = c.args in
    let bs = a.borders.now.items in
    let rs = a.rows.now.at.now in
    let rs₁ = c.uproot_edge.new.rows in
    let rs₂ = c.cleave_edge.new.rows.at.now in
    let u = c.uproot_edge.ensures in
    let f = c.cleave_edge.ensures in
    let fp : SFits w32 a.at.x = search rules in
    let fq : SFits w32 a.to.x = search rules in
    let middle : c.strip_of-middle.result ≡ strip_of bs a.at.x = c.strip_of-middle.ensures ∙ ap (strip_of bs) (to_z-of_z w32 _ fp) in
    let last : c.strip_of-last.result ≡ strip_of bs a.to.x = c.strip_of-last.ensures ∙ ap (strip_of bs) (to_z-of_z w32 _ fq) in
    let strips₂ : strips_of (seen rs₂) ≡ at (pos a.east) (strip_of bs a.at.x) (at (neg_ℤ (pos a.edge)) (strip_of bs a.at.x) (at (neg_ℤ (pos a.east)) (strip_of bs a.to.x) (strips_of (seen rs₁)))) =
    f.strips ∙ ap₂ (λ x y. at (pos a.east) x (at (neg_ℤ (pos a.edge)) x (at (neg_ℤ (pos a.east)) y (strips_of (seen rs₁))))) middle last in
    let rs₃ = c.plant_edge.new.rows in
    let g = c.plant_edge.ensures in
    let rs₄ = c.plant_edge-2.new.rows in
    let k = c.plant_edge-2.ensures in
    let counted₂ = subst₂ (λ x y. (i : ℕ) (n : ℤ) → (n ≡ pos 0 → ⊥)
    → indicator (same_place (strips_of (seen rs₁) (neg_ℤ (pos a.edge))) (neg_ℤ (pos a.edge)) i n) + slot_count slots (seen rs₂) i n
    ≡ indicator (same_place x (pos a.east) i n) + (indicator (same_place x (neg_ℤ (pos a.edge)) i n) + (indicator (same_place y (neg_ℤ (pos a.east)) i n) + slot_count slots (seen rs₁) i n))) middle last f.counted in
    let free : (Unlinked slots (seen rs) → Unlinked slots (seen rs₄)) = λ o. k.unlinked (g.unlinked (f.unlinked (u.unlinked o))) in
    record {
      stripped = cleave_stripped bs rs p.stripped a.edge a.east a.at a.to p.cuts p.room rs₁ u.planted rs₂ f.lines f.used strips₂ rs₃ g.planted counted₂ rs₄ k.core free k.planted;
      lines = cleave_lines bs rs p.stripped a.edge a.east a.at a.to p.cuts p.room rs₁ u.planted rs₂ f.lines f.used strips₂ rs₃ g.planted counted₂ rs₄ k.core free k.planted;
    }
