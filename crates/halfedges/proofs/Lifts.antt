-- The rows once both names of an edge are out. Assumes nothing.
use Rattle.std.proofs.Common.{◌≡◌, ℕ, suc, ◌+◌, ◌≤◌, true, false, List, length, ℤ, pos, neg_ℤ, None, sym, ap, ◌∙◌, subst, ap₂, arith}
use Rattle.std.proofs.lemmas.Bool.{cond-false}
use Rattle.flat.specs.Orbits.{indicator}
use Rattle.flat.specs.Whole.{equal}
use Rattle.turning.specs.Limits.{max_edge, slots}
use Rattle.chart.specs.Changes.{at, drawn, lifted}
use Rattle.laws.specs.Keeps.{Sound}
use Rattle.laws.specs.Rotations.{Rotation}
use Rattle.laws.proofs.Equal.{tell}
use Rattle.laws.proofs.Edges.{rotation_of, held_some, neg_apart, lift_rotation₁, lift_here₁, lift_sound}
use Rattle.halfedges.specs.declared.halfedge.Halfedge.{Halfedge}
use Rattle.halfedges.specs.View.{seen}
use Rattle.halfedges.specs.Rows.{turn_of, points_of, strips_of, lines_in, Unlinked, Indexed, unhooked, used, same_place, slot_count, Core}
use Rattle.halfedges.proofs.Meaning.{unhooked_turn, unhooked_points, unhooked_strips, unhooked_indexed, unhooked_used, unhooked_counted, unhooked_unlinked}
use Rattle.halfedges.proofs.Views.{zero_row}

module _ (rs : List Halfedge) (core : Core max_edge slots rs) (e : ℕ) (here : (turn_of (seen rs)).held (pos e) ≡ true) where
  pub rotation₀ : Rotation max_edge (turn_of (seen rs))
  rotation₀ = rotation_of max_edge (turn_of (seen rs)) core.sound.0

  module _ (rs₁ : List Halfedge) (first : seen rs₁ ≡ unhooked (pos e) (seen rs)) where
    turn₁ : turn_of (seen rs₁) ≡ drawn (pos e) (turn_of (seen rs))
    turn₁ = ap turn_of first ∙ unhooked_turn slots (seen rs) core.indexed (zero_row max_edge slots rs) max_edge rotation₀ (pos e) here

    points₁ : points_of (seen rs₁) ≡ at (pos e) None (points_of (seen rs))
    points₁ = ap points_of first ∙ unhooked_points slots (seen rs) core.indexed (zero_row max_edge slots rs) max_edge rotation₀ (pos e) here

    pub indexed₁ : Indexed slots (seen rs₁)
    indexed₁ = subst (Indexed slots) (sym first) (unhooked_indexed slots (seen rs) core.indexed (zero_row max_edge slots rs) max_edge rotation₀ (pos e) here)

    used₁ : suc (used slots (seen rs₁)) ≡ used slots (seen rs)
    used₁ = ap (λ v. suc (used slots v)) first ∙ unhooked_used slots (seen rs) core.indexed (zero_row max_edge slots rs) max_edge rotation₀ (pos e) here

    pub rotation₁ : Rotation max_edge (turn_of (seen rs₁))
    rotation₁ = subst (Rotation max_edge) (sym turn₁) (lift_rotation₁ max_edge (lines_in (seen rs)) core.sound e here)

    pub here₁ : (turn_of (seen rs₁)).held (neg_ℤ (pos e)) ≡ true
    here₁ = ap (λ t. t.held (neg_ℤ (pos e))) turn₁ ∙ lift_here₁ max_edge (lines_in (seen rs)) core.sound e here

    module _ (rs₂ : List Halfedge) (long : slots ≤ length rs₂) (second : seen rs₂ ≡ unhooked (neg_ℤ (pos e)) (seen rs₁)) where
      turn₂ : turn_of (seen rs₂) ≡ (lifted e (lines_in (seen rs))).turn
      turn₂ = ap turn_of second ∙ unhooked_turn slots (seen rs₁) indexed₁ (zero_row max_edge slots rs₁) max_edge rotation₁ (neg_ℤ (pos e)) here₁ ∙ ap (drawn (neg_ℤ (pos e))) turn₁

      points₂ : points_of (seen rs₂) ≡ (lifted e (lines_in (seen rs))).points
      points₂ = ap points_of second ∙ unhooked_points slots (seen rs₁) indexed₁ (zero_row max_edge slots rs₁) max_edge rotation₁ (neg_ℤ (pos e)) here₁ ∙ ap (at (neg_ℤ (pos e)) None) points₁

      pub lift_lines : lines_in (seen rs₂) ≡ lifted e (lines_in (seen rs))
      lift_lines = λ i. record { turn = turn₂ i; points = points₂ i }

      pub lift_used : used slots (seen rs₂) + 2 ≡ used slots (seen rs)
      lift_used =
          let a = used₁ in
          let b : suc (used slots (seen rs₂)) ≡ used slots (seen rs₁) = ap (λ v. suc (used slots v)) second ∙ unhooked_used slots (seen rs₁) indexed₁ (zero_row max_edge slots rs₁) max_edge rotation₁ (neg_ℤ (pos e)) here₁ in
          two_less (used slots (seen rs)) (used slots (seen rs₁)) (used slots (seen rs₂)) a b
        where
          two_less : (p q r : ℕ) → suc q ≡ p → suc r ≡ q → r + 2 ≡ p
          two_less p q r a b = omega arith

      pub lift_core : Core max_edge slots rs₂
      lift_core = record {
        long = long;
        indexed = subst (Indexed slots) (sym second) (unhooked_indexed slots (seen rs₁) indexed₁ (zero_row max_edge slots rs₁) max_edge rotation₁ (neg_ℤ (pos e)) here₁);
        sound = subst (Sound max_edge) (sym lift_lines) (lift_sound max_edge (lines_in (seen rs)) core.sound e here);
      }

      strips₁ : strips_of (seen rs₁) ≡ at (pos e) 0 (strips_of (seen rs))
      strips₁ = ap strips_of first ∙ unhooked_strips slots (seen rs) core.indexed (zero_row max_edge slots rs) max_edge rotation₀ (pos e) here

      pub lift_strips : strips_of (seen rs₂) ≡ at (neg_ℤ (pos e)) 0 (at (pos e) 0 (strips_of (seen rs)))
      lift_strips = ap strips_of second ∙ unhooked_strips slots (seen rs₁) indexed₁ (zero_row max_edge slots rs₁) max_edge rotation₁ (neg_ℤ (pos e)) here₁ ∙ ap (at (neg_ℤ (pos e)) 0) strips₁

      other : strips_of (seen rs₁) (neg_ℤ (pos e)) ≡ strips_of (seen rs) (neg_ℤ (pos e))
      other =
          let off : equal (neg_ℤ (pos e)) (pos e) ≡ false = grind (arith, tell (neg_ℤ (pos e)) (pos e), neg_apart e e (held_some max_edge (turn_of (seen rs)) rotation₀ e here)) in
          ap (λ f. f (neg_ℤ (pos e))) strips₁ ∙ cond-false _ _ _ off

      pub lift_counted : (i : ℕ) (h : ℤ) → (h ≡ pos 0 → ⊥) → slot_count slots (seen rs) i h ≡ indicator (same_place (strips_of (seen rs) (pos e)) (pos e) i h) + (indicator (same_place (strips_of (seen rs) (neg_ℤ (pos e))) (neg_ℤ (pos e)) i h) + slot_count slots (seen rs₂) i h)
      lift_counted i h some =
          unhooked_counted slots (seen rs) core.indexed (zero_row max_edge slots rs) max_edge rotation₀ (pos e) here i h some
          ∙ ap (λ k. indicator (same_place (strips_of (seen rs) (pos e)) (pos e) i h) + k)
          (ap (λ v. slot_count slots v i h) (sym first)
          ∙ unhooked_counted slots (seen rs₁) indexed₁ (zero_row max_edge slots rs₁) max_edge rotation₁ (neg_ℤ (pos e)) here₁ i h some
          ∙ ap₂ (λ s v. indicator (same_place s (neg_ℤ (pos e)) i h) + slot_count slots v i h) other (sym second))

      pub lift_unlinked : Unlinked slots (seen rs) → Unlinked slots (seen rs₂)
      lift_unlinked o =
          subst (Unlinked slots) (sym second)
          (unhooked_unlinked slots (seen rs₁) indexed₁ (zero_row max_edge slots rs₁) max_edge rotation₁ (neg_ℤ (pos e)) here₁
          (subst (Unlinked slots) (sym first) (unhooked_unlinked slots (seen rs) core.indexed (zero_row max_edge slots rs) max_edge rotation₀ (pos e) here o)))
