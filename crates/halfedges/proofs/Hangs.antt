-- The rows once both names of an edge are in. Assumes nothing.
use Rattle.std.proofs.Common.{◌≡◌, ℕ, suc, ◌+◌, ◌<◌, ◌≤◌, List, length, ℤ, pos, neg_ℤ, Some, None, Option, sym, ap, ◌∙◌, subst, subst₂, arith}
use Rattle.flat.specs.Orbits.{indicator}
use Rattle.turning.specs.Limits.{max_edge, slots}
use Rattle.chart.specs.declared.point.Point.{Point}
use Rattle.chart.specs.Changes.{at, put}
use Rattle.chart.specs.Linework.{Linework}
use Rattle.laws.specs.Keeps.{Sound}
use Rattle.laws.specs.Rotations.{Rotation, Fresh, Corner, Ends}
use Rattle.laws.proofs.Hung.{hang_rotation₀, hang_rotation₁, hang_fresh₀, hang_fresh₁, hang_end₁, hang_sound}
use Rattle.halfedges.specs.declared.halfedge.Halfedge.{Halfedge}
use Rattle.halfedges.specs.View.{View, seen}
use Rattle.halfedges.specs.Rows.{turn_of, points_of, strips_of, lines_in, Unlinked, CornerHeld, Brought, used, same_place, slot_count, Core}

pub corner_held : (v : View) (c : Option ℤ) (p : Point) → Corner (turn_of v) (points_of v) c p → CornerHeld v c
corner_held v None p o = tt
corner_held v (Some c) p o = o.0

module _ (rs : List Halfedge) (core : Core max_edge slots rs) (e : ℕ) (p q : Point) (c d : Option ℤ) (m : Ends max_edge (lines_in (seen rs)) e p q c d) (room : used slots (seen rs) + 2 ≤ slots) where
  abbrev l : Linework
  l = lines_in (seen rs)

  pub room₀ : used slots (seen rs) < slots
  room₀ = less (used slots (seen rs)) slots room
    where
      less : (u s : ℕ) → u + 2 ≤ s → u < s
      less u s b = omega arith

  pub rotation₀ : Rotation max_edge (turn_of (seen rs))
  rotation₀ = hang_rotation₀ max_edge l core.sound e p q c d m

  pub fresh₀ : Fresh max_edge (turn_of (seen rs)) (pos e)
  fresh₀ = hang_fresh₀ max_edge l core.sound e p q c d m

  pub corner₀ : CornerHeld (seen rs) c
  corner₀ = corner_held (seen rs) c p m.start

  module _ (west : ℕ) (rs₁ : List Halfedge) (first : Brought slots west (pos e) c p (seen rs) (seen rs₁)) where
    pub rotation₁ : Rotation max_edge (turn_of (seen rs₁))
    rotation₁ = subst (Rotation max_edge) (sym first.turn) (hang_rotation₁ max_edge l core.sound e p q c d m)

    pub fresh₁ : Fresh max_edge (turn_of (seen rs₁)) (neg_ℤ (pos e))
    fresh₁ = subst (λ t. Fresh max_edge t (neg_ℤ (pos e))) (sym first.turn) (hang_fresh₁ max_edge l core.sound e p q c d m)

    pub corner₁ : CornerHeld (seen rs₁) d
    corner₁ = corner_held (seen rs₁) d q (subst₂ (λ t pl. Corner t pl d q) (sym first.turn) (sym first.points) (hang_end₁ max_edge l core.sound e p q c d m))

    pub room₁ : used slots (seen rs₁) < slots
    room₁ = less (used slots (seen rs)) (used slots (seen rs₁)) slots first.used room
      where
        less : (u v s : ℕ) → v ≡ suc u → u + 2 ≤ s → v < s
        less u v s a b = omega arith

    module _ (east : ℕ) (rs₂ : List Halfedge) (long : slots ≤ length rs₂) (second : Brought slots east (neg_ℤ (pos e)) d q (seen rs₁) (seen rs₂)) where
      turn₂ : turn_of (seen rs₂) ≡ put d (neg_ℤ (pos e)) (put c (pos e) (turn_of (seen rs)))
      turn₂ = second.turn ∙ ap (put d (neg_ℤ (pos e))) first.turn

      points₂ : points_of (seen rs₂) ≡ at (neg_ℤ (pos e)) (Some q) (at (pos e) (Some p) (points_of (seen rs)))
      points₂ = second.points ∙ ap (at (neg_ℤ (pos e)) (Some q)) first.points

      pub hang_lines : lines_in (seen rs₂) ≡ record { turn = put d (neg_ℤ (pos e)) (put c (pos e) (turn_of (seen rs))); points = at (neg_ℤ (pos e)) (Some q) (at (pos e) (Some p) (points_of (seen rs))) }
      hang_lines = λ i. record { turn = turn₂ i; points = points₂ i }

      pub hang_used : used slots (seen rs₂) ≡ used slots (seen rs) + 2
      hang_used = two_more (used slots (seen rs)) (used slots (seen rs₁)) (used slots (seen rs₂)) first.used second.used
        where
          two_more : (u v w : ℕ) → v ≡ suc u → w ≡ suc v → w ≡ u + 2
          two_more u v w a b = omega arith

      pub hang_core : Core max_edge slots rs₂
      hang_core = record {
        long = long;
        indexed = second.indexed;
        sound = subst (Sound max_edge) (sym hang_lines) (hang_sound max_edge l core.sound e p q c d m);
      }

      pub hang_strips : strips_of (seen rs₂) ≡ at (neg_ℤ (pos e)) east (at (pos e) west (strips_of (seen rs)))
      hang_strips = second.strips ∙ ap (at (neg_ℤ (pos e)) east) first.strips

      pub hang_counted : (i : ℕ) (h : ℤ) → (h ≡ pos 0 → ⊥) → slot_count slots (seen rs₂) i h ≡ indicator (same_place east (neg_ℤ (pos e)) i h) + (indicator (same_place west (pos e) i h) + slot_count slots (seen rs) i h)
      hang_counted i h some = second.counted i h some ∙ ap (λ k. indicator (same_place east (neg_ℤ (pos e)) i h) + k) (first.counted i h some)

      pub hang_unlinked : Unlinked slots (seen rs) → Unlinked slots (seen rs₂)
      hang_unlinked o = second.unlinked (first.unlinked o)
