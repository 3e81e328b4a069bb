-- The rows once an edge is cleft, in four changes of single names. Assumes nothing.
use Rattle.std.proofs.Common.{◌≡◌, ℕ, suc, ◌+◌, ◌<◌, ◌≤◌, true, false, List, length, ℤ, pos, neg_ℤ, Some, None, sym, ap, ◌∙◌, subst, ap₂, arith}
use Rattle.std.proofs.lemmas.Bool.{cond-false, both_ways}
use Rattle.flat.specs.Orbits.{indicator}
use Rattle.flat.specs.Whole.{equal}
use Rattle.turning.specs.Limits.{max_edge, slots}
use Rattle.chart.specs.declared.point.Point.{Point}
use Rattle.chart.specs.Changes.{at, put_after, alone, drawn, cleft}
use Rattle.chart.specs.Linework.{Linework}
use Rattle.laws.specs.Keeps.{Sound}
use Rattle.laws.specs.Rotations.{Rotation, Fresh, Cuts}
use Rattle.laws.proofs.Equal.{tell}
use Rattle.laws.proofs.Edges.{neg_same}
use Rattle.laws.proofs.Cleft.{step₂, step₃, cleave_rotation₀, cleave_held, cleave_fresh₁, cleave_rotation₁, cleave_held₁, cleave_rotation₂, cleave_fresh₃, cleave_rotation₃, cleave_held₃, cleave_fresh₄, cleave_turn, cleave_points, cleave_sound}
use Rattle.halfedges.specs.declared.halfedge.Halfedge.{Halfedge}
use Rattle.halfedges.specs.View.{seen}
use Rattle.halfedges.specs.Rows.{turn_of, points_of, strips_of, lines_in, Unlinked, Indexed, Brought, unhooked, used, same_place, slot_count, Core}
use Rattle.halfedges.proofs.Meaning.{unhooked_turn, unhooked_points, unhooked_strips, unhooked_indexed, unhooked_used, unhooked_counted, unhooked_unlinked}
use Rattle.halfedges.proofs.Views.{zero_row}

module _ (rs : List Halfedge) (core : Core max_edge slots rs) (e f : ℕ) (p q : Point) (m : Cuts max_edge (lines_in (seen rs)) e f p q) (room : used slots (seen rs) + 2 ≤ slots) (west east : ℕ) where
  abbrev l : Linework
  l = lines_in (seen rs)

  abbrev E : ℤ
  E = neg_ℤ (pos e)

  abbrev F : ℤ
  F = neg_ℤ (pos f)

  pub rotation₀ : Rotation max_edge (turn_of (seen rs))
  rotation₀ = cleave_rotation₀ max_edge l core.sound e f p q m

  pub held₀ : (turn_of (seen rs)).held (neg_ℤ (pos e)) ≡ true
  held₀ = cleave_held max_edge l core.sound e f p q m

  pub fresh₀ : Fresh max_edge (turn_of (seen rs)) (neg_ℤ (pos f))
  fresh₀ = cleave_fresh₁ max_edge l core.sound e f p q m

  pub room₀ : used slots (seen rs) < slots
  room₀ = less (used slots (seen rs)) slots room
    where
      less : (u s : ℕ) → u + 2 ≤ s → u < s
      less u s b = omega arith

  module _ (rs₁ : List Halfedge) (first : Brought slots east (neg_ℤ (pos f)) (Some (neg_ℤ (pos e))) q (seen rs) (seen rs₁)) where
    pub rotation₁ : Rotation max_edge (turn_of (seen rs₁))
    rotation₁ = subst (Rotation max_edge) (sym first.turn) (cleave_rotation₁ max_edge l core.sound e f p q m)

    pub held₁ : (turn_of (seen rs₁)).held (neg_ℤ (pos e)) ≡ true
    held₁ = ap (λ t. t.held E) first.turn ∙ cleave_held₁ max_edge l core.sound e f p q m

    module _ (rs₂ : List Halfedge) (second : seen rs₂ ≡ unhooked (neg_ℤ (pos e)) (seen rs₁)) where
      turn₂ : turn_of (seen rs₂) ≡ step₂ E F (turn_of (seen rs))
      turn₂ = ap turn_of second ∙ unhooked_turn slots (seen rs₁) first.indexed (zero_row max_edge slots rs₁) max_edge rotation₁ E held₁ ∙ ap (drawn E) first.turn

      points₂ : points_of (seen rs₂) ≡ at E None (at F (Some q) (points_of (seen rs)))
      points₂ = ap points_of second ∙ unhooked_points slots (seen rs₁) first.indexed (zero_row max_edge slots rs₁) max_edge rotation₁ E held₁ ∙ ap (at E None) first.points

      pub indexed₂ : Indexed slots (seen rs₂)
      indexed₂ = subst (Indexed slots) (sym second) (unhooked_indexed slots (seen rs₁) first.indexed (zero_row max_edge slots rs₁) max_edge rotation₁ E held₁)

      used₂ : suc (used slots (seen rs₂)) ≡ used slots (seen rs₁)
      used₂ = ap (λ v. suc (used slots v)) second ∙ unhooked_used slots (seen rs₁) first.indexed (zero_row max_edge slots rs₁) max_edge rotation₁ E held₁

      pub rotation₂ : Rotation max_edge (turn_of (seen rs₂))
      rotation₂ = subst (Rotation max_edge) (sym turn₂) (cleave_rotation₂ max_edge l core.sound e f p q m)

      pub fresh₂ : Fresh max_edge (turn_of (seen rs₂)) (neg_ℤ (pos e))
      fresh₂ = subst (λ t. Fresh max_edge t E) (sym turn₂) (cleave_fresh₃ max_edge l core.sound e f p q m)

      pub room₂ : used slots (seen rs₂) < slots
      room₂ = less (used slots (seen rs)) (used slots (seen rs₁)) (used slots (seen rs₂)) slots first.used used₂ room₀
        where
          less : (u v w s : ℕ) → v ≡ suc u → suc w ≡ v → u < s → w < s
          less u v w s a b k = omega arith

      module _ (rs₃ : List Halfedge) (third : Brought slots west (neg_ℤ (pos e)) None p (seen rs₂) (seen rs₃)) where
        turn₃ : turn_of (seen rs₃) ≡ step₃ E F (turn_of (seen rs))
        turn₃ = third.turn ∙ ap (alone E) turn₂

        pub rotation₃ : Rotation max_edge (turn_of (seen rs₃))
        rotation₃ = subst (Rotation max_edge) (sym turn₃) (cleave_rotation₃ max_edge l core.sound e f p q m)

        pub held₃ : (turn_of (seen rs₃)).held (neg_ℤ (pos e)) ≡ true
        held₃ = ap (λ t. t.held E) turn₃ ∙ cleave_held₃ max_edge l core.sound e f p q m

        pub fresh₃ : Fresh max_edge (turn_of (seen rs₃)) (pos f)
        fresh₃ = subst (λ t. Fresh max_edge t (pos f)) (sym turn₃) (cleave_fresh₄ max_edge l core.sound e f p q m)

        pub room₃ : used slots (seen rs₃) < slots
        room₃ = less (used slots (seen rs)) (used slots (seen rs₁)) (used slots (seen rs₂)) (used slots (seen rs₃)) slots first.used used₂ third.used room
          where
            less : (u v w x s : ℕ) → v ≡ suc u → suc w ≡ v → x ≡ suc w → u + 2 ≤ s → x < s
            less u v w x s a b k j = omega arith

        module _ (rs₄ : List Halfedge) (long : slots ≤ length rs₄) (fourth : Brought slots west (pos f) (Some (neg_ℤ (pos e))) p (seen rs₃) (seen rs₄)) where
          turn₄ : turn_of (seen rs₄) ≡ (cleft e f p l).turn
          turn₄ = fourth.turn ∙ ap (put_after E (pos f)) turn₃ ∙ cleave_turn max_edge l core.sound e f p q m

          points₄ : points_of (seen rs₄) ≡ (cleft e f p l).points
          points₄ = fourth.points ∙ ap (at (pos f) (Some p)) (third.points ∙ ap (at E (Some p)) points₂) ∙ cleave_points max_edge l core.sound e f p q m

          pub cleave_lines : lines_in (seen rs₄) ≡ cleft e f p (lines_in (seen rs))
          cleave_lines = λ i. record { turn = turn₄ i; points = points₄ i }

          pub cleave_used : used slots (seen rs₄) ≡ used slots (seen rs) + 2
          cleave_used = two_more (used slots (seen rs)) (used slots (seen rs₁)) (used slots (seen rs₂)) (used slots (seen rs₃)) (used slots (seen rs₄)) first.used used₂ third.used fourth.used
            where
              two_more : (u v w x y : ℕ) → v ≡ suc u → suc w ≡ v → x ≡ suc w → y ≡ suc x → y ≡ u + 2
              two_more u v w x y a b k i = omega arith

          pub cleave_core : Core max_edge slots rs₄
          cleave_core = record {
            long = long;
            indexed = fourth.indexed;
            sound = subst (Sound max_edge) (sym cleave_lines) (cleave_sound max_edge l core.sound e f p q m);
          }

          pub cleave_unlinked : Unlinked slots (seen rs) → Unlinked slots (seen rs₄)
          cleave_unlinked o =
              fourth.unlinked (third.unlinked (subst (Unlinked slots) (sym second)
              (unhooked_unlinked slots (seen rs₁) first.indexed (zero_row max_edge slots rs₁) max_edge rotation₁ E held₁ (first.unlinked o))))

          strips₂ : strips_of (seen rs₂) ≡ at E 0 (at F east (strips_of (seen rs)))
          strips₂ = ap strips_of second ∙ unhooked_strips slots (seen rs₁) first.indexed (zero_row max_edge slots rs₁) max_edge rotation₁ E held₁ ∙ ap (at E 0) first.strips

          twice : (s t : ℕ) (g : ℤ → ℕ) → at E s (at E t g) ≡ at E s g
          twice s t g = λ i h. at_once h i
            where
              at_once : (h : ℤ) → at E s (at E t g) h ≡ at E s g h
              at_once h = grind (arith, tell h E)

          pub cleave_strips : strips_of (seen rs₄) ≡ at (pos f) west (at (neg_ℤ (pos e)) west (at (neg_ℤ (pos f)) east (strips_of (seen rs))))
          cleave_strips = fourth.strips ∙ ap (at (pos f) west) (third.strips ∙ ap (at E west) strips₂ ∙ twice west 0 (at F east (strips_of (seen rs))))

          apart : neg_ℤ (pos e) ≡ neg_ℤ (pos f) → ⊥
          apart z = both_ways _ m.new (ap (turn_of (seen rs)).held (sym (neg_same e f z)) ∙ m.here)

          other : strips_of (seen rs₁) E ≡ strips_of (seen rs) E
          other =
              let off : equal E F ≡ false = grind (arith, tell E F, apart) in
              ap (λ g. g E) first.strips ∙ cond-false _ _ _ off

          pub cleave_counted : (i : ℕ) (h : ℤ) → (h ≡ pos 0 → ⊥)
              → indicator (same_place (strips_of (seen rs) (neg_ℤ (pos e))) (neg_ℤ (pos e)) i h) + slot_count slots (seen rs₄) i h
              ≡ indicator (same_place west (pos f) i h) + (indicator (same_place west (neg_ℤ (pos e)) i h) + (indicator (same_place east (neg_ℤ (pos f)) i h) + slot_count slots (seen rs) i h))
          cleave_counted i h some =
              sum (slot_count slots (seen rs) i h) (slot_count slots (seen rs₁) i h) (slot_count slots (seen rs₂) i h) (slot_count slots (seen rs₃) i h) (slot_count slots (seen rs₄) i h) _ _ _ _ (first.counted i h some)
              (unhooked_counted slots (seen rs₁) first.indexed (zero_row max_edge slots rs₁) max_edge rotation₁ E held₁ i h some
              ∙ ap₂ (λ s v. indicator (same_place s E i h) + slot_count slots v i h) other (sym second))
              (third.counted i h some) (fourth.counted i h some)
            where
              sum : (u v w x y p q r t : ℕ) → v ≡ p + u → v ≡ q + w → x ≡ r + w → y ≡ t + x → q + y ≡ t + (r + (p + u))
              sum u v w x y p q r t a b k j = omega arith
