-- An edge goes out of a stripped sheet. Assumes nothing.
use Rattle.std.proofs.Common.{◌≡◌, ℕ, suc, ◌+◌, ◌-◌, ◌*◌, ◌≤◌, Bool, true, false, List, ℤ, pos, neg_ℤ, None, sym, refl, ap, ◌∙◌, subst, ap₂, arith}
use Rattle.std.proofs.lemmas.Int.{ints}
use Rattle.std.proofs.lemmas.Bool.{both_ways}
use Rattle.flat.specs.Orbits.{indicator}
use Rattle.turning.specs.Limits.{max_edge, slots}
use Rattle.chart.specs.Changes.{at, lifted}
use Rattle.chart.specs.Linework.{Linework}
use Rattle.laws.proofs.Edges.{rotation_of, held_some}
use Rattle.laws.proofs.Equal.{tell}
use Rattle.halfedges.specs.declared.halfedge.Halfedge.{Halfedge}
use Rattle.halfedges.specs.View.{seen}
use Rattle.halfedges.specs.Rows.{turn_of, strips_of, lines_in, used, Unlinked, same_place, slot_count, externals, Planted, Core}
use Rattle.strips.specs.Borders.{strip_of, x_of, home_strip, runs_through, slots_taken}
use Rattle.strips.specs.Sheets.{Stripped}
use Rattle.strips.proofs.Spans.{spanned, spanned_is, names_edge, names_off, AgreeOff}
use Rattle.strips.proofs.Gains.{On, Off, gain_runs, gain_taken, at_on, at_off, two_names, held_on}
use Rattle.strips.proofs.Keeping.{Tally, tally_of, stripped_by}

module _ (bs : List ℤ) (rs : List Halfedge) (st : Stripped max_edge slots bs rs) (e : ℕ) (here : (turn_of (seen rs)).held (pos e) ≡ true) where
  abbrev l : Linework
  l = lines_in (seen rs)

  abbrev E : ℤ
  E = neg_ℤ (pos e)

  abbrev A : ℕ
  A = home_strip bs l (pos e)

  abbrev B : ℕ
  B = home_strip bs l E

  pub held_low : 1 ≤ e
  held_low = held_some max_edge l.turn (rotation_of max_edge l.turn st.core.sound.0) e here

  pub held_high : e ≤ max_edge
  held_high = let u = st.core.sound.0.high (pos e) here in omega (arith, ints)

  pub edge_on : On bs e (home_strip bs (lines_in (seen rs)) (pos e)) (home_strip bs (lines_in (seen rs)) (neg_ℤ (pos e))) (lines_in (seen rs))
  edge_on = held_on bs max_edge l st.core.sound e here

  pub held_west : strips_of (seen rs) (pos e) ≡ home_strip bs (lines_in (seen rs)) (pos e)
  held_west = (tally_of bs rs st).homes (pos e) here

  pub held_east : strips_of (seen rs) (neg_ℤ (pos e)) ≡ home_strip bs (lines_in (seen rs)) (neg_ℤ (pos e))
  held_east = (tally_of bs rs st).homes E edge_on.minus

  -- ---- the line work without the edge
  pub without_off : Off e (lifted e (lines_in (seen rs)))
  without_off = record {
    plus = at_off E false (at (pos e) false l.turn.held) (pos e) (two_names e held_low) ∙ at_on (pos e) false l.turn.held;
    minus = at_on E false (at (pos e) false l.turn.held);
  }

  pub without_agree : AgreeOff e (lifted e (lines_in (seen rs))) (lines_in (seen rs))
  without_agree h off =
      let d = names_off e h off in (
        sym (at_off E false (at (pos e) false l.turn.held) h d.1 ∙ at_off (pos e) false l.turn.held h d.0),
        sym (at_off E None (at (pos e) None l.points) h d.1 ∙ at_off (pos e) None l.points h d.0),
      )

  pub without_runs : (i : ℕ) (h : ℤ) → indicator (runs_through bs (lines_in (seen rs)) i h) ≡ spanned e (home_strip bs (lines_in (seen rs)) (pos e)) (home_strip bs (lines_in (seen rs)) (neg_ℤ (pos e))) i h + indicator (runs_through bs (lifted e (lines_in (seen rs))) i h)
  without_runs = gain_runs bs max_edge e held_low held_high (lifted e l) l without_agree without_off A B edge_on

  pub without_taken : slots_taken bs (lines_in (seen rs)) max_edge ≡ 2 * suc (home_strip bs (lines_in (seen rs)) (neg_ℤ (pos e)) - home_strip bs (lines_in (seen rs)) (pos e)) + slots_taken bs (lifted e (lines_in (seen rs))) max_edge
  without_taken = gain_taken bs max_edge e held_low held_high (lifted e l) l without_agree without_off A B edge_on

  -- ---- its external rows can go
  pub held_eastward : strips_of (seen rs) (pos e) ≤ strips_of (seen rs) (neg_ℤ (pos e))
  held_eastward = less A B (strips_of (seen rs) (pos e)) (strips_of (seen rs) E) edge_on.order held_west held_east
    where
      less : (a b x y : ℕ) → a ≤ b → x ≡ a → y ≡ b → x ≤ y
      less a b x y o p q = omega arith

  pub held_there : (i : ℕ) (h : ℤ) → (h ≡ pos 0 → ⊥) → externals e (strips_of (seen rs) (pos e)) (strips_of (seen rs) (neg_ℤ (pos e))) i h ≤ slot_count slots (seen rs) i h
  held_there i h some =
      part (externals e A B i h) _ (spanned e A B i h) (indicator (runs_through bs (lifted e l) i h)) (slot_count slots (seen rs) i h) (externals e (strips_of (seen rs) (pos e)) (strips_of (seen rs) E) i h)
      (spanned_is e A B i h held_low edge_on.order) (st.each i h some ∙ without_runs i h) (ap₂ (λ a b. externals e a b i h) held_west held_east)
    where
      part : (x y s r c z : ℕ) → s ≡ x + y → c ≡ s + r → z ≡ x → z ≤ c
      part x y s r c z p q t = omega arith

  -- ---- they are gone
  module _ (rs₁ : List Halfedge) (planted : Planted slots (2 * (strips_of (seen rs) (neg_ℤ (pos e)) - strips_of (seen rs) (pos e))) (externals e (strips_of (seen rs) (pos e)) (strips_of (seen rs) (neg_ℤ (pos e)))) (seen rs₁) (seen rs)) where
    pub gone_here : (turn_of (seen rs₁)).held (pos e) ≡ true
    gone_here = ap (λ x. x.turn.held (pos e)) (sym planted.lines) ∙ here

    pub gone_west : strips_of (seen rs₁) (pos e) ≡ home_strip bs (lines_in (seen rs)) (pos e)
    gone_west = ap (λ f. f (pos e)) (sym planted.strips) ∙ held_west

    pub gone_east : strips_of (seen rs₁) (neg_ℤ (pos e)) ≡ home_strip bs (lines_in (seen rs)) (neg_ℤ (pos e))
    gone_east = ap (λ f. f E) (sym planted.strips) ∙ held_east

    pub gone_used : used slots (seen rs) ≡ 2 * (home_strip bs (lines_in (seen rs)) (neg_ℤ (pos e)) - home_strip bs (lines_in (seen rs)) (pos e)) + used slots (seen rs₁)
    gone_used = planted.used ∙ ap₂ (λ a b. 2 * (b - a) + used slots (seen rs₁)) held_west held_east

    pub gone_counted : (i : ℕ) (h : ℤ) → (h ≡ pos 0 → ⊥) → slot_count slots (seen rs) i h ≡ externals e (home_strip bs (lines_in (seen rs)) (pos e)) (home_strip bs (lines_in (seen rs)) (neg_ℤ (pos e))) i h + slot_count slots (seen rs₁) i h
    gone_counted i h some = planted.counted i h some ∙ ap₂ (λ a b. externals e a b i h + slot_count slots (seen rs₁) i h) held_west held_east

    module _ (unlinked₁ : Unlinked slots (seen rs) → Unlinked slots (seen rs₁)) (rs₂ : List Halfedge) (core₂ : Core max_edge slots rs₂) (lines₂ : lines_in (seen rs₂) ≡ lifted e (lines_in (seen rs₁)))
        (used₂ : used slots (seen rs₂) + 2 ≡ used slots (seen rs₁))
        (strips₂ : strips_of (seen rs₂) ≡ at (neg_ℤ (pos e)) 0 (at (pos e) 0 (strips_of (seen rs₁))))
        (counted₂ : (i : ℕ) (h : ℤ) → (h ≡ pos 0 → ⊥) → slot_count slots (seen rs₁) i h ≡ indicator (same_place (strips_of (seen rs₁) (pos e)) (pos e) i h) + (indicator (same_place (strips_of (seen rs₁) (neg_ℤ (pos e))) (neg_ℤ (pos e)) i h) + slot_count slots (seen rs₂) i h))
        (unlinked₂ : Unlinked slots (seen rs₁) → Unlinked slots (seen rs₂)) where
      pub lift_lines : lines_in (seen rs₂) ≡ lifted e (lines_in (seen rs))
      lift_lines = lines₂ ∙ ap (lifted e) (sym planted.lines)

      counts : (i : ℕ) (h : ℤ) → (h ≡ pos 0 → ⊥) → slot_count slots (seen rs₂) i h ≡ indicator (runs_through bs (lifted e l) i h)
      counts i h some =
          sum (slot_count slots (seen rs) i h) (slot_count slots (seen rs₁) i h) (slot_count slots (seen rs₂) i h) (spanned e A B i h) (externals e A B i h) _ _ (indicator (runs_through bs (lifted e l) i h))
          (gone_counted i h some)
          (counted₂ i h some ∙ ap₂ (λ a b. indicator (same_place a (pos e) i h) + (indicator (same_place b E i h) + slot_count slots (seen rs₂) i h)) gone_west gone_east)
          (spanned_is e A B i h held_low edge_on.order) (st.each i h some ∙ without_runs i h)
        where
          sum : (u v w s x p q r : ℕ) → u ≡ x + v → v ≡ p + (q + w) → s ≡ x + (q + p) → u ≡ s + r → w ≡ r
          sum u v w s x p q r a b c d = omega arith

      homes : (h : ℤ) → (lifted e l).turn.held h ≡ true → strips_of (seen rs₂) h ≡ home_strip bs (lifted e l) h
      homes h held = go (names_edge e h) refl
        where
          none : names_edge e h ≡ true → ⊥
          none on = both_ways _ out held
            where
              out : (lifted e l).turn.held h ≡ false
              out = grind (arith, tell h E, tell h (pos e), tell (pos e) h, tell E h, on)

          go : (b : Bool) → names_edge e h ≡ b → strips_of (seen rs₂) h ≡ home_strip bs (lifted e l) h
          go true on = absurd (none on)
          go false off =
              let d = names_off e h off in
              let same = without_agree h off in
              ap (λ f. f h) strips₂ ∙ at_off E 0 (at (pos e) 0 (strips_of (seen rs₁))) h d.1 ∙ at_off (pos e) 0 (strips_of (seen rs₁)) h d.0
              ∙ ap (λ f. f h) (sym planted.strips) ∙ (tally_of bs rs st).homes h (same.0 ∙ held) ∙ ap (λ o. strip_of bs (x_of o)) same.1

      room : used slots (seen rs₂) ≡ slots_taken bs (lifted e l) max_edge
      room = sum (used slots (seen rs)) (used slots (seen rs₁)) (used slots (seen rs₂)) (slots_taken bs l max_edge) (slots_taken bs (lifted e l) max_edge) A B gone_used used₂ st.room without_taken
        where
          sum : (u v w t t' a b : ℕ) → u ≡ 2 * (b - a) + v → w + 2 ≡ v → u ≡ t → t ≡ 2 * suc (b - a) + t' → w ≡ t'
          sum u v w t t' a b p q r s = omega arith

      pub lift_stripped : Stripped max_edge slots bs rs₂
      lift_stripped =
          stripped_by bs rs₂ core₂ (unlinked₂ (unlinked₁ st.external))
          (subst (λ x. Tally bs x (strips_of (seen rs₂)) (slot_count slots (seen rs₂)) (used slots (seen rs₂))) (sym lift_lines) (record { each = counts; homes = homes; room = room }))
