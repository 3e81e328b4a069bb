-- An edge of a stripped sheet is cleft: its external rows go, the cut is made, and the rows of both parts come. Assumes nothing.
use Rattle.std.proofs.Common.{◌≡◌, ℕ, suc, ◌+◌, ◌-◌, ◌*◌, ◌≤◌, true, List, ℤ, pos, neg_ℤ, Some, sym, ap, ◌∙◌, subst, ap₂, inl, inr, arith}
use Rattle.std.proofs.lemmas.Int.{ints}
use Rattle.std.proofs.lemmas.Bool.{cond-true, cond-false, both_ways}
use Rattle.flat.specs.Orbits.{indicator}
use Rattle.turning.specs.Limits.{max_edge, slots}
use Rattle.chart.specs.declared.point.Point.{Point}
use Rattle.chart.specs.Changes.{at, lifted, cleft}
use Rattle.chart.specs.Linework.{Linework}
use Rattle.laws.specs.Rotations.{Cuts}
use Rattle.laws.proofs.Equal.{tell, Tells}
use Rattle.halfedges.specs.declared.halfedge.Halfedge.{Halfedge}
use Rattle.halfedges.specs.View.{seen}
use Rattle.halfedges.specs.Rows.{turn_of, strips_of, lines_in, used, Unlinked, same_place, slot_count, externals, Planted, Core}
use Rattle.strips.specs.Borders.{strip_of, x_of, home_strip, runs_through, slots_taken}
use Rattle.strips.specs.Sheets.{Stripped}
use Rattle.strips.proofs.Spans.{spanned, spanned_is, names_off, AgreeOff}
use Rattle.strips.proofs.Gains.{On, Off, gain_runs, gain_taken, at_on, at_off, two_names, told_order, west_order, not_held}
use Rattle.strips.proofs.Keeping.{Tally, tally_of, stripped_by}
use Rattle.strips.proofs.Lifting.{held_low, held_high, edge_on, without_off, without_agree, without_runs, without_taken, gone_west, gone_east, gone_used, gone_counted}

module _ (bs : List ℤ) (rs : List Halfedge) (st : Stripped max_edge slots bs rs) (e f : ℕ) (p q : Point) (m : Cuts max_edge (lines_in (seen rs)) e f p q)
    (room : slots_taken bs (lines_in (seen rs)) max_edge + 2 ≤ slots) where
  abbrev l : Linework
  l = lines_in (seen rs)

  abbrev l' : Linework
  l' = cleft e f p l

  abbrev E : ℤ
  E = neg_ℤ (pos e)

  abbrev F : ℤ
  F = neg_ℤ (pos f)

  abbrev A : ℕ
  A = home_strip bs l (pos e)

  abbrev M : ℕ
  M = strip_of bs p.x

  abbrev C : ℕ
  C = home_strip bs l E

  one : 1 ≤ e
  one = held_low bs rs st e m.here

  -- ---- the four names are apart
  other : e ≡ f → ⊥
  other z = both_ways _ m.new (ap (λ k. l.turn.held (pos k)) (sym z) ∙ m.here)

  e_f : pos e ≡ pos f → ⊥
  e_f z = other (omega (arith, ints))

  E_F : E ≡ F → ⊥
  E_F z = other (omega (arith, ints))

  e_F : pos e ≡ F → ⊥
  e_F z = let k = one in omega (arith, ints)

  f_E : pos f ≡ E → ⊥
  f_E z = let k = one in omega (arith, ints)

  -- ---- the western part alone, the eastern one not yet there
  abbrev half : Linework
  half = record { turn = l.turn; points = at E (Some p) l.points }

  half_agree : AgreeOff e (lifted e l) half
  half_agree h off =
      let same = without_agree bs rs st e m.here h off in
      (same.0, at_off E (Some p) l.points h (names_off e h off).1 ∙ same.1)

  half_on : On bs e A M half
  half_on = record {
    plus = m.here;
    minus = (edge_on bs rs st e m.here).minus;
    starts = ap (λ o. strip_of bs (x_of o)) (at_off E (Some p) l.points (pos e) (two_names e one));
    ends = ap (λ o. strip_of bs (x_of o)) (at_on E (Some p) l.points);
    order = told_order bs (l.points (pos e)) (Some p) m.west_p;
  }

  -- ---- the eastern part comes
  f_off : Off f half
  f_off = let out = not_held max_edge l st.core.sound f m.new in record { plus = out.plus; minus = out.minus }

  whole_agree : AgreeOff f half l'
  whole_agree h off =
      let d = names_off f h off in (
        at_off (pos f) true (at F true l.turn.held) h d.0 ∙ at_off F true l.turn.held h d.1,
        at_off F (l.points E) (at (pos f) (Some p) (at E (Some p) l.points)) h d.1 ∙ at_off (pos f) (Some p) (at E (Some p) l.points) h d.0,
      )

  f_point : l'.points (pos f) ≡ Some p
  f_point = at_off F (l.points E) (at (pos f) (Some p) (at E (Some p) l.points)) (pos f) (two_names f m.low) ∙ at_on (pos f) (Some p) (at E (Some p) l.points)

  F_point : l'.points F ≡ l.points E
  F_point = at_on F (l.points E) (at (pos f) (Some p) (at E (Some p) l.points))

  pub cleave_east : strip_of bs q.x ≡ home_strip bs (lines_in (seen rs)) (neg_ℤ (pos e))
  cleave_east = ap (λ o. strip_of bs (x_of o)) (sym m.ends)

  order_east : M ≤ C
  order_east = let w = west_order bs p q m.west_q in let z = cleave_east in omega (arith, w, z)

  whole_on : On bs f M C l'
  whole_on = record {
    plus = at_on (pos f) true (at F true l.turn.held);
    minus = at_off (pos f) true (at F true l.turn.held) F (λ z. two_names f m.low (sym z)) ∙ at_on F true l.turn.held;
    starts = ap (λ o. strip_of bs (x_of o)) f_point;
    ends = ap (λ o. strip_of bs (x_of o)) F_point;
    order = order_east;
  }

  -- ---- the slots of all
  runs : (i : ℕ) (h : ℤ) → indicator (runs_through bs l' i h) ≡ spanned f M C i h + (spanned e A M i h + indicator (runs_through bs (lifted e l) i h))
  runs i h =
      gain_runs bs max_edge f m.low m.high half l' whole_agree f_off M C whole_on i h
      ∙ ap (λ k. spanned f M C i h + k) (gain_runs bs max_edge e one (held_high bs rs st e m.here) (lifted e l) half half_agree (without_off bs rs st e m.here) A M half_on i h)

  taken : slots_taken bs l' max_edge ≡ 2 * suc (C - M) + (2 * suc (M - A) + slots_taken bs (lifted e l) max_edge)
  taken =
      gain_taken bs max_edge f m.low m.high half l' whole_agree f_off M C whole_on
      ∙ ap (λ k. 2 * suc (C - M) + k) (gain_taken bs max_edge e one (held_high bs rs st e m.here) (lifted e l) half half_agree (without_off bs rs st e m.here) A M half_on)

  -- ---- the external rows are gone
  module _ (rs₁ : List Halfedge) (gone : Planted slots (2 * (strips_of (seen rs) (neg_ℤ (pos e)) - strips_of (seen rs) (pos e))) (externals e (strips_of (seen rs) (pos e)) (strips_of (seen rs) (neg_ℤ (pos e)))) (seen rs₁) (seen rs)) where
    pub cleave_cuts₁ : Cuts max_edge (lines_in (seen rs₁)) e f p q
    cleave_cuts₁ = subst (λ x. Cuts max_edge x e f p q) gone.lines m

    pub cleave_room₁ : used slots (seen rs₁) + 2 ≤ slots
    cleave_room₁ = less (used slots (seen rs)) (used slots (seen rs₁)) (slots_taken bs l max_edge) (2 * (C - A)) slots (gone_used bs rs st e m.here rs₁ gone) st.room room
      where
        less : (u v t k s : ℕ) → u ≡ k + v → u ≡ t → t + 2 ≤ s → v + 2 ≤ s
        less u v t k s a b c = omega arith

    -- ---- the edge is cut
    module _ (rs₂ : List Halfedge) (lines₂ : lines_in (seen rs₂) ≡ cleft e f p (lines_in (seen rs₁))) (used₂ : used slots (seen rs₂) ≡ used slots (seen rs₁) + 2)
        (strips₂ : strips_of (seen rs₂) ≡ at (pos f) (strip_of bs p.x) (at (neg_ℤ (pos e)) (strip_of bs p.x) (at (neg_ℤ (pos f)) (strip_of bs q.x) (strips_of (seen rs₁))))) where
      lines_two : lines_in (seen rs₂) ≡ l'
      lines_two = lines₂ ∙ ap (cleft e f p) (sym gone.lines)

      strips_are : strips_of (seen rs₂) ≡ at (pos f) M (at E M (at F C (strips_of (seen rs))))
      strips_are = strips₂ ∙ ap₂ (λ k g. at (pos f) M (at E M (at F k g))) cleave_east (sym gone.strips)

      west_e : strips_of (seen rs₂) (pos e) ≡ A
      west_e =
          ap (λ g. g (pos e)) strips₂ ∙ at_off (pos f) M (at E M (at F (strip_of bs q.x) (strips_of (seen rs₁)))) (pos e) e_f
          ∙ at_off E M (at F (strip_of bs q.x) (strips_of (seen rs₁))) (pos e) (two_names e one) ∙ at_off F (strip_of bs q.x) (strips_of (seen rs₁)) (pos e) e_F ∙ gone_west bs rs st e m.here rs₁ gone

      east_e : strips_of (seen rs₂) E ≡ M
      east_e = ap (λ g. g E) strips₂ ∙ at_off (pos f) M (at E M (at F (strip_of bs q.x) (strips_of (seen rs₁)))) E (λ z. f_E (sym z)) ∙ at_on E M (at F (strip_of bs q.x) (strips_of (seen rs₁)))

      west_f : strips_of (seen rs₂) (pos f) ≡ M
      west_f = ap (λ g. g (pos f)) strips₂ ∙ at_on (pos f) M (at E M (at F (strip_of bs q.x) (strips_of (seen rs₁))))

      east_f : strips_of (seen rs₂) F ≡ C
      east_f =
          ap (λ g. g F) strips₂ ∙ at_off (pos f) M (at E M (at F (strip_of bs q.x) (strips_of (seen rs₁)))) F (λ z. two_names f m.low (sym z))
          ∙ at_off E M (at F (strip_of bs q.x) (strips_of (seen rs₁))) F (λ z. E_F (sym z)) ∙ at_on F (strip_of bs q.x) (strips_of (seen rs₁)) ∙ cleave_east

      pub cleave_here₂ : (turn_of (seen rs₂)).held (pos e) ≡ true
      cleave_here₂ = ap (λ x. x.turn.held (pos e)) lines_two ∙ at_off (pos f) true (at F true l.turn.held) (pos e) e_f ∙ at_off F true l.turn.held (pos e) e_F ∙ m.here

      pub cleave_eastward₂ : strips_of (seen rs₂) (pos e) ≤ strips_of (seen rs₂) (neg_ℤ (pos e))
      cleave_eastward₂ = less A M (strips_of (seen rs₂) (pos e)) (strips_of (seen rs₂) E) half_on.order west_e east_e
        where
          less : (a b x y : ℕ) → a ≤ b → x ≡ a → y ≡ b → x ≤ y
          less a b x y o s t = omega arith

      pub cleave_room₂ : used slots (seen rs₂) + 2 * (strips_of (seen rs₂) (neg_ℤ (pos e)) - strips_of (seen rs₂) (pos e)) ≤ slots
      cleave_room₂ = less (used slots (seen rs)) (used slots (seen rs₁)) (used slots (seen rs₂)) (slots_taken bs l max_edge) A M C (strips_of (seen rs₂) (pos e)) (strips_of (seen rs₂) E) slots
          (gone_used bs rs st e m.here rs₁ gone) used₂ st.room room west_e east_e half_on.order order_east
        where
          less : (u v w t a b c x y s : ℕ) → u ≡ 2 * (c - a) + v → w ≡ v + 2 → u ≡ t → t + 2 ≤ s → x ≡ a → y ≡ b → a ≤ b → b ≤ c → w + 2 * (y - x) ≤ s
          less u v w t a b c x y s i j k n o r g h = omega arith

      -- ---- the rows of the western part are there
      module _ (rs₃ : List Halfedge) (third : Planted slots (2 * (strips_of (seen rs₂) (neg_ℤ (pos e)) - strips_of (seen rs₂) (pos e))) (externals e (strips_of (seen rs₂) (pos e)) (strips_of (seen rs₂) (neg_ℤ (pos e)))) (seen rs₂) (seen rs₃)) where
        west_f₃ : strips_of (seen rs₃) (pos f) ≡ M
        west_f₃ = ap (λ g. g (pos f)) third.strips ∙ west_f

        east_f₃ : strips_of (seen rs₃) F ≡ C
        east_f₃ = ap (λ g. g F) third.strips ∙ east_f

        used₃ : used slots (seen rs₃) ≡ 2 * (M - A) + used slots (seen rs₂)
        used₃ = third.used ∙ ap₂ (λ a b. 2 * (b - a) + used slots (seen rs₂)) west_e east_e

        pub cleave_here₃ : (turn_of (seen rs₃)).held (pos f) ≡ true
        cleave_here₃ = ap (λ x. x.turn.held (pos f)) (third.lines ∙ lines_two) ∙ whole_on.plus

        pub cleave_eastward₃ : strips_of (seen rs₃) (pos f) ≤ strips_of (seen rs₃) (neg_ℤ (pos f))
        cleave_eastward₃ = less M C (strips_of (seen rs₃) (pos f)) (strips_of (seen rs₃) F) order_east west_f₃ east_f₃
          where
            less : (a b x y : ℕ) → a ≤ b → x ≡ a → y ≡ b → x ≤ y
            less a b x y o s t = omega arith

        pub cleave_room₃ : used slots (seen rs₃) + 2 * (strips_of (seen rs₃) (neg_ℤ (pos f)) - strips_of (seen rs₃) (pos f)) ≤ slots
        cleave_room₃ = less (used slots (seen rs)) (used slots (seen rs₁)) (used slots (seen rs₂)) (used slots (seen rs₃)) (slots_taken bs l max_edge) A M C (strips_of (seen rs₃) (pos f)) (strips_of (seen rs₃) F) slots
            (gone_used bs rs st e m.here rs₁ gone) used₂ used₃ st.room room west_f₃ east_f₃ half_on.order order_east
          where
            less : (u v w z t a b c x y s : ℕ) → u ≡ 2 * (c - a) + v → w ≡ v + 2 → z ≡ 2 * (b - a) + w → u ≡ t → t + 2 ≤ s → x ≡ b → y ≡ c → a ≤ b → b ≤ c → z + 2 * (y - x) ≤ s
            less u v w z t a b c x y s i j k n o r g h d = omega arith

        -- ---- and those of the eastern part
        module _ (counted₂ : (i : ℕ) (h : ℤ) → (h ≡ pos 0 → ⊥)
            → indicator (same_place (strips_of (seen rs₁) (neg_ℤ (pos e))) (neg_ℤ (pos e)) i h) + slot_count slots (seen rs₂) i h
            ≡ indicator (same_place (strip_of bs p.x) (pos f) i h) + (indicator (same_place (strip_of bs p.x) (neg_ℤ (pos e)) i h) + (indicator (same_place (strip_of bs q.x) (neg_ℤ (pos f)) i h) + slot_count slots (seen rs₁) i h)))
            (rs₄ : List Halfedge) (core₄ : Core max_edge slots rs₄) (unlinked : Unlinked slots (seen rs) → Unlinked slots (seen rs₄))
            (fourth : Planted slots (2 * (strips_of (seen rs₃) (neg_ℤ (pos f)) - strips_of (seen rs₃) (pos f))) (externals f (strips_of (seen rs₃) (pos f)) (strips_of (seen rs₃) (neg_ℤ (pos f)))) (seen rs₃) (seen rs₄)) where
          pub cleave_lines : lines_in (seen rs₄) ≡ cleft e f p (lines_in (seen rs))
          cleave_lines = fourth.lines ∙ third.lines ∙ lines_two

          counts : (i : ℕ) (h : ℤ) → (h ≡ pos 0 → ⊥) → slot_count slots (seen rs₄) i h ≡ indicator (runs_through bs l' i h)
          counts i h some =
              sum (slot_count slots (seen rs) i h) (slot_count slots (seen rs₁) i h) (slot_count slots (seen rs₂) i h) (slot_count slots (seen rs₃) i h) (slot_count slots (seen rs₄) i h)
              (externals e A C i h) (externals e A M i h) (externals f M C i h) (indicator (same_place A (pos e) i h)) (indicator (same_place C E i h)) (indicator (same_place M E i h)) (indicator (same_place M (pos f) i h)) (indicator (same_place C F i h))
              (spanned e A C i h) (spanned e A M i h) (spanned f M C i h) (indicator (runs_through bs (lifted e l) i h)) (indicator (runs_through bs l' i h))
              (gone_counted bs rs st e m.here rs₁ gone i h some)
              (ap (λ k. indicator (same_place k E i h) + slot_count slots (seen rs₂) i h) (sym (gone_east bs rs st e m.here rs₁ gone)) ∙ counted₂ i h some
              ∙ ap (λ k. indicator (same_place M (pos f) i h) + (indicator (same_place M E i h) + (indicator (same_place k F i h) + slot_count slots (seen rs₁) i h))) cleave_east)
              (third.counted i h some ∙ ap₂ (λ a b. externals e a b i h + slot_count slots (seen rs₂) i h) west_e east_e)
              (fourth.counted i h some ∙ ap₂ (λ a b. externals f a b i h + slot_count slots (seen rs₃) i h) west_f₃ east_f₃)
              (spanned_is e A C i h one (edge_on bs rs st e m.here).order) (spanned_is e A M i h one half_on.order) (spanned_is f M C i h m.low order_east)
              (st.each i h some ∙ without_runs bs rs st e m.here i h) (runs i h)
            where
              sum : (c₀ c₁ c₂ c₃ c₄ xac xam xmc ae ce me mf cf sac sam smc rest goal : ℕ) → c₀ ≡ xac + c₁ → ce + c₂ ≡ mf + (me + (cf + c₁)) → c₃ ≡ xam + c₂ → c₄ ≡ xmc + c₃
                  → sac ≡ xac + (ce + ae) → sam ≡ xam + (me + ae) → smc ≡ xmc + (cf + mf) → c₀ ≡ sac + rest → goal ≡ smc + (sam + rest) → c₄ ≡ goal
              sum c₀ c₁ c₂ c₃ c₄ xac xam xmc ae ce me mf cf sac sam smc rest goal a b c d g h i j k = omega arith

          strips₄ : strips_of (seen rs₄) ≡ at (pos f) M (at E M (at F C (strips_of (seen rs))))
          strips₄ = fourth.strips ∙ third.strips ∙ strips_are

          homes : (h : ℤ) → l'.turn.held h ≡ true → strips_of (seen rs₄) h ≡ home_strip bs l' h
          homes h held = ap (λ g. g h) strips₄ ∙ go (tell h (pos f)) (tell h E) (tell h F)
            where
              go : Tells h (pos f) → Tells h E → Tells h F → at (pos f) M (at E M (at F C (strips_of (seen rs)))) h ≡ home_strip bs l' h
              go (inl z) y x = cond-true _ _ _ z.0 ∙ sym whole_on.starts ∙ ap (home_strip bs l') (sym z.1)
              go (inr z) (inl y) x =
                  cond-false _ _ _ z.0 ∙ cond-true _ _ _ y.0
                  ∙ sym (ap (λ o. strip_of bs (x_of o))
                  (at_off F (l.points E) (at (pos f) (Some p) (at E (Some p) l.points)) h (λ w. E_F (sym y.1 ∙ w)) ∙ at_off (pos f) (Some p) (at E (Some p) l.points) h z.1 ∙ cond-true _ _ _ y.0))
              go (inr z) (inr y) (inl x) = cond-false _ _ _ z.0 ∙ cond-false _ _ _ y.0 ∙ cond-true _ _ _ x.0 ∙ sym whole_on.ends ∙ ap (home_strip bs l') (sym x.1)
              go (inr z) (inr y) (inr x) =
                  let old : l.turn.held h ≡ true = sym (at_off (pos f) true (at F true l.turn.held) h z.1 ∙ at_off F true l.turn.held h x.1) ∙ held in
                  cond-false _ _ _ z.0 ∙ cond-false _ _ _ y.0 ∙ cond-false _ _ _ x.0 ∙ (tally_of bs rs st).homes h old
                  ∙ sym (ap (λ o. strip_of bs (x_of o))
                  (at_off F (l.points E) (at (pos f) (Some p) (at E (Some p) l.points)) h x.1 ∙ at_off (pos f) (Some p) (at E (Some p) l.points) h z.1 ∙ at_off E (Some p) l.points h y.1))

          all : used slots (seen rs₄) ≡ slots_taken bs l' max_edge
          all = sum (used slots (seen rs)) (used slots (seen rs₁)) (used slots (seen rs₂)) (used slots (seen rs₃)) (used slots (seen rs₄)) (slots_taken bs l max_edge) (slots_taken bs (lifted e l) max_edge) (slots_taken bs l' max_edge) A M C
              (gone_used bs rs st e m.here rs₁ gone) used₂ used₃ (fourth.used ∙ ap₂ (λ a b. 2 * (b - a) + used slots (seen rs₃)) west_f₃ east_f₃) st.room (without_taken bs rs st e m.here) taken half_on.order order_east
            where
              sum : (u₀ u₁ u₂ u₃ u₄ t tm t' a b c : ℕ) → u₀ ≡ 2 * (c - a) + u₁ → u₂ ≡ u₁ + 2 → u₃ ≡ 2 * (b - a) + u₂ → u₄ ≡ 2 * (c - b) + u₃ → u₀ ≡ t → t ≡ 2 * suc (c - a) + tm → t' ≡ 2 * suc (c - b) + (2 * suc (b - a) + tm) → a ≤ b → b ≤ c → u₄ ≡ t'
              sum u₀ u₁ u₂ u₃ u₄ t tm t' a b c g h i j k n o r s = omega arith

          pub cleave_stripped : Stripped max_edge slots bs rs₄
          cleave_stripped =
              stripped_by bs rs₄ core₄ (unlinked st.external)
              (subst (λ x. Tally bs x (strips_of (seen rs₄)) (slot_count slots (seen rs₄)) (used slots (seen rs₄))) (sym cleave_lines) (record { each = counts; homes = homes; room = all }))
