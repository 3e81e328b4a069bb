-- What a stripped sheet's memory keeps through its changes. Assumes nothing.
use Rattle.std.proofs.Common.{◌≡◌, ℕ, suc, ◌+◌, ◌-◌, ◌*◌, ◌≤◌, true, false, List, ℤ, pos, neg_ℤ, Some, None, Option, sym, ap, ◌∙◌, ap₂, inl, inr, arith}
use Rattle.std.proofs.lemmas.Bool.{cond-true, cond-false}
use Rattle.flat.specs.Orbits.{indicator}
use Rattle.turning.specs.Limits.{max_edge, slots}
use Rattle.chart.specs.declared.point.Point.{Point}
use Rattle.chart.specs.declared.point.End.{End}
use Rattle.chart.specs.Changes.{at, put}
use Rattle.chart.specs.Linework.{Linework}
use Rattle.laws.specs.Keeps.{Sound}
use Rattle.laws.specs.Rotations.{Ends}
use Rattle.laws.proofs.Equal.{tell, Tells}
use Rattle.halfedges.specs.declared.halfedge.Halfedge.{Halfedge}
use Rattle.halfedges.specs.View.{View, seen, row_of}
use Rattle.halfedges.specs.Rows.{turn_of, strips_of, row_point, lines_in, used, Unlinked, same_place, slot_count, externals, Planted, Core, hung_between}
use Rattle.halfedges.proofs.EdgeCount.{held_put}
use Rattle.strips.specs.Borders.{strip_of, apart, x_of, home_strip, runs_through, slots_taken}
use Rattle.strips.specs.Sheets.{Stripped}
use Rattle.strips.proofs.Spans.{spanned, spanned_is, names_edge, names_off, AgreeOff}
use Rattle.strips.proofs.Gains.{On, gain_runs, gain_taken, at_on, at_off, two_names, west_order, not_held}

-- the strips of the home rows are those of their points
pub home_is : (bs : List ℤ) (v : View) (h : ℤ) → (turn_of v).held h ≡ true → home_strip bs (lines_in v) h ≡ strip_of bs (row_of v h).x
home_is bs v h held = ap (λ p. strip_of bs (x_of p)) (cond-true ((turn_of v).held h) (Some (row_point (row_of v h))) None held)

-- what a stripped sheet counts, in the words of its line work
pub record Tally (bs : List ℤ) (l : Linework) (strips : ℤ → ℕ) (counts : ℕ → ℤ → ℕ) (all : ℕ) : Type 0 where
  pub each : (i : ℕ) (h : ℤ) → (h ≡ pos 0 → ⊥) → counts i h ≡ indicator (runs_through bs l i h)
  pub homes : (h : ℤ) → l.turn.held h ≡ true → strips h ≡ home_strip bs l h
  pub room : all ≡ slots_taken bs l max_edge

pub tally_of : (bs : List ℤ) (rs : List Halfedge) → Stripped max_edge slots bs rs → Tally bs (lines_in (seen rs)) (strips_of (seen rs)) (slot_count slots (seen rs)) (used slots (seen rs))
tally_of bs rs s = record { each = s.each; homes = λ h held. s.homes h held ∙ sym (home_is bs (seen rs) h held); room = s.room }

pub stripped_by : (bs : List ℤ) (rs : List Halfedge) → Core max_edge slots rs → Unlinked slots (seen rs) → Tally bs (lines_in (seen rs)) (strips_of (seen rs)) (slot_count slots (seen rs)) (used slots (seen rs)) → Stripped max_edge slots bs rs
stripped_by bs rs core free t = record { core = core; each = t.each; homes = λ h held. t.homes h held ∙ home_is bs (seen rs) h held; external = free; room = t.room }

-- ---- hang
module _ (bs : List ℤ) (l l' : Linework) (sound : Sound max_edge l) (e : ℕ) (p q : Point) (c d : Option ℤ) (m : Ends max_edge l e p q c d)
    (held' : (h : ℤ) → l'.turn.held h ≡ at (neg_ℤ (pos e)) true (at (pos e) true l.turn.held) h)
    (points' : (h : ℤ) → l'.points h ≡ at (neg_ℤ (pos e)) (Some q) (at (pos e) (Some p) l.points) h) where
  abbrev E : ℤ
  E = neg_ℤ (pos e)

  hang_agree : AgreeOff e l l'
  hang_agree h off =
      let d = names_off e h off in (
        held' h ∙ at_off E true (at (pos e) true l.turn.held) h d.1 ∙ at_off (pos e) true l.turn.held h d.0,
        points' h ∙ at_off E (Some q) (at (pos e) (Some p) l.points) h d.1 ∙ at_off (pos e) (Some p) l.points h d.0,
      )

  point_west : l'.points (pos e) ≡ Some p
  point_west = points' (pos e) ∙ at_off E (Some q) (at (pos e) (Some p) l.points) (pos e) (two_names e m.low) ∙ at_on (pos e) (Some p) l.points

  point_east : l'.points E ≡ Some q
  point_east = points' E ∙ at_on E (Some q) (at (pos e) (Some p) l.points)

  pub hang_on : On bs e (strip_of bs p.x) (strip_of bs q.x) l'
  hang_on = record {
    plus = held' (pos e) ∙ at_off E true (at (pos e) true l.turn.held) (pos e) (two_names e m.low) ∙ at_on (pos e) true l.turn.held;
    minus = held' E ∙ at_on E true (at (pos e) true l.turn.held);
    starts = ap (λ o. strip_of bs (x_of o)) point_west;
    ends = ap (λ o. strip_of bs (x_of o)) point_east;
    order = west_order bs p q m.west;
  }

  pub hang_tally : (strips strips' : ℤ → ℕ) (counts counts' : ℕ → ℤ → ℕ) (all all' : ℕ) → Tally bs l strips counts all
      → ((h : ℤ) → strips' h ≡ at (neg_ℤ (pos e)) (strip_of bs q.x) (at (pos e) (strip_of bs p.x) strips) h)
      → ((i : ℕ) (h : ℤ) → (h ≡ pos 0 → ⊥) → counts' i h ≡ spanned e (strip_of bs p.x) (strip_of bs q.x) i h + counts i h)
      → all' ≡ 2 * suc (strip_of bs q.x - strip_of bs p.x) + all
      → Tally bs l' strips' counts' all'
  hang_tally strips strips' counts counts' all all' t in-strips counted more = record {
    each = λ i h some.
        counted i h some ∙ ap (λ k. spanned e (strip_of bs p.x) (strip_of bs q.x) i h + k) (t.each i h some)
        ∙ sym (gain_runs bs max_edge e m.low m.high l l' hang_agree (not_held max_edge l sound e m.new) (strip_of bs p.x) (strip_of bs q.x) hang_on i h);
    homes = λ h held. in-strips h ∙ homes h held (tell h E) (tell h (pos e));
    room = more ∙ ap (λ k. 2 * suc (strip_of bs q.x - strip_of bs p.x) + k) t.room
        ∙ sym (gain_taken bs max_edge e m.low m.high l l' hang_agree (not_held max_edge l sound e m.new) (strip_of bs p.x) (strip_of bs q.x) hang_on);
  }
    where
      homes : (h : ℤ) → l'.turn.held h ≡ true → Tells h E → Tells h (pos e) → at E (strip_of bs q.x) (at (pos e) (strip_of bs p.x) strips) h ≡ home_strip bs l' h
      homes h held (inl z) w = cond-true _ _ _ z.0 ∙ sym hang_on.ends ∙ ap (home_strip bs l') (sym z.1)
      homes h held (inr z) (inl w) = cond-false _ _ _ z.0 ∙ cond-true _ _ _ w.0 ∙ sym hang_on.starts ∙ ap (home_strip bs l') (sym w.1)
      homes h held (inr z) (inr w) =
          let away : names_edge e h ≡ false = grind (arith, tell (pos e) h, tell (neg_ℤ (pos e)) h, z.1, w.1) in
          let same = hang_agree h away in
          cond-false _ _ _ z.0 ∙ cond-false _ _ _ w.0 ∙ t.homes h (sym same.0 ∙ held) ∙ ap (λ o. strip_of bs (x_of o)) (sym same.1)

-- the edge e between its ends, in a stripped sheet with room for it
module _ (bs : List ℤ) (rs : List Halfedge) (st : Stripped max_edge slots bs rs) (e : ℕ) (a b : End) (m : Ends max_edge (lines_in (seen rs)) e a.point b.point a.corner b.corner)
    (room : slots_taken bs (lines_in (seen rs)) max_edge + 2 * suc (apart (strip_of bs a.point.x) (strip_of bs b.point.x)) ≤ slots) where
  abbrev l : Linework
  l = lines_in (seen rs)

  abbrev A : ℕ
  A = strip_of bs a.point.x

  abbrev B : ℕ
  B = strip_of bs b.point.x

  order : A ≤ B
  order = west_order bs a.point b.point m.west

  pub hang_room₀ : used slots (seen rs) + 2 ≤ slots
  hang_room₀ = less (used slots (seen rs)) (slots_taken bs l max_edge) A B slots st.room room
    where
      less : (u t a b s : ℕ) → u ≡ t → t + 2 * suc ((a - b) + (b - a)) ≤ s → u + 2 ≤ s
      less u t a b s p q = omega arith

  module _ (rs₁ : List Halfedge) (lines₁ : lines_in (seen rs₁) ≡ hung_between e a b (lines_in (seen rs)))
      (strips₁ : strips_of (seen rs₁) ≡ at (neg_ℤ (pos e)) (strip_of bs b.point.x) (at (pos e) (strip_of bs a.point.x) (strips_of (seen rs))))
      (used₁ : used slots (seen rs₁) ≡ used slots (seen rs) + 2) where
    west₁ : strips_of (seen rs₁) (pos e) ≡ A
    west₁ = ap (λ f. f (pos e)) strips₁ ∙ at_off (neg_ℤ (pos e)) B (at (pos e) A (strips_of (seen rs))) (pos e) (two_names e m.low) ∙ at_on (pos e) A (strips_of (seen rs))

    east₁ : strips_of (seen rs₁) (neg_ℤ (pos e)) ≡ B
    east₁ = ap (λ f. f (neg_ℤ (pos e))) strips₁ ∙ at_on (neg_ℤ (pos e)) B (at (pos e) A (strips_of (seen rs)))

    held₁ : (h : ℤ) → (lines_in (seen rs₁)).turn.held h ≡ at (neg_ℤ (pos e)) true (at (pos e) true l.turn.held) h
    held₁ h = ap (λ x. x.turn.held h) lines₁ ∙ held_put b.corner (neg_ℤ (pos e)) (put a.corner (pos e) (turn_of (seen rs))) h
        ∙ ap (λ f. at (neg_ℤ (pos e)) true f h) (λ i g. held_put a.corner (pos e) (turn_of (seen rs)) g i)

    points₁ : (h : ℤ) → (lines_in (seen rs₁)).points h ≡ at (neg_ℤ (pos e)) (Some b.point) (at (pos e) (Some a.point) l.points) h
    points₁ h = ap (λ x. x.points h) lines₁

    pub hang_here₁ : (turn_of (seen rs₁)).held (pos e) ≡ true
    hang_here₁ = (hang_on bs l (lines_in (seen rs₁)) st.core.sound e a.point b.point a.corner b.corner m held₁ points₁).plus

    pub hang_eastward₁ : strips_of (seen rs₁) (pos e) ≤ strips_of (seen rs₁) (neg_ℤ (pos e))
    hang_eastward₁ = let x = west₁ in let y = east₁ in let o = order in omega (arith, x, y, o)

    pub hang_room₁ : used slots (seen rs₁) + 2 * (strips_of (seen rs₁) (neg_ℤ (pos e)) - strips_of (seen rs₁) (pos e)) ≤ slots
    hang_room₁ = less (used slots (seen rs)) (used slots (seen rs₁)) (slots_taken bs l max_edge) A B (strips_of (seen rs₁) (pos e)) (strips_of (seen rs₁) (neg_ℤ (pos e))) slots st.room room used₁ order west₁ east₁
      where
        less : (u v t a b x y s : ℕ) → u ≡ t → t + 2 * suc ((a - b) + (b - a)) ≤ s → v ≡ u + 2 → a ≤ b → x ≡ a → y ≡ b → v + 2 * (y - x) ≤ s
        less u v t a b x y s p q r o i j = omega arith

    module _ (counted₁ : (i : ℕ) (h : ℤ) → (h ≡ pos 0 → ⊥) → slot_count slots (seen rs₁) i h ≡ indicator (same_place (strip_of bs b.point.x) (neg_ℤ (pos e)) i h) + (indicator (same_place (strip_of bs a.point.x) (pos e) i h) + slot_count slots (seen rs) i h))
        (unlinked₁ : Unlinked slots (seen rs) → Unlinked slots (seen rs₁)) (rs₂ : List Halfedge) (core₂ : Core max_edge slots rs₂)
        (planted : Planted slots (2 * (strips_of (seen rs₁) (neg_ℤ (pos e)) - strips_of (seen rs₁) (pos e))) (externals e (strips_of (seen rs₁) (pos e)) (strips_of (seen rs₁) (neg_ℤ (pos e)))) (seen rs₁) (seen rs₂))
        (unlinked₂ : Unlinked slots (seen rs₁) → Unlinked slots (seen rs₂)) where
      pub hang_lines : lines_in (seen rs₂) ≡ hung_between e a b (lines_in (seen rs))
      hang_lines = planted.lines ∙ lines₁

      pub hang_stripped : Stripped max_edge slots bs rs₂
      hang_stripped =
          stripped_by bs rs₂ core₂ (unlinked₂ (unlinked₁ st.external))
          (hang_tally bs l (lines_in (seen rs₂)) st.core.sound e a.point b.point a.corner b.corner m
          (λ h. ap (λ x. x.turn.held h) planted.lines ∙ held₁ h)
          (λ h. ap (λ x. x.points h) planted.lines ∙ points₁ h)
          (strips_of (seen rs)) (strips_of (seen rs₂)) (slot_count slots (seen rs)) (slot_count slots (seen rs₂)) (used slots (seen rs)) (used slots (seen rs₂))
          (tally_of bs rs st)
          (λ h. ap (λ f. f h) planted.strips ∙ ap (λ f. f h) strips₁)
          counts
          (more (used slots (seen rs)) (used slots (seen rs₁)) (used slots (seen rs₂)) A B (strips_of (seen rs₁) (pos e)) (strips_of (seen rs₁) (neg_ℤ (pos e))) used₁ planted.used west₁ east₁))
        where
          more : (u v w a b x y : ℕ) → v ≡ u + 2 → w ≡ 2 * (y - x) + v → x ≡ a → y ≡ b → w ≡ 2 * suc (b - a) + u
          more u v w a b x y p q r s = omega arith

          sum : (w v u s x p q : ℕ) → w ≡ x + v → v ≡ p + (q + u) → s ≡ x + (p + q) → w ≡ s + u
          sum w v u s x p q i j k = omega arith

          counts : (i : ℕ) (h : ℤ) → (h ≡ pos 0 → ⊥) → slot_count slots (seen rs₂) i h ≡ spanned e A B i h + slot_count slots (seen rs) i h
          counts i h some =
              sum (slot_count slots (seen rs₂) i h) (slot_count slots (seen rs₁) i h) (slot_count slots (seen rs) i h) (spanned e A B i h) (externals e A B i h) _ _
              (planted.counted i h some ∙ ap₂ (λ x y. externals e x y i h + slot_count slots (seen rs₁) i h) west₁ east₁)
              (counted₁ i h some) (spanned_is e A B i h m.low order)
