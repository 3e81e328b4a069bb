-- A cut and a knit as a whole, once their questions are asked. Assumes nothing.
use Rattle.std.proofs.Common.{◌≡◌, ℕ, suc, ◌+◌, ◌*◌, ◌<◌, ◌≤◌, Bool, true, false, cond, not, leb, List, length, ℤ, Ok, Err, sym, refl, ap, ◌∙◌, subst, ap₂, arith}
use Rattle.std.proofs.lemmas.Bool.{cond-true, cond-false, le-leb, not-true, not_from_false}
use Rattle.std.proofs.lemmas.Bool.Decides.{leb_tells}
use Rattle.turning.specs.Limits.{max_edge, max_strips, slots}
use Rattle.turning.specs.declared.refusal.Refusal.{Refusal}
use Rattle.turning.specs.declared.refusal.Refusal.TheVariants.{BorderOutOfRange, WrongBorder, NoRoom}
use Rattle.turning.specs.Refusals.{Outcome, granted, outcome}
use Rattle.chart.specs.declared.point.Point.{Point}
use Rattle.chart.specs.Points.{within}
use Rattle.chart.specs.Linework.{Linework, Placed}
use Rattle.halfedges.specs.declared.halfedge.Halfedge.{Halfedge}
use Rattle.halfedges.specs.View.{seen}
use Rattle.halfedges.specs.Rows.{lines_in}
use Rattle.strips.specs.Borders.{strip_count, slots_taken, fits_in}
use Rattle.strips.specs.Seams.{with_border, without_border, is_border, crossings, cut_questions, bordered, Bordered, Cuts, Knits, CutThenKnit, RoomsAlike}
use Rattle.strips.specs.Sheets.{room_of, sheet_of}
use Rattle.strips.proofs.Stitching.{taken_with, without_with, border_with}

-- the same line work and the same slots, in other borders
bordered_is : (bs bs' : List ℤ) (rs rs' : List Halfedge) → lines_in (seen rs') ≡ lines_in (seen rs) → room_of rs' ≡ room_of rs → sheet_of bs' rs' ≡ bordered max_edge bs' (sheet_of bs rs)
bordered_is bs bs' rs rs' lines room =
    ap₂ (λ (l : Linework) (s : ℕ). record { lines = l; frame = record { borders = bs'; slots = s }; fits = λ p q. fits_in max_edge bs' l s p q }) lines room

module _ (bs : List ℤ) (rs : List Halfedge) (x : ℤ) (inside : within x ≡ true) where
  module _ (new : is_border x bs ≡ false) (few : strip_count bs < max_strips) (placed : Placed max_edge (lines_in (seen rs)).turn (lines_in (seen rs)).points) where
    -- what is left to ask
    left : outcome (cut_questions max_edge (sheet_of bs rs) x) ≡ cond (leb (slots_taken bs (lines_in (seen rs)) max_edge + 2 * crossings x (lines_in (seen rs)) max_edge) (room_of rs)) granted (Err NoRoom)
    left = cond-true (within x) _ _ inside ∙ cond-true (not (is_border x bs)) _ _ (not_from_false _ new) ∙ cond-true (leb (suc (strip_count bs)) max_strips) _ _ (le-leb _ _ few)

    -- the slots of the new borders are counted two by two
    same_room : leb (slots_taken bs (lines_in (seen rs)) max_edge + 2 * crossings x (lines_in (seen rs)) max_edge) (room_of rs) ≡ leb (slots_taken (with_border x bs) (lines_in (seen rs)) max_edge) (room_of rs)
    same_room = ap (λ k. leb k (room_of rs)) (sym (taken_with max_edge (lines_in (seen rs)) placed x bs max_edge))

    pub cut_full : room_of rs < slots_taken (with_border x bs) (lines_in (seen rs)) max_edge → Err NoRoom ≡ outcome (cut_questions max_edge (sheet_of bs rs) x)
    cut_full over = sym (left ∙ cond-false _ _ _ (same_room ∙ less (slots_taken (with_border x bs) (lines_in (seen rs)) max_edge) (room_of rs) over))
      where
        less : (k r : ℕ) → r < k → leb k r ≡ false
        less k r l = grind (arith, leb_tells k r)

    pub cut_done : (bs' : List ℤ) (rs' : List Halfedge) → bs' ≡ with_border x bs → slots_taken (with_border x bs) (lines_in (seen rs)) max_edge ≤ room_of rs → lines_in (seen rs') ≡ lines_in (seen rs) → room_of rs' ≡ room_of rs
        → Cuts max_edge (sheet_of bs rs) x granted (sheet_of bs' rs')
    cut_done bs' rs' put fits lines room = record {
      told = sym (left ∙ cond-true _ _ _ (same_room ∙ le-leb _ _ fits));
      changed = ap (λ cs. sheet_of cs rs') put ∙ bordered_is bs (with_border x bs) rs rs' lines room;
    }

  pub knit_done : is_border x bs ≡ true → (bs' : List ℤ) (rs' : List Halfedge) → bs' ≡ without_border x bs → lines_in (seen rs') ≡ lines_in (seen rs) → room_of rs' ≡ room_of rs
      → Knits max_edge (sheet_of bs rs) x granted (sheet_of bs' rs')
  knit_done here bs' rs' put lines room = record {
    told = sym (cond-true (within x) _ _ inside ∙ cond-true (is_border x bs) _ _ here);
    changed = ap (λ cs. sheet_of cs rs') put ∙ bordered_is bs (without_border x bs) rs rs' lines room;
  }

-- ---- a cut and a knit at the same border
zero_one : ◌≡◌ {A = ℕ} 0 1 → ⊥
zero_one e = omega arith

-- a table that is answered yes has its first question answered yes
yes_first : (b : Bool) (r : Outcome) (x : Refusal) → granted ≡ cond b r (Err x) → (b ≡ true) × (granted ≡ r)
yes_first true r x e = (refl, e)
yes_first false r x e = let w : ◌≡◌ {A = ℕ} 0 1 = cc in absurd (zero_one w)

pub cut_then_knit : CutThenKnit
cut_then_knit n m m' m'' x (Err z) s told cut done knit = let w : ◌≡◌ {A = ℕ} 0 1 = cc in absurd (zero_one w)
cut_then_knit n m m' m'' x (Ok u) s told cut done knit = (yes, back)
  where
    bs : List ℤ
    bs = m.frame.borders

    inside : within x ≡ true
    inside = (yes_first (within x) _ BorderOutOfRange cut.told).0

    new : is_border x bs ≡ false
    new = not-true (is_border x bs) (yes_first (not (is_border x bs)) _ WrongBorder (yes_first (within x) _ BorderOutOfRange cut.told).1).0

    put : m' ≡ bordered n (with_border x bs) m
    put = cut.changed

    yes : s ≡ granted
    yes = knit.told ∙ cond-true (within x) _ _ inside ∙ cond-true (is_border x m'.frame.borders) _ _ (ap (λ k. is_border x k.frame.borders) put ∙ border_with x bs)

    out : without_border x m'.frame.borders ≡ bs
    out = ap (λ k. without_border x k.frame.borders) put ∙ without_with x bs new

    back : m'' ≡ m
    back =
        subst (λ o. Bordered n o (without_border x m'.frame.borders) m' m'') yes knit.changed
        ∙ ap₂ (bordered n) out put
        ∙ ap (λ (f : Point → Point → Bool). record { lines = m.lines; frame = m.frame; fits = f }) (sym told)

-- ---- equal charts in equal borders
whole_room : (rs : List Halfedge) → slots ≤ length rs → room_of rs ≡ slots
whole_room rs l = cond-true (leb slots (length rs)) slots 0 (le-leb _ _ l)

pub rooms_alike : RoomsAlike
rooms_alike bs rs rs' l l' same = ((λ p q. ap (λ m. m.fits p q) alike), (λ x. ap (λ m. outcome (cut_questions max_edge m x)) alike))
  where
    alike : sheet_of bs rs ≡ sheet_of bs rs'
    alike = ap₂ (λ (k : Linework) (s : ℕ). record { lines = k; frame = record { borders = bs; slots = s }; fits = λ p q. fits_in max_edge bs k s p q }) same (whole_room rs l ∙ sym (whole_room rs' l'))
