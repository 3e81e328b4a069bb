-- What always holds of a sheet, and what a change may count on once it was asked for. Assumes nothing.
use Rattle.std.proofs.Common.{◌≡◌, ℕ, zero, suc, ◌+◌, ◌-◌, ◌*◌, ◌≤◌, Bool, true, false, cond, leb, List, length, ℤ, pos, neg_ℤ, Some, None, Option, sym, refl, ap, ◌∙◌, subst, ap₂, subst₂, arith}
use mathlib.Core.HLevel.{hedberg}
use mathlib.Core.Logic.{∥∥₁_elim}
use native.Mathlib.Decide.{ℕ_discrete}
use lib.IntN.{ℤ_set}
use Rattle.std.proofs.lemmas.Bool.Decides.{leb_tells}
use Rattle.std.proofs.lemmas.Bool.{leb-true, le-leb, cond-true, cond-false, both_ways, and_parts}
use Rattle.flat.specs.Orbits.{indicator}
use Rattle.turning.specs.Limits.{max_edge, slots}
use Rattle.chart.specs.declared.point.Point.{Point}
use Rattle.chart.specs.declared.point.End.{End}
use Rattle.chart.specs.Changes.{western, eastern, may_hang, may_cleave}
use Rattle.chart.specs.Points.{west}
use Rattle.chart.specs.Linework.{no_lines}
use Rattle.laws.specs.Keeps.{Sound}
use Rattle.laws.specs.Rotations.{Ends, Cuts}
use Rattle.laws.proofs.Cleft.{cleave_cuts}
use Rattle.laws.proofs.Hung.{hang_ends}
use Rattle.halfedges.specs.declared.halfedge.Halfedge.{Halfedge}
use Rattle.halfedges.specs.View.{seen}
use Rattle.halfedges.specs.Rows.{points_of, lines_in, used, Blank}
use Rattle.halfedges.specs.Nothing.{short_lines, nothing_sound}
use Rattle.halfedges.proofs.Asked.{told_hang, told_cleave}
use Rattle.halfedges.proofs.Blank.{none_held, blank_lines, blank_core, blank_used, blank_slots, blank_unlinked}
use Rattle.halfedges.proofs.Counted.{used_within}
use Rattle.halfedges.proofs.Props.{core_prop}
use Rattle.strips.specs.Borders.{strip_of, apart, runs_through, slots_taken}
use Rattle.strips.specs.Sheets.{Stripped, Kept, room_of, frame_of, fits_of}

stripped_prop : (bs : List ℤ) (rs : List Halfedge) → IsProp (Stripped max_edge slots bs rs)
stripped_prop bs rs p q = λ i. record {
  core = core_prop max_edge slots rs p.core q.core i;
  each = λ j h some. hedberg ℕ_discrete _ _ (p.each j h some) (q.each j h some) i;
  homes = λ h held. hedberg ℕ_discrete _ _ (p.homes h held) (q.homes h held) i;
  external = λ s l u out. (ℤ_set _ _ (p.external s l u out).0 (q.external s l u out).0 i, ℤ_set _ _ (p.external s l u out).1 (q.external s l u out).1 i);
  room = hedberg ℕ_discrete _ _ p.room q.room i;
}

kept_prop : (bs : List ℤ) (rs : List Halfedge) → IsProp (Kept bs rs)
kept_prop bs rs p q = λ i l. stripped_prop bs rs (p l) (q l) i

pub kept_out : (bs : List ℤ) (rs : List Halfedge) → ∥ Kept bs rs ∥₁ → Kept bs rs
kept_out bs rs p = ∥∥₁_elim p (kept_prop bs rs) (λ k. k)

pub kept_sound : (bs : List ℤ) (rs : List Halfedge) → ∥ Kept bs rs ∥₁ → Sound max_edge (lines_in (seen rs))
kept_sound bs rs p = go (leb slots (length rs)) refl
  where
    go : (b : Bool) → leb slots (length rs) ≡ b → Sound max_edge (lines_in (seen rs))
    go true e = (kept_out bs rs p (leb-true _ _ e)).core.sound
    go false e = subst (Sound max_edge) (sym (short_lines max_edge slots rs e)) (nothing_sound max_edge)

-- a memory that is long enough before a change and after it has all its slots
pub same_frame : (bs : List ℤ) (rs rs' : List Halfedge) → slots ≤ length rs → Stripped max_edge slots bs rs' → frame_of bs rs' ≡ frame_of bs rs
same_frame bs rs rs' long after = ap (λ (k : ℕ). record { borders = bs; slots = k }) (whole rs' after.core.long ∙ sym (whole rs long))
  where
    whole : (rs : List Halfedge) → slots ≤ length rs → room_of rs ≡ slots
    whole rs l = cond-true (leb slots (length rs)) slots 0 (le-leb _ _ l)

-- ---- no line work
taken_none : (bs : List ℤ) (n : ℕ) → slots_taken bs no_lines n ≡ 0
unfolding slots_taken
taken_none bs zero = refl
taken_none bs (suc n) = let rec = taken_none bs n in omega arith

-- ---- slots
-- no sheet has more slots than there are
pub room_most : (rs : List Halfedge) → room_of rs ≤ slots
room_most rs = go (leb slots (length rs))
  where
    go : (b : Bool) → cond b slots 0 ≤ slots
    go true = omega arith
    go false = omega arith

-- nor do its edges take more
pub taken_most : (bs : List ℤ) (rs : List Halfedge) → ∥ Kept bs rs ∥₁ → slots_taken bs (lines_in (seen rs)) max_edge ≤ slots
taken_most bs rs p = go (leb slots (length rs)) refl
  where
    go : (b : Bool) → leb slots (length rs) ≡ b → slots_taken bs (lines_in (seen rs)) max_edge ≤ slots
    go true e = let r = (kept_out bs rs p (leb-true _ _ e)).room in let w = used_within slots (seen rs) in less (used slots (seen rs)) (slots_taken bs (lines_in (seen rs)) max_edge) slots r w
      where
        less : (u t s : ℕ) → u ≡ t → u ≤ s → t ≤ s
        less u t s a b = omega arith
    go false e = let z = ap (λ l. slots_taken bs l max_edge) (short_lines max_edge slots rs e) ∙ taken_none bs max_edge in none (slots_taken bs (lines_in (seen rs)) max_edge) slots z
      where
        none : (t s : ℕ) → t ≡ 0 → t ≤ s
        none t s a = omega arith

-- blank records are a stripped sheet, whatever its borders
pub blank_stripped : (bs : List ℤ) (rs : List Halfedge) → Blank rs → slots ≤ length rs → Stripped max_edge slots bs rs
blank_stripped bs rs all long = record {
  core = blank_core rs all long;
  each = λ i h some. blank_slots rs all long i h some ∙ sym (ap (λ l. indicator (runs_through bs l i h)) (blank_lines rs all long));
  homes = λ h held. absurd (both_ways _ (none_held rs all long h) held);
  external = blank_unlinked rs all long;
  room = blank_used rs all long ∙ sym (ap (λ l. slots_taken bs l max_edge) (blank_lines rs all long) ∙ taken_none bs max_edge);
}

-- a memory whose records are freed if it is long enough means a sheet that holds nothing
module _ (old rs : List Halfedge) (same : length rs ≡ length old) (freed : slots ≤ length old → Blank rs) where
  pub freed_kept : (bs : List ℤ) → Kept bs rs
  freed_kept bs long = blank_stripped bs rs (freed (omega arith)) long

  pub freed_lines : lines_in (seen rs) ≡ no_lines
  freed_lines = go (leb slots (length rs)) refl
    where
      go : (b : Bool) → leb slots (length rs) ≡ b → lines_in (seen rs) ≡ no_lines
      go true e = let long : slots ≤ length rs = leb-true slots (length rs) e in blank_lines rs (freed (omega arith)) long
      go false e = short_lines max_edge slots rs e

-- ---- what fits
-- how many slots an edge between the two points takes
abbrev pub slots_between : List ℤ → Point → Point → ℕ
slots_between bs p q = 2 * suc (apart (strip_of bs p.x) (strip_of bs q.x))

-- nothing fits in a memory that is too short
pub short_fits : (bs : List ℤ) (rs : List Halfedge) (p q : Point) → leb slots (length rs) ≡ false → fits_of bs rs p q ≡ false
short_fits bs rs p q short =
    ap (leb (slots_taken bs (lines_in (seen rs)) max_edge + slots_between bs p q)) (cond-false (leb slots (length rs)) slots 0 short)
    ∙ none (slots_taken bs (lines_in (seen rs)) max_edge) (apart (strip_of bs p.x) (strip_of bs q.x))
  where
    none : (t k : ℕ) → leb (t + 2 * suc k) 0 ≡ false
    none t k = grind (arith, leb_tells (t + 2 * suc k) 0)

-- in a longer one, what the slots in use leave room for
pub long_fits : (bs : List ℤ) (rs : List Halfedge) → Kept bs rs → (p q : Point) → slots ≤ length rs → fits_of bs rs p q ≡ leb (used slots (seen rs) + slots_between bs p q) slots
long_fits bs rs kept p q long =
    let l : leb slots (length rs) ≡ true = grind (arith, leb_tells slots (length rs), long) in
    ap₂ (λ t s. leb (t + slots_between bs p q) s) (sym (kept long).room) (cond-true (leb slots (length rs)) slots 0 l)

pub fits_long : (bs : List ℤ) (rs : List Halfedge) (p q : Point) → fits_of bs rs p q ≡ true → slots ≤ length rs
fits_long bs rs p q e = go (leb slots (length rs)) refl
  where
    go : (b : Bool) → leb slots (length rs) ≡ b → slots ≤ length rs
    go true l = leb-true _ _ l
    go false l = absurd (both_ways _ (short_fits bs rs p q l) e)

pub fits_room : (bs : List ℤ) (rs : List Halfedge) (p q : Point) → fits_of bs rs p q ≡ true → slots_taken bs (lines_in (seen rs)) max_edge + slots_between bs p q ≤ slots
fits_room bs rs p q e = less (slots_taken bs (lines_in (seen rs)) max_edge + slots_between bs p q) (room_of rs) slots (leb-true _ _ e) (at_most (leb slots (length rs)))
  where
    less : (t r s : ℕ) → t ≤ r → r ≤ s → t ≤ s
    less t r s a b = omega arith

    at_most : (b : Bool) → cond b slots 0 ≤ slots
    at_most true = omega arith
    at_most false = omega arith

-- ---- what a change may count on
pub record Hangable (bs : List ℤ) (rs : List Halfedge) (e : ℕ) (a b : End) : Type 0 where
  pub stripped : Stripped max_edge slots bs rs
  pub ends : Ends max_edge (lines_in (seen rs)) e a.point b.point a.corner b.corner
  pub room : slots_taken bs (lines_in (seen rs)) max_edge + slots_between bs a.point b.point ≤ slots

pub hangable : (bs : List ℤ) (rs : List Halfedge) → ∥ Kept bs rs ∥₁ → (e : ℕ) (a b : End) (s : End × End) → (fits : Bool) → true ≡ may_hang max_edge (lines_in (seen rs)) (λ _ _. fits) e a b → fits ≡ fits_of bs rs a.point b.point
    → s.0 ≡ western a b → s.1 ≡ eastern a b → Hangable bs rs e s.0 s.1
hangable bs rs kept e a b s fits asked told is-west is-east =
    let may = sym (told_hang (lines_in (seen rs)) (fits_of bs rs) e a b fits true asked told) in
    let free : fits_of bs rs a.point b.point ≡ true = (and_parts _ _ may).1 in
    let stripped = kept_out bs rs kept (fits_long bs rs a.point b.point free) in
    subst₂ (Hangable bs rs e) (sym is-west) (sym is-east) (record {
      stripped = stripped;
      ends = hang_ends max_edge (lines_in (seen rs)) stripped.core.sound (fits_of bs rs) e a b may;
      room = either (west a.point b.point) (fits_room bs rs a.point b.point free);
    })
  where
    turn : (t x y s : ℕ) → t + 2 * suc ((x - y) + (y - x)) ≤ s → t + 2 * suc ((y - x) + (x - y)) ≤ s
    turn t x y s p = omega arith

    either : (w : Bool) → slots_taken bs (lines_in (seen rs)) max_edge + slots_between bs a.point b.point ≤ slots
        → slots_taken bs (lines_in (seen rs)) max_edge + slots_between bs (cond w a b).point (cond w b a).point ≤ slots
    either true p = p
    either false p = turn (slots_taken bs (lines_in (seen rs)) max_edge) (strip_of bs a.point.x) (strip_of bs b.point.x) slots p

pub record Cleavable (bs : List ℤ) (rs : List Halfedge) (e f : ℕ) (p to : Point) : Type 0 where
  pub stripped : Stripped max_edge slots bs rs
  pub cuts : Cuts max_edge (lines_in (seen rs)) e f p to
  pub room : slots_taken bs (lines_in (seen rs)) max_edge + 2 ≤ slots

pub cleavable : (bs : List ℤ) (rs : List Halfedge) → ∥ Kept bs rs ∥₁ → (e f : ℕ) (p to : Point) → (fits : Bool) → true ≡ may_cleave max_edge (lines_in (seen rs)) (λ _ _. fits) e f p → fits ≡ fits_of bs rs p p
    → points_of (seen rs) (neg_ℤ (pos e)) ≡ Some to → Cleavable bs rs e f p to
cleavable bs rs kept e f p to fits asked told ends =
    let may = sym (told_cleave (lines_in (seen rs)) (fits_of bs rs) e f p fits true asked told) in
    let free : fits_of bs rs p p ≡ true = (and_parts _ _ may).1 in
    let stripped = kept_out bs rs kept (fits_long bs rs p p free) in
    let cuts = cleave_cuts max_edge (lines_in (seen rs)) stripped.core.sound (fits_of bs rs) e f p may in
    record {
      stripped = stripped;
      cuts = subst (Cuts max_edge (lines_in (seen rs)) e f p) (some_same _ _ (sym cuts.1.ends ∙ ends)) cuts.1;
      room = two (slots_taken bs (lines_in (seen rs)) max_edge) (strip_of bs p.x) slots (fits_room bs rs p p free);
    }
  where
    some_same : (x y : Point) → ◌≡◌ {A = Option Point} (Some x) (Some y) → x ≡ y
    some_same x y z = cc

    two : (t x s : ℕ) → t + 2 * suc ((x - x) + (x - x)) ≤ s → t + 2 ≤ s
    two t x s q = omega arith

-- an edge that may be cleft has an end
pub ends_somewhere : (bs : List ℤ) (rs : List Halfedge) → ∥ Kept bs rs ∥₁ → (e f : ℕ) (p : Point) → (fits : Bool) → true ≡ may_cleave max_edge (lines_in (seen rs)) (λ _ _. fits) e f p → fits ≡ fits_of bs rs p p
    → points_of (seen rs) (neg_ℤ (pos e)) ≡ None → ⊥
ends_somewhere bs rs kept e f p fits asked told none =
    let may = sym (told_cleave (lines_in (seen rs)) (fits_of bs rs) e f p fits true asked told) in
    let cuts = cleave_cuts max_edge (lines_in (seen rs)) (kept_sound bs rs kept) (fits_of bs rs) e f p may in
    different cuts.0 (sym none ∙ cuts.1.ends)
  where
    different : (x : Point) → ◌≡◌ {A = Option Point} None (Some x) → ⊥
    different x z = let q : ◌≡◌ {A = ℕ} 0 1 = cc in omega arith
