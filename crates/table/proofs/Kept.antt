-- What a table's memory keeps through its changes. Assumes nothing.
use Rattle.std.proofs.Common.{◌≡◌, ℕ, suc, ◌+◌, ◌*◌, ◌≤◌, Bool, true, false, cond, leb, List, [], length, ℤ, pos, neg_ℤ, Some, None, Option, sym, refl, ap, ◌∙◌, subst, subst₂, arith}
use mathlib.Core.HLevel.{hedberg}
use mathlib.Core.Logic.{∥∥₁_elim}
use native.Mathlib.Decide.{ℕ_discrete}
use Rattle.std.proofs.lemmas.Int.{ints}
use Rattle.std.proofs.lemmas.Bool.{leb-true, le-leb, cond-true, cond-false, and_parts}
use Rattle.turning.specs.Limits.{max_edge, slots}
use Rattle.chart.specs.declared.point.Point.{Point}
use Rattle.chart.specs.declared.point.End.{End}
use Rattle.chart.specs.Changes.{at, put, western, eastern, may_hang, lifted, may_cleave, cleft}
use Rattle.laws.specs.Keeps.{Sound}
use Rattle.laws.specs.Rotations.{Ends, Cuts}
use Rattle.laws.proofs.Cleft.{cleave_cuts}
use Rattle.laws.proofs.Edges.{rotation_of, held_some}
use Rattle.laws.proofs.Equal.{tell}
use Rattle.laws.proofs.Hung.{hang_ends}
use Rattle.halfedges.specs.declared.halfedge.Halfedge.{Halfedge}
use Rattle.halfedges.specs.View.{seen}
use Rattle.halfedges.specs.Rows.{turn_of, points_of, lines_in, used, edge_count, Core, hung_between}
use Rattle.halfedges.specs.Nothing.{short_lines, nothing_sound}
use Rattle.halfedges.proofs.Asked.{told_hang, told_cleave}
use Rattle.halfedges.proofs.EdgeCount.{edge_more, edge_less, held_put}
use Rattle.halfedges.proofs.Props.{core_prop}
use Rattle.table.specs.Tables.{Good, Kept, room_of, frame_of, fits_of}

kept_prop : (rs : List Halfedge) → IsProp (Kept rs)
kept_prop rs p q = λ i l. record {
  core = core_prop max_edge slots rs (p l).core (q l).core i;
  room = hedberg ℕ_discrete _ _ (p l).room (q l).room i;
}

pub kept_out : (rs : List Halfedge) → ∥ Kept rs ∥₁ → Kept rs
kept_out rs p = ∥∥₁_elim p (kept_prop rs) (λ k. k)

pub kept_sound : (rs : List Halfedge) → ∥ Kept rs ∥₁ → Sound max_edge (lines_in (seen rs))
kept_sound rs p = go (leb slots (length rs)) refl
  where
    go : (b : Bool) → leb slots (length rs) ≡ b → Sound max_edge (lines_in (seen rs))
    go true e = (kept_out rs p (leb-true _ _ e)).core.sound
    go false e = subst (Sound max_edge) (sym (short_lines max_edge slots rs e)) (nothing_sound max_edge)

-- where a pair fits, the memory is long enough and two slots are free
pub fits_long : (rs : List Halfedge) (p q : Point) → fits_of rs p q ≡ true → slots ≤ length rs
fits_long rs p q e = go (leb slots (length rs)) refl
  where
    none_fits : (k : ℕ) → leb (k + 2) 0 ≡ true → ⊥
    none_fits k z = let l = leb-true (k + 2) 0 z in omega arith

    go : (b : Bool) → leb slots (length rs) ≡ b → slots ≤ length rs
    go true l = leb-true _ _ l
    go false l = absurd (none_fits (2 * edge_count max_edge (turn_of (seen rs))) (ap (leb (2 * edge_count max_edge (turn_of (seen rs)) + 2)) (sym (cond-false (leb slots (length rs)) slots 0 l)) ∙ e))

pub fits_room : (rs : List Halfedge) (p q : Point) → Good rs → fits_of rs p q ≡ true → used slots (seen rs) + 2 ≤ slots
fits_room rs p q good e = more (used slots (seen rs)) (edge_count max_edge (turn_of (seen rs))) slots (room_of rs) good.room (leb-true _ _ e) (at_most (leb slots (length rs)))
  where
    more : (u k s r : ℕ) → u ≡ 2 * k → 2 * k + 2 ≤ r → r ≤ s → u + 2 ≤ s
    more u k s r a b c = omega arith

    at_most : (b : Bool) → cond b slots 0 ≤ slots
    at_most true = omega arith
    at_most false = omega arith

-- ---- the changes
pub hung_good : (rs rs' : List Halfedge) → Good rs → (e : ℕ) (a b : End) → 1 ≤ e → e ≤ max_edge → (turn_of (seen rs)).held (pos e) ≡ false
    → lines_in (seen rs') ≡ hung_between e a b (lines_in (seen rs)) → Core max_edge slots rs' → used slots (seen rs') ≡ used slots (seen rs) + 2 → Good rs'
hung_good rs rs' good e a b low high new lines core more = record {
  core = core;
  room = two (used slots (seen rs)) (used slots (seen rs')) (edge_count max_edge (turn_of (seen rs))) (edge_count max_edge (turn_of (seen rs'))) good.room more
      (edge_more max_edge (turn_of (seen rs)) (turn_of (seen rs')) e low high new held);
}
  where
    held : (h : ℤ) → (turn_of (seen rs')).held h ≡ at (neg_ℤ (pos e)) true (at (pos e) true (turn_of (seen rs)).held) h
    held h = ap (λ l. l.turn.held h) lines ∙ held_put b.corner (neg_ℤ (pos e)) (put a.corner (pos e) (turn_of (seen rs))) h
        ∙ ap (λ f. at (neg_ℤ (pos e)) true f h) (λ i g. held_put a.corner (pos e) (turn_of (seen rs)) g i)

    two : (u u' k k' : ℕ) → u ≡ 2 * k → u' ≡ u + 2 → k' ≡ suc k → u' ≡ 2 * k'
    two u u' k k' p q r = omega arith

pub lifted_good : (rs rs' : List Halfedge) → Good rs → (e : ℕ) → (turn_of (seen rs)).held (pos e) ≡ true
    → lines_in (seen rs') ≡ lifted e (lines_in (seen rs)) → Core max_edge slots rs' → used slots (seen rs') + 2 ≡ used slots (seen rs) → Good rs'
lifted_good rs rs' good e here lines core less = record {
  core = core;
  room = two (used slots (seen rs)) (used slots (seen rs')) (edge_count max_edge (turn_of (seen rs))) (edge_count max_edge (turn_of (seen rs'))) good.room less
      (ap (λ l. suc (edge_count max_edge l.turn)) lines ∙ edge_less max_edge (turn_of (seen rs)) e low high here);
}
  where
    low : 1 ≤ e
    low = held_some max_edge (turn_of (seen rs)) (rotation_of max_edge (turn_of (seen rs)) good.core.sound.0) e here

    high : e ≤ max_edge
    high = let u = good.core.sound.0.high (pos e) here in omega (arith, ints)

    two : (u u' k k' : ℕ) → u ≡ 2 * k → u' + 2 ≡ u → suc k' ≡ k → u' ≡ 2 * k'
    two u u' k k' p q r = omega arith

pub cleft_good : (rs rs' : List Halfedge) → Good rs → (e f : ℕ) (p : Point) → 1 ≤ f → f ≤ max_edge → (turn_of (seen rs)).held (pos f) ≡ false
    → lines_in (seen rs') ≡ cleft e f p (lines_in (seen rs)) → Core max_edge slots rs' → used slots (seen rs') ≡ used slots (seen rs) + 2 → Good rs'
cleft_good rs rs' good e f p low high new lines core more = record {
  core = core;
  room = two (used slots (seen rs)) (used slots (seen rs')) (edge_count max_edge (turn_of (seen rs))) (edge_count max_edge (turn_of (seen rs'))) good.room more
      (edge_more max_edge (turn_of (seen rs)) (turn_of (seen rs')) f low high new (λ h. ap (λ l. l.turn.held h) lines ∙ grind (arith, tell h (pos f), tell h (neg_ℤ (pos f)))));
}
  where
    two : (u u' k k' : ℕ) → u ≡ 2 * k → u' ≡ u + 2 → k' ≡ suc k → u' ≡ 2 * k'
    two u u' k k' q r s = omega arith

-- a memory that is long enough before a change and after it has all its slots
pub same_frame : (rs rs' : List Halfedge) → slots ≤ length rs → Core max_edge slots rs' → frame_of rs' ≡ frame_of rs
same_frame rs rs' long after = ap (λ (k : ℕ). record { borders = []; slots = k }) (whole rs' after.long ∙ sym (whole rs long))
  where
    whole : (rs : List Halfedge) → slots ≤ length rs → room_of rs ≡ slots
    whole rs l = cond-true (leb slots (length rs)) slots 0 (le-leb _ _ l)

-- ---- what a change may count on once it was asked for
pub record Hangable (rs : List Halfedge) (e : ℕ) (a b : End) : Type 0 where
  pub good : Good rs
  pub ends : Ends max_edge (lines_in (seen rs)) e a.point b.point a.corner b.corner
  pub room : used slots (seen rs) + 2 ≤ slots

pub hangable : (rs : List Halfedge) → ∥ Kept rs ∥₁ → (e : ℕ) (a b : End) (s : End × End) → (fits : Bool) → true ≡ may_hang max_edge (lines_in (seen rs)) (λ _ _. fits) e a b → fits ≡ fits_of rs a.point b.point
    → s.0 ≡ western a b → s.1 ≡ eastern a b → Hangable rs e s.0 s.1
hangable rs kept e a b s fits asked told west east =
    let may = sym (told_hang (lines_in (seen rs)) (fits_of rs) e a b fits true asked told) in
    let free : fits_of rs a.point b.point ≡ true = (and_parts _ _ may).1 in
    let good = kept_out rs kept (fits_long rs a.point b.point free) in
    subst₂ (Hangable rs e) (sym west) (sym east) (record {
      good = good;
      ends = hang_ends max_edge (lines_in (seen rs)) good.core.sound (fits_of rs) e a b may;
      room = fits_room rs a.point b.point good free;
    })

pub record Cleavable (rs : List Halfedge) (e f : ℕ) (p to : Point) : Type 0 where
  pub good : Good rs
  pub cuts : Cuts max_edge (lines_in (seen rs)) e f p to
  pub room : used slots (seen rs) + 2 ≤ slots

pub cleavable : (rs : List Halfedge) → ∥ Kept rs ∥₁ → (e f : ℕ) (p to : Point) → (fits : Bool) → true ≡ may_cleave max_edge (lines_in (seen rs)) (λ _ _. fits) e f p → fits ≡ fits_of rs p p
    → points_of (seen rs) (neg_ℤ (pos e)) ≡ Some to → Cleavable rs e f p to
cleavable rs kept e f p to fits asked told ends =
    let may = sym (told_cleave (lines_in (seen rs)) (fits_of rs) e f p fits true asked told) in
    let free : fits_of rs p p ≡ true = (and_parts _ _ may).1 in
    let good = kept_out rs kept (fits_long rs p p free) in
    let cuts = cleave_cuts max_edge (lines_in (seen rs)) good.core.sound (fits_of rs) e f p may in
    record {
      good = good;
      cuts = subst (Cuts max_edge (lines_in (seen rs)) e f p) (some_same _ _ (sym cuts.1.ends ∙ ends)) cuts.1;
      room = fits_room rs p p good free;
    }
  where
    some_same : (x y : Point) → ◌≡◌ {A = Option Point} (Some x) (Some y) → x ≡ y
    some_same x y z = cc

-- an edge that may be cleft has an end
pub ends_somewhere : (rs : List Halfedge) → ∥ Kept rs ∥₁ → (e f : ℕ) (p : Point) → (fits : Bool) → true ≡ may_cleave max_edge (lines_in (seen rs)) (λ _ _. fits) e f p → fits ≡ fits_of rs p p
    → points_of (seen rs) (neg_ℤ (pos e)) ≡ None → ⊥
ends_somewhere rs kept e f p fits asked told none =
    let may = sym (told_cleave (lines_in (seen rs)) (fits_of rs) e f p fits true asked told) in
    let cuts = cleave_cuts max_edge (lines_in (seen rs)) (kept_sound rs kept) (fits_of rs) e f p may in
    apart cuts.0 (sym none ∙ cuts.1.ends)
  where
    apart : (x : Point) → ◌≡◌ {A = Option Point} None (Some x) → ⊥
    apart x z = let q : ◌≡◌ {A = ℕ} 0 1 = cc in omega arith
