-- What always holds of a stripped sheet's memory. Assumes nothing.
use Rattle.std.specs.Prelude.{◌≡◌, ℕ, ◌≤◌, Bool, true, false, cond, List, length, ℤ, pos, ◌≢◌, nat_le, refl}
use Rattle.std.proofs.Common.{sym, subst}
use Rattle.std.proofs.Math.Logic.{∥∥₁_elim}
use Rattle.std.proofs.lemmas.Bool.{leb-true}
use Rattle.flat.specs.Orbits.{indicator}
use Rattle.turning.specs.Limits.{max_edge, slots}
use Rattle.turning.specs.Props.{lawful_prop}
use Rattle.turning.specs.Turn.{Lawful}
use Rattle.chart.specs.declared.point.Point.{Point}
use Rattle.chart.specs.Stores.{Frame, Meaning}
use Rattle.halfedges.specs.declared.halfedge.Halfedge.{Halfedge}
use Rattle.halfedges.specs.View.{view, seen, row_of}
use Rattle.halfedges.specs.Rows.{turn_of, lines_in, used, Unlinked, Core, slot_count}
use Rattle.halfedges.specs.Nothing.{short_lines, nothing_sound}
use Rattle.strips.specs.Borders.{strip_of, runs_through, slots_taken, fits_in}

-- each strip has exactly one slot of each name whose edge runs through it, and none of another;
-- a slot is home, with links, where its halfedge starts in that strip, and external, with no follower and no predecessor, elsewhere
pub record Stripped (n cap : ℕ) (bs : List ℤ) (rs : List Halfedge) : Type 0 where
  pub core : Core n cap rs
  pub each : (i : ℕ) (h : ℤ) → (h ≢ pos 0) → slot_count cap (view n cap rs) i h ≡ indicator (runs_through bs (lines_in (view n cap rs)) i h)
  pub homes : (h : ℤ) → (turn_of (view n cap rs)).held h ≡ true → (row_of (view n cap rs) h).strip ≡ strip_of bs (row_of (view n cap rs) h).x
  pub external : Unlinked cap (view n cap rs)
  pub room : used cap (view n cap rs) ≡ slots_taken bs (lines_in (view n cap rs)) n

-- a memory that is long enough is right; a shorter one holds nothing, whatever stands in it
abbrev pub Kept : List ℤ → List Halfedge → Type 0
Kept bs rs = slots ≤ length rs → Stripped max_edge slots bs rs

-- how many slots a sheet has: none where its memory is too short
abbrev pub room_of : List Halfedge → ℕ
room_of rs = cond (nat_le slots (length rs)) slots 0

-- the borders, and the slots
abbrev pub frame_of : List ℤ → List Halfedge → Frame
frame_of bs rs = record { borders = bs; slots = room_of rs }

-- which pairs of points fit
abbrev pub fits_of : List ℤ → List Halfedge → Point → Point → Bool
fits_of bs rs p q = fits_in max_edge bs (lines_in (seen rs)) (room_of rs) p q

-- what a sheet means
abbrev pub sheet_of : List ℤ → List Halfedge → Meaning
sheet_of bs rs = record { lines = lines_in (seen rs); frame = frame_of bs rs; fits = fits_of bs rs }

-- the line work of a sheet is lawful
pub lawful_of : (bs : List ℤ) (rs : List Halfedge) → ∥ Kept bs rs ∥₁ → Lawful max_edge (turn_of (seen rs))
lawful_of bs rs p = ∥∥₁_elim p (lawful_prop max_edge (turn_of (seen rs))) (λ k. go k (nat_le slots (length rs)) refl)
  where
    go : Kept bs rs → (b : Bool) → nat_le slots (length rs) ≡ b → Lawful max_edge (turn_of (seen rs))
    go k true e = (k (leb-true _ _ e)).core.sound.0
    go k false e = subst (λ l. Lawful max_edge l.turn) (sym (short_lines max_edge slots rs e)) (nothing_sound max_edge).0
