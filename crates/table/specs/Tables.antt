-- What always holds of a table's memory, and which pairs of points fit. Assumes nothing.
use Rattle.std.specs.Prelude.{◌≡◌, ℕ, ◌+◌, ◌*◌, ◌≤◌, Bool, true, false, cond, List, [], length, nat_le, refl}
use Rattle.std.proofs.Common.{sym, subst}
use Rattle.std.proofs.Math.Logic.{∥∥₁_elim}
use Rattle.std.proofs.lemmas.Bool.{leb-true}
use Rattle.turning.specs.Limits.{max_edge, slots}
use Rattle.turning.specs.Props.{lawful_prop}
use Rattle.turning.specs.Turn.{Lawful}
use Rattle.chart.specs.declared.point.Point.{Point}
use Rattle.chart.specs.Stores.{Frame}
use Rattle.halfedges.specs.declared.halfedge.Halfedge.{Halfedge}
use Rattle.halfedges.specs.View.{seen}
use Rattle.halfedges.specs.Rows.{turn_of, used, edge_count, Core}
use Rattle.halfedges.specs.Nothing.{short_lines, nothing_sound}

-- a right memory, with two slots for each edge
pub record Good (rs : List Halfedge) : Type 0 where
  pub core : Core max_edge slots rs
  pub room : used slots (seen rs) ≡ 2 * edge_count max_edge (turn_of (seen rs))

-- a memory that is long enough is right; a shorter one holds nothing, whatever stands in it
abbrev pub Kept : List Halfedge → Type 0
Kept rs = slots ≤ length rs → Good rs

-- how many slots a table has: none where its memory is too short
abbrev pub room_of : List Halfedge → ℕ
room_of rs = cond (nat_le slots (length rs)) slots 0

-- no borders, and the slots
abbrev pub frame_of : List Halfedge → Frame
frame_of rs = record { borders = []; slots = room_of rs }

-- two more slots than the edges have still fit
abbrev pub fits_of : List Halfedge → Point → Point → Bool
fits_of rs p q = nat_le (2 * edge_count max_edge (turn_of (seen rs)) + 2) (room_of rs)

-- the line work of a table is lawful
pub lawful_of : (rs : List Halfedge) → ∥ Kept rs ∥₁ → Lawful max_edge (turn_of (seen rs))
lawful_of rs p = ∥∥₁_elim p (lawful_prop max_edge (turn_of (seen rs))) (λ k. go k (nat_le slots (length rs)) refl)
  where
    go : Kept rs → (b : Bool) → nat_le slots (length rs) ≡ b → Lawful max_edge (turn_of (seen rs))
    go k true e = (k (leb-true _ _ e)).core.sound.0
    go k false e = subst (λ l. Lawful max_edge l.turn) (sym (short_lines max_edge slots rs e)) (nothing_sound max_edge).0
