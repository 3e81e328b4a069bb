-- The theorems of specs/Laws.antt.
-- Assumes nothing.
use Rattle.std.proofs.Common.{◌≡◌, ℕ, Bool, true, false, cond, ◌↔◌, ℤ, pos, neg_ℤ, Some, None, Option, sym, ap, ◌∙◌, arith}
use Rattle.flat.specs.Turnings as figure
use Rattle.flat.specs.Whole.{equal}
use Rattle.flat.proofs.Hangs.{hang_turned, hang_flat}
use Rattle.flat.proofs.Whole.{equal_is}
use Rattle.flat.proofs.Proved.{euler_holds}
use Rattle.turning.specs.Turn.{Turn, Lawful}
use Rattle.turning.specs.Counts.{Flat, listed}
use Rattle.turning.proofs.Listed.{listed_lawful}
use Rattle.turning.proofs.Tests.{flat_listed}
use Rattle.chart.specs.declared.point.Point.{Point}
use Rattle.chart.specs.declared.point.End.{End}
use Rattle.chart.specs.Points.{west}
use Rattle.chart.specs.Linework.{Linework}
use Rattle.chart.specs.Changes.{hung, may_hang, western, eastern}
use Rattle.laws.specs.Rotations.{Corner, Ends}
use Rattle.laws.specs.Keeps.{Sound}
use Rattle.laws.specs.Laws.{Euler, Meets, HungFlat, HungCounts, LiftedFlat, CleftFlat, CleftCounts}
use Rattle.laws.proofs.Equal.{some_same}
use Rattle.laws.proofs.Edges.{rotation_of, neg_apart, held_some, lift_sound}
use Rattle.laws.proofs.Hung.{west_apart, hang_ends, hung_sound}
use Rattle.laws.proofs.Cleft.{cleave_cuts, cleft_sound}
use Rattle.laws.proofs.Effects.{of, CornerHeld, Two, corner_in, counts_listed, changes_listed, put_counts, drawn_flat, parted_counts}

pub euler : Euler
euler n t law = let c = counts_listed n t law in let h = euler_holds ℤ equal neg_ℤ equal_is (listed n t) (listed_lawful n t law) in omega arith

-- a corner at a point is held
corner_held : (t : Turn) (points : ℤ → Option Point) (o : Option ℤ) (p : Point) → Corner t points o p → CornerHeld t o
corner_held t points None p k = tt
corner_held t points (Some c) p k = k.0

-- corners at two points are two names
corners_two : (t : Turn) (points : ℤ → Option Point) (o u : Option ℤ) (p q : Point) → Corner t points o p → Corner t points u q → (p ≡ q → ⊥) → Two o u
corners_two t points None u p q k m d = tt
corners_two t points (Some c) None p q k m d = tt
corners_two t points (Some c) (Some e) p q k m d = λ z. d (some_same p q (sym k.1 ∙ ap points z ∙ m.1))

-- ---- hang
module _ (n : ℕ) (l : Linework) (s : Sound n l) (fits : Point → Point → Bool) (e : ℕ) (a b : End) (may : may_hang n l fits e a b ≡ true) where
  abbrev t : Turn
  t = l.turn

  abbrev t' : Turn
  t' = (hung e a b l).turn

  law' : Lawful n t'
  law' = (hung_sound n l s fits e a b may).0

  ends : Ends n l e (western a b).point (eastern a b).point (western a b).corner (eastern a b).corner
  ends = hang_ends n l s fits e a b may

  held_west : CornerHeld t (western a b).corner
  held_west = corner_held t l.points (western a b).corner (western a b).point ends.start

  held_east : CornerHeld t (eastern a b).corner
  held_east = corner_held t l.points (eastern a b).corner (eastern a b).point ends.end

  abbrev Changes : Option ℤ → Option ℤ → Type 0
  Changes o p = figure.HangChanges neg_ℤ equal (listed n t) (listed n t') (of o) (of p)

  ordered : Changes (western a b).corner (eastern a b).corner
  ordered =
      put_counts n t s.0 (pos e) (neg_apart e e ends.low) ends.new (western a b).corner (eastern a b).corner law' held_west held_east
      (corners_two t l.points (western a b).corner (eastern a b).corner (western a b).point (eastern a b).point ends.start ends.end (west_apart (western a b).point (eastern a b).point ends.west))

  -- whichever end is the western one
  either : (w : Bool) → CornerHeld t (cond w a b).corner → CornerHeld t (cond w b a).corner → Changes (cond w a b).corner (cond w b a).corner
      → CornerHeld t a.corner × Changes a.corner b.corner
  either true ca cb k = (ca, k)
  either false ca cb k = (cb, hang_turned equal equal_is neg_ℤ (listed n t) (listed n t') (listed_lawful n t s.0) (of b.corner) (of a.corner) (corner_in n t s.0 b.corner ca) (corner_in n t s.0 a.corner cb) k)

  changes : CornerHeld t a.corner × Changes a.corner b.corner
  changes = either (west a.point b.point) held_west held_east ordered

  fits_meets : (o p : Option ℤ) → figure.Fits neg_ℤ equal (listed n t) (of o) (of p) ↔ Meets t o p
  fits_meets None p = ((λ _. tt), λ _. tt)
  fits_meets (Some c) None = ((λ _. tt), λ _. tt)
  fits_meets (Some c) (Some d) = ((λ h. h), λ h. h)

  keeps_flat : Flat n t → Flat n t' ↔ Meets t a.corner b.corner
  keeps_flat h =
      let r = hang_flat equal equal_is neg_ℤ (listed n t) (listed n t') (listed_lawful n t s.0) (of a.corner) (of b.corner) (corner_in n t s.0 a.corner changes.0) changes.1 ((flat_listed n t s.0).0 h) in
      let m = fits_meets a.corner b.corner in
      let f = flat_listed n t' law' in
      ((λ z. m.0 (r.0 (f.0 z))), λ z. f.1 (r.1 (m.1 z)))

pub hung_flat : HungFlat
hung_flat n l s fits e a b may = (hung_sound n l s fits e a b may, keeps_flat n l s fits e a b may)

pub hung_counts : HungCounts
hung_counts n l s fits e a b may = changes_listed n l.turn (hung e a b l).turn s.0 (law' n l s fits e a b may) a.corner b.corner (changes n l s fits e a b may).1

-- ---- lift
pub lifted_flat : LiftedFlat
lifted_flat n l s e held =
    let sound = lift_sound n l s e held in
    (sound, drawn_flat n l.turn s.0 (pos e) (neg_apart e e (held_some n l.turn (rotation_of n l.turn s.0) e held)) held sound.0)

-- ---- cleave
pub cleft_counts : CleftCounts
cleft_counts n l s fits e f p may =
    let m = (cleave_cuts n l s fits e f p may).1 in
    parted_counts n l.turn s.0 e f m.here (neg_apart f f m.low) m.new (cleft_sound n l s fits e f p may).0

pub cleft_flat : CleftFlat
cleft_flat n l s fits e f p may = (cleft_sound n l s fits e f p may, λ h. let k = cleft_counts n l s fits e f p may in omega arith)
