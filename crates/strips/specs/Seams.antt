-- Borders put in and taken out, what a cut and a knit ask, and what they leave. Assumes nothing.
use Rattle.std.specs.Prelude.{◌≡◌, ℕ, zero, suc, ◌+◌, ◌*◌, ◌≤◌, Bool, cond, not, ◌&&◌, List, [], ◌∷◌, length, ℤ, pos, neg_ℤ, Ok, Err, int_lt, nat_le}
use Rattle.flat.specs.Orbits.{filter, contains, indicator}
use Rattle.flat.specs.Whole.{equal}
use Rattle.turning.specs.Limits.{max_edge, max_strips, slots}
use Rattle.turning.specs.declared.refusal.Refusal.TheVariants.{BorderOutOfRange, WrongBorder, TooManyStrips, NoRoom}
use Rattle.turning.specs.Refusals.{Questions, Outcome, granted, outcome}
use Rattle.chart.specs.declared.point.Point.{Point}
use Rattle.chart.specs.Points.{within}
use Rattle.chart.specs.Linework.{Linework}
use Rattle.chart.specs.Stores.{Frame, Meaning}
use Rattle.halfedges.specs.declared.halfedge.Halfedge.{Halfedge}
use Rattle.halfedges.specs.View.{seen}
use Rattle.halfedges.specs.Rows.{lines_in}
use Rattle.strips.specs.Borders.{strip_count, x_of, slots_taken, fits_in}
use Rattle.strips.specs.Sheets.{fits_of, sheet_of}

-- the borders with x put in before the first that is above it
unfoldable pub with_border : ℤ → List ℤ → List ℤ
with_border x [] = x ∷ []
with_border x (b ∷ bs) = cond (int_lt x b) (x ∷ (b ∷ bs)) (b ∷ with_border x bs)

-- the borders but x
unfoldable pub without_border : ℤ → List ℤ → List ℤ
without_border x bs = filter (λ b. not (equal x b)) bs

-- x is one of the borders
unfoldable pub is_border : ℤ → List ℤ → Bool
is_border x bs = contains equal x bs

-- the edge e is held, and runs from below x to x or beyond
abbrev pub crosses : ℤ → Linework → ℕ → Bool
crosses x l e = l.turn.held (pos e) && int_lt (x_of (l.points (pos e))) x && not (int_lt (x_of (l.points (neg_ℤ (pos e)))) x)

-- how many of the edges 1 to n do
unfoldable pub crossings : ℤ → Linework → ℕ → ℕ
crossings x l zero = 0
crossings x l (suc n) = indicator (crosses x l (suc n)) + crossings x l n

-- what a cut at x asks: room for two more slots of each edge that crosses x comes last
abbrev pub cut_questions : ℕ → Meaning → ℤ → Questions
cut_questions n m x =
    (within x, BorderOutOfRange) ∷ (not (is_border x m.frame.borders), WrongBorder)
    ∷ (nat_le (suc (strip_count m.frame.borders)) max_strips, TooManyStrips)
    ∷ (nat_le (slots_taken m.frame.borders m.lines n + 2 * crossings x m.lines n) m.frame.slots, NoRoom) ∷ []

-- what a knit at x asks
abbrev pub knit_questions : Meaning → ℤ → Questions
knit_questions m x = (within x, BorderOutOfRange) ∷ (is_border x m.frame.borders, WrongBorder) ∷ []

-- which pairs of points fit on a sheet, by its line work and its frame alone
abbrev pub room_in : ℕ → Linework → Frame → Point → Point → Bool
room_in n l f p q = fits_in n f.borders l f.slots p q

-- the frame with other borders, and the same slots
abbrev pub recut_at : List ℤ → Frame → Frame
recut_at bs f = record { borders = bs; slots = f.slots }

-- a sheet cut at other borders: the same line work, and what fits there
abbrev pub bordered : ℕ → List ℤ → Meaning → Meaning
bordered n bs m = record { lines = m.lines; frame = recut_at bs m.frame; fits = room_in n m.lines (recut_at bs m.frame) }

-- done puts the borders in place of the old ones; a refusal leaves all
abbrev pub Bordered : ℕ → Outcome → List ℤ → Meaning → Meaning → Type 0
Bordered n (Ok _) bs m m' = m' ≡ bordered n bs m
Bordered n (Err _) bs m m' = m' ≡ m

-- the questions qs at m, with the borders that a yes to all puts: the answer r, and m' after
pub record Recut (n : ℕ) (qs : Questions) (bs : List ℤ) (m : Meaning) (r : Outcome) (m' : Meaning) : Type 0 where
  pub told : r ≡ outcome qs
  pub changed : Bordered n r bs m m'

-- a cut at x, from m to m', with the answer r
abbrev pub Cuts : ℕ → Meaning → ℤ → Outcome → Meaning → Type 0
Cuts n m x r m' = Recut n (cut_questions n m x) (with_border x m.frame.borders) m r m'

-- a knit at x, from m to m', with the answer r
abbrev pub Knits : ℕ → Meaning → ℤ → Outcome → Meaning → Type 0
Knits n m x r m' = Recut n (knit_questions m x) (without_border x m.frame.borders) m r m'

-- a cut and a knit at the same border give back the borders, the chart and what fits
abbrev pub CutThenKnit : Type 0
CutThenKnit = (n : ℕ) (m m' m'' : Meaning) (x : ℤ) (r s : Outcome) → m.fits ≡ room_in n m.lines m.frame
    → Cuts n m x r m' → r ≡ granted → Knits n m' x s m'' → (s ≡ granted) × (m'' ≡ m)

-- equal charts in equal borders answer alike what fits and whether there is room for a cut, in memories that are long enough
abbrev pub RoomsAlike : Type 0
RoomsAlike = (bs : List ℤ) (rs rs' : List Halfedge) → slots ≤ length rs → slots ≤ length rs' → lines_in (seen rs) ≡ lines_in (seen rs')
    → ((p q : Point) → fits_of bs rs p q ≡ fits_of bs rs' p q)
    × ((x : ℤ) → outcome (cut_questions max_edge (sheet_of bs rs) x) ≡ outcome (cut_questions max_edge (sheet_of bs rs') x))
