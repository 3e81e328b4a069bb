-- The changes of line work keep it lawful and placed.
-- Assumes nothing.
use Rattle.std.specs.Prelude.{◌≡◌, ℕ, Bool, true, pos}
use Rattle.turning.specs.Turn.{Lawful}
use Rattle.chart.specs.declared.point.Point.{Point}
use Rattle.chart.specs.declared.point.End.{End}
use Rattle.chart.specs.Linework.{Linework, Placed}
use Rattle.chart.specs.Changes.{hung, may_hang, lifted, cleft, may_cleave}

-- line work with its two laws
abbrev pub Sound : ℕ → Linework → Type 0
Sound n l = Lawful n l.turn × Placed n l.turn l.points

-- A held edge lifted leaves line work sound.
abbrev pub LiftKeeps : ℕ → Type 0
LiftKeeps n = (l : Linework) → Sound n l → (e : ℕ) → l.turn.held (pos e) ≡ true → Sound n (lifted e l)

-- An edge that may hang leaves line work sound.
abbrev pub HangKeeps : ℕ → Type 0
HangKeeps n = (l : Linework) → Sound n l → (fits : Point → Point → Bool) (e : ℕ) (a b : End) → may_hang n l fits e a b ≡ true → Sound n (hung e a b l)

-- An edge that may be cleft leaves line work sound.
abbrev pub CleaveKeeps : ℕ → Type 0
CleaveKeeps n = (l : Linework) → Sound n l → (fits : Point → Point → Bool) (e f : ℕ) (p : Point) → may_cleave n l fits e f p ≡ true → Sound n (cleft e f p l)
