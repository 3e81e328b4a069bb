-- The line work that strips tell: by the home slot of each name.
-- Assumes nothing.
use Rattle.std.specs.Prelude.{ℕ, ◌+◌, ◌*◌, Bool, true, false, not, ◌&&◌, ℤ, pos, Some, None, Option, ◌==◌}
use Rattle.flat.specs.Whole.{equal}
use Rattle.turning.specs.Turn.{Turn}
use Rattle.turning.specs.Counts as count
use Rattle.chart.specs.Linework.{Linework}
use Rattle.file.specs.Places.{each, at, first_from}
use Rattle.file.specs.Strips.{Strip, home, start}

-- slot i of strip j
pub record Slot : Type 0 where
  pub strip : ℕ
  pub slot : ℕ

-- the home slot of the name z in n strips
unfoldable pub home_slot : ℕ → (ℕ → Strip) → ℤ → Option Slot
home_slot n strip z = first_from (λ j. at (λ i. record { strip = j; slot = i }) (each (strip j).slots (λ i. not (home (strip j) i && equal ((strip j).name i) z)))) 0 n

-- there is one
abbrev pub is_some : {A : Type 0} → Option A → Bool
is_some None = false
is_some (Some x) = true

-- the name in a slot that may be told
abbrev pub name_or_0 : Strip → Option ℕ → ℤ
name_or_0 s None = pos 0
name_or_0 s (Some i) = s.name i

-- the name in the slot that follows a home slot
abbrev pub follower_name : (ℕ → Strip) → Option Slot → ℤ
follower_name strip None = pos 0
follower_name strip (Some a) = (strip a.strip).name ((strip a.strip).follower a.slot)

-- the name in the first slot that a home slot follows
abbrev pub predecessor_name : (ℕ → Strip) → Option Slot → ℤ
predecessor_name strip None = pos 0
predecessor_name strip (Some a) = name_or_0 (strip a.strip) (each (strip a.strip).slots (λ k. not ((strip a.strip).follower k == a.slot)))

-- the line work of n strips: the held names are those of home slots
unfoldable pub lines_of : ℕ → (ℕ → Strip) → Linework
lines_of n strip = record {
  turn = record {
    held = λ z. is_some (home_slot n strip z);
    follower = λ z. follower_name strip (home_slot n strip z);
    predecessor = λ z. predecessor_name strip (home_slot n strip z);
  };
  points = λ z. at (λ a. start (strip a.strip) a.slot) (home_slot n strip z);
}

-- 17: vertices + loops = edges + 2 × pieces, of edges 1 to n
unfoldable pub flat : ℕ → Turn → Bool
flat n t = count.rounds n t + count.loops n t == count.edges n t + 2 * count.pieces n t
