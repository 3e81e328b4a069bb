-- What the arrays of one strip tell: names and followers by slot, points by vertex.
-- Assumes nothing.
use Rattle.std.specs.Prelude.{◌≡◌, ℕ, zero, suc, ◌+◌, ◌*◌, ◌<◌, Bool, true, cond, not, ◌&&◌, List, ℤ, ◌==◌, nat_eq, nat_lt}
use Rattle.flat.specs.Orbits.{iterate}
use Rattle.flat.specs.Whole.{equal}
use Rattle.chart.specs.declared.point.Point.{Point}
use Rattle.file.specs.Places.{any_below, count_below}
use Rattle.file.specs.Bytes.{u16_at, i16_at, i32_at}

-- the follower of an external slot: none
abbrev pub none : ℕ
none = 65535

-- a strip: how many slots and vertices, the name and the follower in each slot, the point of each vertex
pub record Strip : Type 0 where
  pub slots : ℕ
  pub vertices : ℕ
  pub name : ℕ → ℤ
  pub follower : ℕ → ℕ
  pub point : ℕ → Point

-- the strip with h slots and v vertices that stands in a part of a file: names, followers, x, y
abbrev pub strip_of : List ℕ → ℕ → ℕ → Strip
strip_of part h v = record {
  slots = h;
  vertices = v;
  name = λ i. i16_at part (2 * i);
  follower = λ i. u16_at part (2 * h + 2 * i);
  point = λ k. record { x = i32_at part (4 * h + 4 * k); y = i32_at part (4 * h + 4 * v + 4 * k) };
}

-- slot i is home: its halfedge starts in the strip
abbrev pub home : Strip → ℕ → Bool
home s i = not (s.follower i == none)

-- one of the lowest n slots has the name z
abbrev pub names : Strip → ℕ → ℤ → Bool
names s n z = any_below (λ i. equal (s.name i) z) n

-- one of the lowest n slots is home and has the name z
abbrev pub home_names : Strip → ℕ → ℤ → Bool
home_names s n z = any_below (λ i. home s i && equal (s.name i) z) n

-- how many slots have slot i as their follower
abbrev pub followed : Strip → ℕ → ℕ
followed s i = count_below (λ k. nat_eq (s.follower k) i) s.slots

-- the lowest slot that f leads to from i in n steps or fewer
abbrev pub lowest : ℕ → (ℕ → ℕ) → ℕ → ℕ
lowest zero f i = i
lowest (suc n) f i = cond (nat_lt (iterate (suc n) f i) (lowest n f i)) (iterate (suc n) f i) (lowest n f i)

-- the lowest slot of the round of slot i
unfoldable pub low : Strip → ℕ → ℕ
low s i = lowest s.slots s.follower i

-- slot i is the lowest of a round
abbrev pub opens : Strip → ℕ → Bool
opens s i = home s i && low s i == i

-- how many rounds the strip has
unfoldable pub rounds : Strip → ℕ
rounds s = count_below (opens s) s.slots

-- the vertex of slot i: vertices are ordered by the lowest slot of their round
unfoldable pub vertex : Strip → ℕ → ℕ
vertex s i = count_below (opens s) (low s i)

-- the point where the halfedge of a home slot starts
abbrev pub start : Strip → ℕ → Point
start s i = s.point (vertex s i)

-- f leads from slot i to slot k in fewer than n steps
abbrev pub met : Strip → ℕ → ℕ → ℕ → Bool
met s i n k = any_below (λ m. nat_eq (iterate m s.follower i) k) n

-- followers of home slots are home slots, and differ
pub record Turned (s : Strip) : Type 0 where
  pub ahead : (i : ℕ) → i < s.slots → home s i ≡ true → s.follower i < s.slots
  pub kept : (i : ℕ) → i < s.slots → home s i ≡ true → home s (s.follower i) ≡ true
  pub apart : (i k : ℕ) → i < s.slots → k < s.slots → home s i ≡ true → home s k ≡ true → s.follower i ≡ s.follower k → i ≡ k
