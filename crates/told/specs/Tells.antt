-- When the bytes of a file tell line work that is cut at borders: what stands where, in any order of slots. Assumes nothing.
use Rattle.std.specs.Prelude.{◌≡◌, ℕ, zero, suc, ◌-◌, ◌<◌, ◌≤◌, true, List, [], ◌∷◌, ◌++◌, length, ℤ, pos, Some, ◌==◌, slice_index_or}
use Rattle.turning.specs.Limits.{max_strips}
use Rattle.chart.specs.Linework.{Linework}
use Rattle.laws.specs.Keeps.{Sound}
use Rattle.strips.specs.Borders.{rising, strip_count, home_strip, runs_through, slots_taken}
use Rattle.file.specs.Strips.{Strip, home, names, rounds, start}
use Rattle.file.specs.Layout.{strips, strip, strip_at}
use Rattle.file.specs.Layout as file

-- f 0, f 1, .., up to n of them
abbrev pub list_below : {A : Type 0} → (ℕ → A) → ℕ → List A
list_below f zero = []
list_below f (suc n) = list_below f n ++ (f n ∷ [])

-- the borders that a file tells
unfoldable pub borders_in : List ℕ → List ℤ
borders_in b = list_below (file.border b) (strips b - 1)

-- line work that a sheet may hold in the strips of the borders: it is lawful and placed, the borders rise, the strips are few enough, and all slots find room
pub record Standing (n cap : ℕ) (bs : List ℤ) (l : Linework) : Type 0 where
  pub sound : Sound n l
  pub rises : rising bs ≡ true
  pub few : strip_count bs ≤ max_strips
  pub room : slots_taken bs l n ≤ cap

-- a strip of a file tells strip i of the line work l, cut at the borders bs:
-- its slots have exactly the names whose edges run through the strip, each once; a slot is home where its halfedge starts in the strip, and then leads to the slot of its follower;
-- there is a vertex for each round, with the point where its halfedges start
pub record TellsStrip (bs : List ℤ) (l : Linework) (i : ℕ) (s : Strip) : Type 0 where
  pub held : (h : ℤ) → names s s.slots h ≡ runs_through bs l i h
  pub once : (k m : ℕ) → k < s.slots → m < s.slots → s.name k ≡ s.name m → k ≡ m
  pub homes : (k : ℕ) → k < s.slots → home s k ≡ (home_strip bs l (s.name k) == i)
  pub inside : (k : ℕ) → k < s.slots → home s k ≡ true → s.follower k < s.slots
  pub leads : (k : ℕ) → k < s.slots → home s k ≡ true → s.name (s.follower k) ≡ l.turn.follower (s.name k)
  pub round : rounds s ≡ s.vertices
  pub starts : (k : ℕ) → k < s.slots → home s k ≡ true → l.points (s.name k) ≡ Some (start s k)

-- the bytes b tell the line work l, cut at the borders bs: as many strips, the borders, each strip, and nothing more
pub record Tells (bs : List ℤ) (l : Linework) (b : List ℕ) : Type 0 where
  pub count : strips b ≡ strip_count bs
  pub border : (k : ℕ) → k < length bs → file.border b k ≡ slice_index_or bs k (pos 0)
  pub whole : length b ≡ strip_at b (strips b)
  pub each : (j : ℕ) → j < strips b → TellsStrip bs l (suc j) (strip b j)
