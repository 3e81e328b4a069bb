-- The names that a strip's neighbours hold, by side: +e is looked for to the west, -e to the east.
-- Assumes nothing.
use Rattle.std.specs.Prelude.{◌≡◌, ℕ, zero, suc, ◌+◌, Bool, true, false, cond, not, ◌&&◌, List, ℤ, Some, None, Option, nat_lt, slice_index}
use Rattle.file.specs.declared.questions.SeamQuestion.{SeamQuestion}
use Rattle.file.specs.declared.questions.SeamQuestion.TheVariants.{RunsOn, StartsHere}
use Rattle.file.specs.Strips.{Strip, names}
use Rattle.file.specs.Questions.{positive, named, beyond, runs_on, starts_here}
use Rattle.file.specs.Layout.{strips, strip}
use Rattle.flat.specs.Orbits.{indicator}
use Rattle.turning.specs.Limits.{max_edge}
use Rattle.search.specs.Marks.{place as mark_at}

-- z is +e for the western side, -e for the eastern
abbrev pub on_side : Bool → ℤ → Bool
on_side true z = positive z
on_side false z = not (positive z)

-- one of the lowest n slots of s has the name z of that side
abbrev pub side_names : Bool → Strip → ℕ → ℤ → Bool
side_names side s n z = on_side side z && names s n z

-- the neighbours of strip j of n: to the west, to the east
abbrev pub west_of : ℕ → Option ℕ
west_of zero = None
west_of (suc j) = Some j

abbrev pub east_of : ℕ → ℕ → Option ℕ
east_of n j = cond (nat_lt (j + 1) n) (Some (j + 1)) None

-- a neighbour, where there is one, has the name z of that side
abbrev pub neighbour_names : Bool → (ℕ → Strip) → Option ℕ → ℤ → Bool
neighbour_names side strip None z = false
neighbour_names side strip (Some k) z = side_names side (strip k) (strip k).slots z

-- the marks tell which names of strip j stand in a neighbour
abbrev pub Marked : List ℕ → ℕ → List ℕ → Type 0
Marked b j m = (z : ℤ) → named max_edge z ≡ true → slice_index m (mark_at max_edge z) ≡ indicator (beyond (strips b) (strip b) j z)

-- the test that is asked of external slots, and the one of home slots
abbrev pub stands_right : Bool → ℕ → (ℕ → Strip) → ℕ → ℕ → Bool
stands_right false = runs_on
stands_right true = starts_here

-- the question that asks it
abbrev pub asked_of : Bool → SeamQuestion
asked_of false = RunsOn
asked_of true = StartsHere
