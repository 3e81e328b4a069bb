-- Borders as they are checked, and what their strips are. Assumes nothing.
use Rattle.std.specs.Prelude.{◌≡◌, ℕ, ◌-◌, ◌≤◌, true, ◌⊎◌, ◌↔◌, List, [], ◌∷◌, ℤ, pos, ◌≤ℤ◌, ◌<ℤ◌, Ok, Err, Result, nat_le, slice_index_or}
use Rattle.turning.specs.Limits.{max_strips}
use Rattle.turning.specs.Refusals.{Questions}
use Rattle.turning.specs.declared.refusal.Refusal.{Refusal}
use Rattle.turning.specs.declared.refusal.Refusal.TheVariants.{BadBorders, TooManyStrips}
use Rattle.strips.specs.Borders.{rising, strip_count, strip_of}
use Rattle.strips.specs.Places.{BorderList}

-- an answer with the list of the borders in their place
abbrev pub listed : Result BorderList Refusal → Result (List ℤ) Refusal
listed (Ok b) = Ok b.items
listed (Err e) = Err e

-- what is asked of borders before a sheet is cut there
abbrev pub border_questions : List ℤ → Questions
border_questions bs = (nat_le (strip_count bs) max_strips, TooManyStrips) ∷ (rising bs, BadBorders) ∷ []

-- strip i has its western border and not its eastern one; the first strip has no western border, the last no eastern one
abbrev pub StripIs : Type 0
StripIs = (bs : List ℤ) → rising bs ≡ true → (x : ℤ) (i : ℕ) → 1 ≤ i → i ≤ strip_count bs
    → (strip_of bs x ≡ i) ↔ (((i ≡ 1) ⊎ (slice_index_or bs (i - 2) (pos 0) ≤ℤ x)) × ((i ≡ strip_count bs) ⊎ (x <ℤ slice_index_or bs (i - 1) (pos 0))))

-- every x has one of the strips, and a greater x none further west, whatever the borders are
abbrev pub StripsRise : Type 0
StripsRise = (bs : List ℤ) (x y : ℤ) → (1 ≤ strip_of bs x) × (strip_of bs x ≤ strip_count bs) × (x ≤ℤ y → strip_of bs x ≤ strip_of bs y)
