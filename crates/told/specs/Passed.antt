-- A file whose questions 1 to 16 are all answered yes, question by question. Assumes nothing.
use Rattle.std.specs.Prelude.{◌≡◌, ℕ, ◌-◌, ◌<◌, ◌≤◌, true, List}
use Rattle.turning.specs.Limits.{slots as max_slots}
use Rattle.file.specs.Places.{sum_below}
use Rattle.file.specs.Layout.{strips, strip, slots_in}
use Rattle.file.specs.Questions as ask
use Rattle.file.specs.Shapes.{Shaped}
use Rattle.file.specs.Judged.{Judged}

-- the questions of the whole file, of each strip and of the seams
pub record Passed (b : List ℕ) : Type 0 where
  pub shaped : Shaped b (strips b)
  pub total : sum_below (slots_in b) (strips b) ≤ max_slots
  pub rises : (k : ℕ) → k < strips b - 1 → ask.border_good b k ≡ true
  pub judged : Judged b (strips b)
  pub runs_on : (j : ℕ) → j < strips b → (i : ℕ) → i < (strip b j).slots → ask.runs_on (strips b) (strip b) j i ≡ true
  pub starts_here : (j : ℕ) → j < strips b → (i : ℕ) → i < (strip b j).slots → ask.starts_here (strips b) (strip b) j i ≡ true
  pub home_new : (j : ℕ) → j < strips b → (i : ℕ) → i < (strip b j).slots → ask.home_new (strip b) j i ≡ true
  pub west_first : (j : ℕ) → j < strips b → (i : ℕ) → i < (strip b j).slots → ask.west_first (strip b j) i ≡ true
