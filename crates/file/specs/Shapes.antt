-- What a file is like whose questions as a whole are answered yes, so that its strips can be lent.
-- Assumes nothing.
use Rattle.std.specs.Prelude.{◌≡◌, ℕ, ◌+◌, ◌*◌, ◌<◌, ◌≤◌, List, length}
use Rattle.turning.specs.Limits.{slots as max_slots, max_strips}
use Rattle.file.specs.Layout.{strips, strip_at, slots_in, vertices_in}

-- the file tells that it has n strips, as many as it may have, and their sizes are all there
pub record Counted (b : List ℕ) (n : ℕ) : Type 0 where
  pub count : n ≡ strips b
  pub some : 1 ≤ n
  pub few : n ≤ max_strips
  pub sizes : 2 + 4 * n ≤ length b

-- the file has n strips, as many as it tells, with sizes within the limits, and is as long as they tell
pub record Shaped (b : List ℕ) (n : ℕ) : Type 0 where
  pub count : n ≡ strips b
  pub some : 1 ≤ n
  pub few : n ≤ max_strips
  pub whole : length b ≡ strip_at b n
  pub small : (j : ℕ) → j < n → slots_in b j ≤ max_slots
  pub fewer : (j : ℕ) → j < n → vertices_in b j ≤ slots_in b j
