-- What the strips of a file are like whose questions 6 to 12 are answered yes.
-- Assumes nothing.
use Rattle.std.specs.Prelude.{◌≡◌, ℕ, ◌<◌, true, List}
use Rattle.turning.specs.Limits.{max_edge}
use Rattle.file.specs.Layout.{strip, western, eastern}
use Rattle.file.specs.Strips.{rounds, Turned}
use Rattle.file.specs.Questions.{name_good, paired, point_good, point_new}

-- of n strips, the questions 6 to 12 are answered yes
pub record Judged (b : List ℕ) (n : ℕ) : Type 0 where
  pub named : (j : ℕ) → j < n → (i : ℕ) → i < (strip b j).slots → name_good max_edge (strip b j) i ≡ true
  pub pairs : (j : ℕ) → j < n → (i : ℕ) → i < (strip b j).slots → paired (strip b j) i ≡ true
  pub turned : (j : ℕ) → j < n → Turned (strip b j)
  pub round : (j : ℕ) → j < n → rounds (strip b j) ≡ (strip b j).vertices
  pub placed : (j : ℕ) → j < n → (k : ℕ) → k < (strip b j).vertices → point_good (western b j) (eastern b j) (strip b j) k ≡ true
  pub parted : (j : ℕ) → j < n → (k : ℕ) → k < (strip b j).vertices → point_new (strip b j) k ≡ true
