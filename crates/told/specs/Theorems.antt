-- What an accepted file is, in the words of the subject. Assumes nothing.
use Rattle.std.specs.Prelude.{◌≡◌, ℕ, ◌↔◌, List, ℤ, None}
use Rattle.turning.specs.Limits.{max_edge, slots}
use Rattle.turning.specs.Counts.{Flat}
use Rattle.chart.specs.Linework.{Linework}
use Rattle.file.specs.Verdict.{shape_verdict, verdict, told_lines}
use Rattle.told.specs.Tells.{borders_in, Standing, Tells}

-- A file whose questions 1 to 16 are answered yes tells line work that a sheet may hold: nothing else gets in.
abbrev pub AcceptedTells : Type 0
AcceptedTells = (b : List ℕ) → shape_verdict b ≡ None → Standing max_edge slots (borders_in b) (told_lines b) × Tells (borders_in b) (told_lines b) b

-- A file that tells such line work, in any order of slots, passes all of them, and tells no other: nothing is turned away, and nothing is lost.
abbrev pub ToldAccepted : Type 0
ToldAccepted = (b : List ℕ) (bs : List ℤ) (l : Linework) → Standing max_edge slots bs l → Tells bs l b → (shape_verdict b ≡ None) × (borders_in b ≡ bs) × (told_lines b ≡ l)

-- line work that a sheet may hold, and flat
abbrev pub FlatSheet : List ℤ → Linework → Type 0
FlatSheet bs l = Standing max_edge slots bs l × Flat max_edge l.turn

-- A file is accepted exactly when it tells some flat sheet in some order of slots.
abbrev pub AcceptedExactly : Type 0
AcceptedExactly = (b : List ℕ) → (verdict b ≡ None) ↔ ((bs : List ℤ) × (l : Linework) × FlatSheet bs l × Tells bs l b)
