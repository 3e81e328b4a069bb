-- What the proofs of an accepted file pass on to one another. Assumes nothing.
use Rattle.std.proofs.Common.{◌≡◌, ℕ, ◌<◌, ◌≤◌, true, List, ℤ, pos, negsuc, Some}
use Rattle.file.specs.Layout.{strips, strip}
use Rattle.file.specs.Strips.{names}
use Rattle.file.specs.Lines.{Slot, home_slot}

-- the home of a name of strip j lies in strip a: to the west for +e, to the east for -e
abbrev pub Toward : ℤ → ℕ → ℕ → Type 0
Toward (pos e) a j = a ≤ j
Toward (negsuc e) a j = j ≤ a

-- every name that stands in a strip has a home, on its side
abbrev pub RunsHome : List ℕ → Type 0
RunsHome b = (j : ℕ) → j < strips b → (z : ℤ) → names (strip b j) (strip b j).slots z ≡ true → (a : Slot) × (home_slot (strips b) (strip b) z ≡ Some a) × Toward z a.strip j
