-- Entries that tell line work which is lawful and placed. Assumes nothing.
use Rattle.std.proofs.Common.{◌≡◌, true, false, List, get_or, ℤ, None, Option}
use mathlib.Core.Logic.{∥∥₁_elim}
use Rattle.std.proofs.lemmas.Bool.{cond-true, cond-false}
use Rattle.turning.specs.Limits.{max_edge}
use Rattle.chart.specs.Linework.{Placed}
use Rattle.chart.proofs.Props.{placed_prop}
use Rattle.laws.specs.Keeps.{Sound}
use Rattle.search.specs.Marks.{place as mark_at}
use Rattle.file.specs.Questions.{named}
use Rattle.reading.specs.declared.entry.Entry.{Entry}
use Rattle.reading.specs.Entries.{entry_of, lines_by}

pub placed_of : (es : List (Option Entry)) → ∥ Sound max_edge (lines_by es) ∥₁ → Placed max_edge (lines_by es).turn (lines_by es).points
placed_of es p = ∥∥₁_elim p (placed_prop max_edge (lines_by es).turn (lines_by es).points) (λ s. s.1)

-- the entry of a name stands at its place
pub entry_at : (es : List (Option Entry)) (z : ℤ) → named max_edge z ≡ true → entry_of es z ≡ get_or es (mark_at max_edge z) None
unfolding entry_of
entry_at es z e = cond-true (named max_edge z) _ _ e

pub entry_off : (es : List (Option Entry)) (z : ℤ) → named max_edge z ≡ false → entry_of es z ≡ None
unfolding entry_of
entry_off es z e = cond-false (named max_edge z) _ _ e
