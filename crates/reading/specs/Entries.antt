-- The line work that entries tell, one for each held name at the place of its mark. Assumes nothing.
use Rattle.std.specs.Prelude.{cond, List, ℤ, pos, is_some, Some, None, Option, slice_index_or}
use Rattle.std.proofs.Math.Logic.{∥∥₁_elim}
use Rattle.turning.specs.Limits.{max_edge}
use Rattle.turning.specs.Props.{lawful_prop}
use Rattle.turning.specs.Turn.{Lawful}
use Rattle.chart.specs.declared.point.Point.{Point}
use Rattle.chart.specs.Linework.{Linework}
use Rattle.laws.specs.Keeps.{Sound}
use Rattle.search.specs.Marks.{place as mark_at}
use Rattle.file.specs.Questions.{named}
use Rattle.reading.specs.declared.entry.Entry.{Entry}

-- the entry of the name z, if it is held; a number that is no name has none
unfoldable pub entry_of : List (Option Entry) → ℤ → Option Entry
entry_of es z = cond (named max_edge z) (slice_index_or es (mark_at max_edge z) None) None

-- the follower that an entry tells; without an entry, 0
abbrev pub follower_by : Option Entry → ℤ
follower_by None = pos 0
follower_by (Some e) = e.follower

-- the predecessor that an entry tells; without an entry, 0
abbrev pub predecessor_by : Option Entry → ℤ
predecessor_by None = pos 0
predecessor_by (Some e) = e.predecessor

-- the point that an entry tells
abbrev pub point_by : Option Entry → Option Point
point_by None = None
point_by (Some e) = Some e.point

-- the line work that the entries tell
abbrev pub lines_by : List (Option Entry) → Linework
lines_by es = record {
  turn = record {
    held = λ z. is_some (entry_of es z);
    follower = λ z. follower_by (entry_of es z);
    predecessor = λ z. predecessor_by (entry_of es z);
  };
  points = λ z. point_by (entry_of es z);
}

-- what sound entries tell is lawful
pub lawful_of : (es : List (Option Entry)) → ∥ Sound max_edge (lines_by es) ∥₁ → Lawful max_edge (lines_by es).turn
lawful_of es p = ∥∥₁_elim p (lawful_prop max_edge (lines_by es).turn) (λ s. s.0)
