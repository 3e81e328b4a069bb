-- The entries as they are filled in, slot by slot: a home slot tells the name that follows it. Assumes nothing.
use Rattle.std.specs.Prelude.{◌≡◌, ℕ, cond, ◌&&◌, List, ℤ, Some, None, Option}
use Rattle.flat.specs.Whole.{equal}
use Rattle.chart.specs.Linework.{Linework}
use Rattle.halfedges.specs.Copies.{point_or_origin}
use Rattle.file.specs.Layout.{strip}
use Rattle.file.specs.Questions.{home_before}
use Rattle.file.specs.Strips.{Strip, home, start}
use Rattle.file.specs.Verdict.{told_lines}
use Rattle.reading.specs.declared.entry.Entry.{Entry}
use Rattle.reading.specs.Entries.{entry_of}

-- what the home slot i of a strip tells of the name that follows
abbrev pub slot_entry : Strip → ℕ → Entry
slot_entry s i = record { follower = s.name (s.follower (s.follower i)); predecessor = s.name i; point = start s i }

-- the entry of the name that follows slot i is put in, where the slot is home
abbrev pub Put : Strip → ℕ → List (Option Entry) → List (Option Entry) → Type 0
Put s i es es' = (z : ℤ) → entry_of es' z ≡ cond (home s i && equal z (s.name (s.follower i))) (Some (slot_entry s i)) (entry_of es z)

-- the entry of a held name of line work
abbrev pub entry_in : Linework → ℤ → Entry
entry_in l z = record { follower = l.turn.follower z; predecessor = l.turn.predecessor z; point = point_or_origin (l.points z) }

-- the names are entered whose predecessors have a home slot in an earlier strip, or a lower one of strip j
abbrev pub Entered : List ℕ → ℕ → ℕ → List (Option Entry) → Type 0
Entered b j i es = (z : ℤ) → entry_of es z ≡ cond (home_before (strip b) j i ((told_lines b).turn.predecessor z)) (Some (entry_in (told_lines b) z)) None
