-- What a sheet is asked about its strips, and what a layout asks. Assumes nothing.
use Rattle.std.specs.Prelude.{◌≡◌, ℕ, Bool, ◌&&◌, List, [], ◌∷◌, ◌++◌, ℤ, Ok, Err, Result, nat_le}
use Rattle.turning.specs.Limits.{max_edge}
use Rattle.turning.specs.Refusals.{Questions, asked}
use Rattle.turning.specs.declared.refusal.Refusal.{Refusal}
use Rattle.turning.specs.declared.refusal.Refusal.TheVariants.{NotThere, NoRoom}
use Rattle.chart.specs.Linework.{Linework}
use Rattle.halfedges.specs.declared.halfedge.Halfedge.{Halfedge}
use Rattle.halfedges.specs.View.{seen}
use Rattle.halfedges.specs.Rows.{lines_in}
use Rattle.strips.specs.declared.home.Home.{Home}
use Rattle.strips.specs.Borders.{strip_count, apart, home_strip, runs_through, slots_taken}
use Rattle.strips.specs.Cuts.{border_questions}

-- strip i is there, and has a slot of the name h
abbrev pub in_strip : List ℤ → Linework → ℕ → ℤ → Bool
in_strip bs l i h = nat_le 1 i && nat_le i (strip_count bs) && runs_through bs l i h

-- where h is at home, and how many borders lie between there and strip i
abbrev pub home_of : List ℤ → Linework → ℕ → ℤ → Home
home_of bs l i h = record { strip = home_strip bs l h; crossed = apart i (home_strip bs l h) }

-- the answer to the question for the home of h, asked in strip i
abbrev pub told_home : List ℤ → Linework → ℕ → ℤ → Result Home Refusal
told_home bs l i h = asked ((in_strip bs l i h, NotThere) ∷ []) (home_of bs l i h)

-- what a layout asks: its borders, and whether the slots of all edges find room
abbrev pub layout_questions : List ℤ → Linework → ℕ → Questions
layout_questions bs l room = border_questions bs ++ ((nat_le (slots_taken bs l max_edge) room, NoRoom) ∷ [])

-- a layout that is done leaves just the chart and the borders; a refused one leaves all
abbrev pub Laid : Result Unit Refusal → List ℤ → Linework → List ℤ → List Halfedge → List ℤ → List Halfedge → Type 0
Laid (Ok _) bs l old rs bs' rs' = (bs' ≡ bs) × (lines_in (seen rs') ≡ l)
Laid (Err _) bs l old rs bs' rs' = (bs' ≡ old) × (rs' ≡ rs)
