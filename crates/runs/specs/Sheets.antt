-- Runs over a stripped sheet, with cuts and knits among the calls. Assumes nothing.
use Rattle.std.specs.Prelude.{◌≡◌}
use Rattle.turning.specs.Limits.{max_edge}
use Rattle.turning.specs.Refusals.{Outcome}
use Rattle.chart.specs.Stores.{Meaning}
use Rattle.strips.specs.Seams.{Cuts, Knits, room_in}
use Rattle.runs.specs.declared.calls.Item.{Item}
use Rattle.runs.specs.declared.sheets.SheetCall.{SheetCall}
use Rattle.runs.specs.declared.sheets.SheetCall.TheVariants.{Edit, Cut, Knit}
use Rattle.runs.specs.Runs.{edit_of, Carried, StepBy, FlatStepBy}

-- a call of the sheet: its outcome r, the call and the meaning after
abbrev pub SheetChanged : Meaning → SheetCall → Outcome → SheetCall → Meaning → Type 0
SheetChanged m (Edit c) r (Edit d) m' = Carried max_edge m (edit_of c) r (edit_of d) m'
SheetChanged m (Edit _) r (Cut _) m' = ⊥
SheetChanged m (Edit _) r (Knit _) m' = ⊥
SheetChanged m (Cut x) r (Cut y) m' = (y ≡ x) × Cuts max_edge m x r m'
SheetChanged m (Cut _) r (Edit _) m' = ⊥
SheetChanged m (Cut _) r (Knit _) m' = ⊥
SheetChanged m (Knit x) r (Knit y) m' = (y ≡ x) × Knits max_edge m x r m'
SheetChanged m (Knit _) r (Edit _) m' = ⊥
SheetChanged m (Knit _) r (Cut _) m' = ⊥

-- what fits is what the line work and the frame leave room for
abbrev pub RoomTold : Meaning → Type 0
RoomTold m = m.fits ≡ room_in max_edge m.lines m.frame

-- and then what fits is told by the line work and the frame
abbrev pub SheetCarried : Meaning → SheetCall → Outcome → SheetCall → Meaning → Type 0
SheetCarried m c r c' m' = SheetChanged m c r c' m' × RoomTold m'

-- one call of a run
abbrev pub SheetStep : Meaning → Item SheetCall → Item SheetCall → Meaning → Type 0
SheetStep = StepBy SheetCarried

-- and the line work is flat after it
abbrev pub FlatSheetStep : Meaning → Item SheetCall → Item SheetCall → Meaning → Type 0
FlatSheetStep = FlatStepBy SheetCarried
