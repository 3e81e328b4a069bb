-- The verdict of a call that reads bytes into a sheet, and what is on the sheet after it. Assumes nothing.
use Rattle.std.specs.Prelude.{◌≡◌, ℕ, Bool, cond, List, [], ℤ, Some, Ok, Err, Option, Result}
use Rattle.chart.specs.Linework.{no_lines}
use Rattle.halfedges.specs.declared.halfedge.Halfedge.{Halfedge}
use Rattle.halfedges.specs.View.{seen}
use Rattle.halfedges.specs.Rows.{lines_in}
use Rattle.file.specs.declared.fault.Fault.{Fault}
use Rattle.file.specs.declared.fault.Layer.TheVariants.{Call}
use Rattle.file.specs.Verdict.{verdict, told_lines}
use Rattle.told.specs.Tells.{borders_in}

-- a fault of the call itself
abbrev pub call_fault : ℕ → Fault
call_fault n = record { layer = Call; number = n; strip = 0; place = 0 }

-- question 18, whether the sheet's memory is long enough, and then the questions 1 to 17
abbrev pub sheet_verdict : Bool → List ℕ → Option Fault
sheet_verdict long b = cond long (verdict b) (Some (call_fault 18))

-- question 20, whether the buffers are long enough, and then the others
abbrev pub read_verdict : Bool → Bool → List ℕ → Option Fault
read_verdict lent long b = cond lent (sheet_verdict long b) (Some (call_fault 20))

-- a sheet that was read holds just what the bytes tell; after a fault it is the empty sheet of one strip
abbrev pub Read : Result Unit Fault → List ℕ → List ℤ → List Halfedge → Type 0
Read (Ok _) b bs rs = (bs ≡ borders_in b) × (lines_in (seen rs) ≡ told_lines b)
Read (Err _) b bs rs = (bs ≡ []) × (lines_in (seen rs) ≡ no_lines)
