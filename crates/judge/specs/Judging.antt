-- The verdict of a call that is lent its working buffers.
-- Assumes nothing.
use Rattle.std.specs.Prelude.{ℕ, Bool, cond, List, Some, Option}
use Rattle.file.specs.declared.fault.Fault.{Fault}
use Rattle.file.specs.declared.fault.Layer.TheVariants.{Call}
use Rattle.file.specs.Verdict.{shape_verdict}

-- question 20, whether the buffers are long enough, and then the questions 1 to 16
abbrev pub verdict_by : Bool → List ℕ → Option Fault
verdict_by long b = cond long (shape_verdict b) (Some (record { layer = Call; number = 20; strip = 0; place = 0 }))
