-- A question that is answered no, with its strip and its place.
-- Assumes nothing.
use Rattle.std.specs.Prelude.{ℕ}
use Rattle.file.specs.declared.fault.Fault.{Fault}
use Rattle.file.specs.declared.fault.Layer.{Layer}
use Rattle.file.specs.declared.fault.QuestionFault.{QuestionFault}

-- the fault of question q, strip s, place p
abbrev pub fault_at : {Q : Type 0} → Q → ℕ → ℕ → QuestionFault Q
fault_at q s p = record { question = q; strip = s; place = p }

-- a fault of a layer, as the reader tells it: by the number of its question
abbrev pub told_fault : {Q : Type 0} → Layer → (Q → ℕ) → QuestionFault Q → Fault
told_fault l number f = record { layer = l; number = number f.question; strip = f.strip; place = f.place }
