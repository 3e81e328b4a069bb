-- What a call answers: its questions in their order, each with its answer and the refusal that a no gives.
-- Assumes nothing.
use Rattle.std.specs.Prelude.{Bool, cond, List, [], ◌∷◌, ℤ, Ok, Err, Result}
use Rattle.turning.specs.declared.refusal.Refusal.{Refusal}
use Rattle.turning.specs.declared.refusal.Refusal.TheVariants.{NotThere}
use Rattle.turning.specs.Turn.{Turn}

-- a table of questions
abbrev pub Questions : Type 0
Questions = List (Bool × Refusal)

-- the value, or the refusal of the first question that is answered no
abbrev pub asked : {V : Type 0} → Questions → V → Result V Refusal
asked [] v = Ok v
asked ((answer, refusal) ∷ qs) v = cond answer (asked qs v) (Err refusal)

-- done, or refused
abbrev pub Outcome : Type 0
Outcome = Result Unit Refusal

-- the answer of a call that is done
abbrev pub granted : Outcome
granted = Ok tt

-- the answer of a call that gives no value
abbrev pub outcome : Questions → Outcome
outcome qs = asked qs tt

-- is each of the names there?
abbrev pub there : Turn → List ℤ → Questions
there t [] = []
there t (h ∷ hs) = (t.held h, NotThere) ∷ there t hs
