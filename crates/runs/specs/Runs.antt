-- Runs of edits over any store, and what is promised of them. Assumes nothing.
use Rattle.std.specs.Prelude.{◌≡◌, ℕ, pos, Some, Err, Option, vec_items}
use Rattle.turning.specs.Limits.{max_edge, marks_for, line_for}
use Rattle.turning.specs.declared.refusal.Refusal.TheVariants.{LoopsOfOnePiece}
use Rattle.turning.specs.Refusals.{Outcome, outcome}
use Rattle.turning.specs.Counts.{Flat}
use Rattle.search.specs.Buffers.{enough, given_back}
use Rattle.chart.specs.Stores.{Meaning}
use Rattle.edits.specs.Edits.{Edit, starts, sprouts, joins, splits, removes, questions, made, Changed, KeepsFlat, Judged}
use Rattle.runs.specs.declared.calls.Call.{Call}
use Rattle.runs.specs.declared.calls.Call.TheVariants.{Start, Sprout, Join, Split, Remove}
use Rattle.runs.specs.declared.calls.Item.{Item}

-- a call as an edit, with what its buffers hold
abbrev pub edit_of : Call → Edit
edit_of (Start edge p q) = starts edge p q
edit_of (Sprout edge corner p) = sprouts edge corner p
edit_of (Join edge at marks line) = joins edge at.c at.d (vec_items marks) (vec_items line)
edit_of (Split edge east p) = splits edge east p
edit_of (Remove edge) = removes edge

-- what an item holds for an answer: the outcome of its call, or nothing while that is to come
abbrev pub Answer : Type 0
Answer = Option Outcome

-- the call has its answer, and what is said of the outcome holds
abbrev pub Answered : Answer → (Outcome → Type 0) → Type 0
Answered a Says = (r : Outcome) × ((a ≡ Some r) × Says r)

-- the edit as it stands after: the buffers of a join are given back
abbrev pub left : ℕ → Edit → Edit
left n (starts e p q) = starts e p q
left n (sprouts e c p) = sprouts e c p
left n (joins e c d marks line) = joins e c d (given_back (enough n marks line) (marks_for n) 0 marks) (given_back (enough n marks line) (line_for n) (pos 0) line)
left n (splits e f p) = splits e f p
left n (removes e) = removes e

-- the edit q at m: its outcome r, the edit and the meaning after; that a join gets the refusal for its loops where it should; and that flat line work stays flat
pub record Carried (n : ℕ) (m : Meaning) (q : Edit) (r : Outcome) (q' : Edit) (m' : Meaning) : Type 0 where
  pub answered : r ≡ outcome (questions n m q)
  pub changed : Changed (outcome (questions n m q)) (made q m.lines) m m'
  pub lent : q' ≡ left n q
  pub judged : Judged n m q (r ≡ Err LoopsOfOnePiece)
  pub flat : KeepsFlat n m m'

-- the same of a call
abbrev pub CallCarried : Meaning → Call → Outcome → Call → Meaning → Type 0
CallCarried m c r c' m' = Carried max_edge m (edit_of c) r (edit_of c') m'

-- one call of a run is carried out, and has its answer
abbrev pub StepBy : {C : Type 0} → (Meaning → C → Outcome → C → Meaning → Type 0) → Meaning → Item C → Item C → Meaning → Type 0
StepBy By m x y m' = Answered y.answer (λ r. By m x.call r y.call m')

-- one call of a list of edits
abbrev pub Step : Meaning → Item Call → Item Call → Meaning → Type 0
Step = StepBy CallCarried

-- vertices and loops are together the edges and twice the pieces
abbrev pub FlatAt : Meaning → Type 0
FlatAt m = Flat max_edge m.lines.turn

-- one call of a run, and the line work is flat after it
abbrev pub FlatStepBy : {C : Type 0} → (Meaning → C → Outcome → C → Meaning → Type 0) → Meaning → Item C → Item C → Meaning → Type 0
FlatStepBy By m x y m' = StepBy By m x y m' × FlatAt m'

-- one call of a list of edits, and the line work is flat after it
abbrev pub FlatStep : Meaning → Item Call → Item Call → Meaning → Type 0
FlatStep = FlatStepBy CallCarried
