-- A sheet that gets a whole list, and a second store that gets its edits only. Assumes nothing.
use Rattle.std.specs.Prelude.{◌≡◌, List, [], ◌∷◌, map, Some, Err}
use Rattle.turning.specs.declared.refusal.Refusal.TheVariants.{ShortBuffers, NoRoom}
use Rattle.chart.specs.Linework.{Linework}
use Rattle.chart.specs.Stores.{Meaning}
use Rattle.edits.specs.Edits.{Edit, starts, sprouts, joins, splits, removes}
use Rattle.runs.specs.declared.calls.Call.{Call}
use Rattle.runs.specs.declared.calls.Item.{Item}
use Rattle.runs.specs.declared.sheets.SheetCall.{SheetCall}
use Rattle.runs.specs.declared.sheets.SheetCall.TheVariants.{Edit as AnEdit, Cut, Knit}
use Rattle.runs.specs.Chains.{Chain}
use Rattle.runs.specs.Runs.{edit_of, Answer, Step}
use Rattle.runs.specs.Sheets.{SheetStep}

-- an edit with its buffers aside
abbrev pub bare : Edit → Edit
bare (starts e p q) = starts e p q
bare (sprouts e c p) = sprouts e c p
bare (joins e c d marks line) = joins e c d [] []
bare (splits e f p) = splits e f p
bare (removes e) = removes e

-- one call more before a list of edits: an edit counts, a cut or a knit does not
abbrev pub edits_more : SheetCall → List Edit → List Edit
edits_more (AnEdit c) qs = bare (edit_of c) ∷ qs
edits_more (Cut _) qs = qs
edits_more (Knit _) qs = qs

-- the edits of a sheet's list
abbrev pub edits_of : List (Item SheetCall) → List Edit
edits_of [] = []
edits_of (x ∷ xs) = edits_more x.call (edits_of xs)

-- the same for the answers
abbrev pub answers_more : SheetCall → Answer → List Answer → List Answer
answers_more (AnEdit _) a rest = a ∷ rest
answers_more (Cut _) a rest = rest
answers_more (Knit _) a rest = rest

-- the answers to the edits of a sheet's list
abbrev pub answers_of : List (Item SheetCall) → List Answer
answers_of [] = []
answers_of (y ∷ ys) = answers_more y.call y.answer (answers_of ys)

-- the edits of a store's list
abbrev pub edits_in : List (Item Call) → List Edit
edits_in us = map (λ (u : Item Call). bare (edit_of u.call)) us

-- the answers of a store's list
abbrev pub answers_in : List (Item Call) → List Answer
answers_in vs = map (λ (v : Item Call). v.answer) vs

-- no answer is a refusal for want of buffers or of room
abbrev pub Unhindered : List Answer → Type 0
Unhindered [] = Unit {0}
Unhindered (a ∷ rest) = (¬ (a ≡ Some (Err ShortBuffers))) × (¬ (a ≡ Some (Err NoRoom))) × Unhindered rest

-- the same edits, from equal line work, with no such refusal: equal answers, and equal line work at the end
abbrev pub Alike : List (Item SheetCall) → List (Item Call) → Linework → Linework → List (Item SheetCall) → List (Item Call) → Linework → Linework → Type 0
Alike xs us l k ys vs l' k' =
    edits_of xs ≡ edits_in us → l ≡ k → Unhindered (answers_of ys) → Unhindered (answers_in vs)
    → (answers_of ys ≡ answers_in vs) × (l' ≡ k')

-- any run over a sheet and any run over a store are alike
abbrev pub RunsAgree : Type 0
RunsAgree = (m m' k k' : Meaning) (xs ys : List (Item SheetCall)) (us vs : List (Item Call)) → Chain SheetStep m xs ys m' → Chain Step k us vs k'
    → Alike xs us m.lines k.lines ys vs m'.lines k'.lines
