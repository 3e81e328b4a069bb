-- Two runs of the same edits agree. Assumes nothing.
use Rattle.std.proofs.Common.{◌≡◌, ℕ, Bool, true, false, cond, List, [], ◌∷◌, ◌++◌, Some, Ok, Err, sym, refl, ap, ◌∙◌, subst, ap₂}
use Rattle.turning.specs.Limits.{max_edge}
use Rattle.turning.specs.declared.refusal.Refusal.TheVariants.{ShortBuffers, NoRoom}
use Rattle.turning.specs.Refusals.{Questions, Outcome, outcome}
use Rattle.search.specs.Buffers.{enough}
use Rattle.chart.specs.Linework.{Linework}
use Rattle.chart.specs.Stores.{Meaning}
use Rattle.edits.specs.Edits.{Edit, starts, sprouts, joins, splits, removes, questions, join_questions, start_of, made, Changed}
use Rattle.runs.specs.declared.calls.Call.{Call}
use Rattle.runs.specs.declared.calls.Item.{Item}
use Rattle.runs.specs.declared.sheets.SheetCall.{SheetCall}
use Rattle.runs.specs.declared.sheets.SheetCall.TheVariants.{Edit as AnEdit, Cut, Knit}
use Rattle.runs.specs.Chains.{Chain, over, then}
use Rattle.runs.specs.Runs.{edit_of, Answer, Carried, Step}
use Rattle.runs.specs.Sheets.{SheetChanged, SheetStep}
use Rattle.runs.specs.Flatness.{recut_lines}
use Rattle.runs.specs.Agreed.{bare, edits_more, edits_of, answers_more, answers_of, edits_in, answers_in, Unhindered, Alike, RunsAgree}
use Rattle.runs.proofs.Carrying.{zero_one}

-- a store of that line work where everything fits
abbrev roomy : Linework → Meaning
roomy l = record { lines = l; frame = record { borders = []; slots = 0 }; fits = λ _ _. true }

-- what an edit answers where buffers and room are no hindrance
abbrev ideal : ℕ → Linework → Edit → Outcome
ideal n l (starts e p q) = outcome (questions n (roomy l) (starts e p q))
ideal n l (sprouts e c p) = outcome (questions n (roomy l) (sprouts e c p))
ideal n l (joins e c d marks line) = outcome (join_questions n (roomy l) e c d)
ideal n l (splits e f p) = outcome (questions n (roomy l) (splits e f p))
ideal n l (removes e) = outcome (questions n (roomy l) (removes e))

-- a table whose last question is for room
abbrev front : Questions → Questions
front [] = []
front (q ∷ []) = []
front (q ∷ (r ∷ qs)) = q ∷ front (r ∷ qs)

abbrev Roomless : Outcome → Type 0
Roomless r = ¬ (r ≡ Err NoRoom)

room : (qs : Questions) (b : Bool) → Roomless (outcome (qs ++ ((b, NoRoom) ∷ []))) → outcome (qs ++ ((b, NoRoom) ∷ [])) ≡ outcome (qs ++ ((true, NoRoom) ∷ []))
room [] true h = refl
room [] false h = absurd (h refl)
room ((a, x) ∷ qs) b h = go a h (room qs b)
  where
    go : (y : Bool) → Roomless (cond y (outcome (qs ++ ((b, NoRoom) ∷ []))) (Err x)) → (Roomless (outcome (qs ++ ((b, NoRoom) ∷ []))) → outcome (qs ++ ((b, NoRoom) ∷ [])) ≡ outcome (qs ++ ((true, NoRoom) ∷ [])))
        → cond y (outcome (qs ++ ((b, NoRoom) ∷ []))) (Err x) ≡ cond y (outcome (qs ++ ((true, NoRoom) ∷ []))) (Err x)
    go true h rec = rec h
    go false h rec = refl

long : (b : Bool) (r : Outcome) → ¬ (cond b r (Err ShortBuffers) ≡ Err ShortBuffers) → cond b r (Err ShortBuffers) ≡ r
long true r h = refl
long false r h = absurd (h refl)

-- an answer that is neither of the two is the ideal one
is_ideal : (n : ℕ) (m : Meaning) (q : Edit) → ¬ (outcome (questions n m q) ≡ Err ShortBuffers) → Roomless (outcome (questions n m q)) → outcome (questions n m q) ≡ ideal n m.lines q
is_ideal n m (starts e p q) s h = room (front (questions n m (starts e p q))) (m.fits p q) h
is_ideal n m (sprouts e c p) s h = room (front (questions n m (sprouts e c p))) (m.fits (start_of m.lines c) p) h
is_ideal n m (joins e c d marks line) s h =
    let k = long (enough n marks line) (outcome (join_questions n m e c d)) s in
    k ∙ room (front (join_questions n m e c d)) (m.fits (start_of m.lines c) (start_of m.lines d)) (subst Roomless k h)
is_ideal n m (splits e f p) s h = room (front (questions n m (splits e f p))) (m.fits p p) h
is_ideal n m (removes e) s h = refl

ideal_bare : (n : ℕ) (l : Linework) (q : Edit) → ideal n l q ≡ ideal n l (bare q)
ideal_bare n l (starts e p q) = refl
ideal_bare n l (sprouts e c p) = refl
ideal_bare n l (joins e c d marks line) = refl
ideal_bare n l (splits e f p) = refl
ideal_bare n l (removes e) = refl

made_bare : (l : Linework) (q : Edit) → made q l ≡ made (bare q) l
made_bare l (starts e p q) = refl
made_bare l (sprouts e c p) = refl
made_bare l (joins e c d marks line) = refl
made_bare l (splits e f p) = refl
made_bare l (removes e) = refl

-- what a change leaves of the line work, by the outcome alone
abbrev leaves : Outcome → Linework → Linework → Linework
leaves (Ok _) to l = to
leaves (Err _) to l = l

lines_after : (r : Outcome) (to : Linework) (m m' : Meaning) → Changed r to m m' → m'.lines ≡ leaves r to m.lines
lines_after (Ok _) to m m' h = h.0
lines_after (Err _) to m m' h = ap (λ k. k.lines) h

module _ (n : ℕ) (m m' : Meaning) (q : Edit) (a : Outcome) (q' : Edit) (h : Carried n m q a q' m') (s : ¬ (a ≡ Err ShortBuffers)) (r : ¬ (a ≡ Err NoRoom)) where
  outcome_is : outcome (questions n m q) ≡ ideal n m.lines (bare q)
  outcome_is = is_ideal n m q (λ e. s (h.answered ∙ e)) (λ e. r (h.answered ∙ e)) ∙ ideal_bare n m.lines q

  answer_is : a ≡ ideal n m.lines (bare q)
  answer_is = h.answered ∙ outcome_is

  lines_are : m'.lines ≡ leaves (ideal n m.lines (bare q)) (made (bare q) m.lines) m.lines
  lines_are = lines_after (outcome (questions n m q)) (made q m.lines) m m' h.changed ∙ ap₂ (λ o w. leaves o w m.lines) outcome_is (made_bare m.lines q)

-- one edit on two stores
agree_once : (n : ℕ) (m m' k k' : Meaning) (p q p' q' : Edit) (a b : Outcome) → Carried n m p a p' m' → Carried n k q b q' k' → bare p ≡ bare q → m.lines ≡ k.lines
    → ¬ (a ≡ Err ShortBuffers) → ¬ (a ≡ Err NoRoom) → ¬ (b ≡ Err ShortBuffers) → ¬ (b ≡ Err NoRoom) → (a ≡ b) × (m'.lines ≡ k'.lines)
agree_once n m m' k k' p q p' q' a b h i e l s r u v = (
  answer_is n m m' p a p' h s r ∙ ap₂ (λ w x. ideal n w x) l e ∙ sym (answer_is n k k' q b q' i u v),
  lines_are n m m' p a p' h s r ∙ ap₂ (λ w x. leaves (ideal n w x) (made x w) w) l e ∙ sym (lines_are n k k' q b q' i u v),
)

-- one call of the sheet, with what is known of the calls after it
more : (m m₁ m₂ k k₂ : Meaning) (a : Answer) (r : Outcome) → a ≡ Some r → (xs ys : List (Item SheetCall)) (us vs : List (Item Call)) (t u : SheetCall) → SheetChanged m t r u m₁ → Chain Step k us vs k₂
    → ((i j : Meaning) (us vs : List (Item Call)) → Chain Step i us vs j → Alike xs us m₁.lines i.lines ys vs m₂.lines j.lines)
    → edits_more t (edits_of xs) ≡ edits_in us → m.lines ≡ k.lines → Unhindered (answers_more u a (answers_of ys)) → Unhindered (answers_in vs)
    → (answers_more u a (answers_of ys) ≡ answers_in vs) × (m₂.lines ≡ k₂.lines)
more m m₁ m₂ k k₂ a r is xs ys us vs (Cut _) (Cut _) s i rec e l f g = rec k k₂ us vs i e (recut_lines max_edge r _ m m₁ s.1.changed ∙ l) f g
more m m₁ m₂ k k₂ a r is xs ys us vs (Knit _) (Knit _) s i rec e l f g = rec k k₂ us vs i e (recut_lines max_edge r _ m m₁ s.1.changed ∙ l) f g
more m m₁ m₂ k k₂ a r is xs ys us vs (Cut _) (Knit _) s i rec e l f g = absurd s
more m m₁ m₂ k k₂ a r is xs ys us vs (Knit _) (Cut _) s i rec e l f g = absurd s
more m m₁ m₂ k k₂ a r is xs ys us vs (AnEdit _) (Cut _) s i rec e l f g = absurd s
more m m₁ m₂ k k₂ a r is xs ys us vs (AnEdit _) (Knit _) s i rec e l f g = absurd s
more m m₁ m₂ k k₂ a r is xs ys us vs (Cut _) (AnEdit _) s i rec e l f g = absurd s
more m m₁ m₂ k k₂ a r is xs ys us vs (Knit _) (AnEdit _) s i rec e l f g = absurd s
more m m₁ m₂ k _ a r is xs ys _ _ (AnEdit c) (AnEdit d) s over rec e l f g = let z : ◌≡◌ {A = ℕ} 0 1 = cc in absurd (zero_one z)
more m m₁ m₂ k k₂ a r is xs ys _ _ (AnEdit c) (AnEdit d) s (then {m₁ = k₁} {x = u} {y = v} {xs = us} {ys = vs} t j) rec e l f g =
    let head : bare (edit_of c) ≡ bare (edit_of u.call) = cc in
    let tail : edits_of xs ≡ edits_in us = cc in
    let one = agree_once max_edge m m₁ k k₁ (edit_of c) (edit_of u.call) (edit_of d) (edit_of v.call) r t.0 s t.1.1 head l (λ z. f.0 (is ∙ ap Some z)) (λ z. f.1 (is ∙ ap Some z)) (λ z. g.0 (t.1.0 ∙ ap Some z)) (λ z. g.1 (t.1.0 ∙ ap Some z)) in
    let rest = rec k₁ k₂ us vs j tail one.1 f.2 g.2 in
    (ap₂ (λ (p : Answer) (ps : List Answer). p ∷ ps) (is ∙ ap Some one.0 ∙ sym t.1.0) rest.0, rest.1)

agree : {m m' k k' : Meaning} {xs ys : List (Item SheetCall)} {us vs : List (Item Call)} → Chain SheetStep m xs ys m' → Chain Step k us vs k' → Alike xs us m.lines k.lines ys vs m'.lines k'.lines
agree over over = λ e l f g. (refl, l)
agree over (then t j) = λ e l f g. let z : ◌≡◌ {A = ℕ} 0 1 = cc in absurd (zero_one z)
agree {k = k} {k' = k'} {us = us} {vs = vs} (then {m = m} {m₁ = m₁} {m₂ = m₂} {x = x} {y = y} {xs = xs} {ys = ys} s h) i =
    more m m₁ m₂ k k' y.answer s.0 s.1.0 xs ys us vs x.call y.call s.1.1.0 i (λ p q us vs j. agree h j)

pub runs_agree : RunsAgree
runs_agree m m' k k' xs ys us vs h i = agree h i
