-- Every call of a sheet keeps flat line work flat. Assumes nothing.
use Rattle.std.specs.Prelude.{◌≡◌, ℕ, List, ℤ, Ok, Err}
use Rattle.std.proofs.Common.{sym, ap, subst}
use Rattle.turning.specs.Limits.{max_edge}
use Rattle.turning.specs.Counts.{Flat}
use Rattle.turning.specs.Refusals.{Outcome}
use Rattle.chart.specs.Stores.{Meaning}
use Rattle.strips.specs.Seams.{Bordered}
use Rattle.runs.specs.declared.sheets.SheetCall.{SheetCall}
use Rattle.runs.specs.declared.sheets.SheetCall.TheVariants.{Edit as AnEdit, Cut, Knit}
use Rattle.runs.specs.Runs.{FlatAt}
use Rattle.runs.specs.Sheets.{SheetChanged, SheetCarried}

-- a recut leaves the line work
pub recut_lines : (n : ℕ) (r : Outcome) (bs : List ℤ) (m m' : Meaning) → Bordered n r bs m m' → m'.lines ≡ m.lines
recut_lines n (Ok _) bs m m' h = ap (λ k. k.lines) h
recut_lines n (Err _) bs m m' h = ap (λ k. k.lines) h

-- what a call changes keeps flat line work flat
changed_flat : (m : Meaning) (x : SheetCall) (r : Outcome) (y : SheetCall) (m' : Meaning) → SheetChanged m x r y m' → FlatAt m → FlatAt m'
changed_flat m (AnEdit _) r (AnEdit _) m' s f = s.flat f
changed_flat m (AnEdit _) r (Cut _) m' s f = absurd s
changed_flat m (AnEdit _) r (Knit _) m' s f = absurd s
changed_flat m (Cut _) r (Cut _) m' s f = subst (λ l. Flat max_edge l.turn) (sym (recut_lines max_edge r _ m m' s.1.changed)) f
changed_flat m (Cut _) r (AnEdit _) m' s f = absurd s
changed_flat m (Cut _) r (Knit _) m' s f = absurd s
changed_flat m (Knit _) r (Knit _) m' s f = subst (λ l. Flat max_edge l.turn) (sym (recut_lines max_edge r _ m m' s.1.changed)) f
changed_flat m (Knit _) r (AnEdit _) m' s f = absurd s
changed_flat m (Knit _) r (Cut _) m' s f = absurd s

-- every call of a sheet keeps flat line work flat
pub sheet_flat : (m : Meaning) (x : SheetCall) (r : Outcome) (y : SheetCall) (m' : Meaning) → SheetCarried m x r y m' → FlatAt m → FlatAt m'
sheet_flat m x r y m' s = changed_flat m x r y m' s.0
