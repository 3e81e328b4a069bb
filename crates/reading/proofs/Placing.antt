-- What an accepted file tells may go into a sheet. Assumes nothing.
use Rattle.std.proofs.Common.{◌≡◌, ℕ, ◌≤◌, List, length, ℤ, None, Result, sym, ◌∙◌, subst, arith}
use Rattle.std.proofs.lemmas.Bool.{le-leb}
use Rattle.turning.specs.Limits.{max_edge, slots}
use Rattle.turning.specs.Refusals.{asked}
use Rattle.turning.specs.declared.refusal.Refusal.{Refusal}
use Rattle.chart.specs.Linework.{Linework}
use Rattle.halfedges.specs.declared.halfedge.Halfedge.{Halfedge}
use Rattle.halfedges.specs.View.{seen}
use Rattle.halfedges.specs.Rows.{lines_in}
use Rattle.strips.specs.Borders.{slots_taken}
use Rattle.strips.specs.Sheets.{room_of}
use Rattle.strips.specs.Answers.{layout_questions, Laid}
use Rattle.strips.proofs.Laying.{long_room, all_yes}
use Rattle.file.specs.Judged.{Judged}
use Rattle.file.specs.Layout.{strips}
use Rattle.file.specs.Shapes.{Shaped}
use Rattle.file.specs.Verdict.{shape_verdict}
use Rattle.told.specs.Tells.{Standing}
use Rattle.told.proofs.Homes.{passed}

-- line work that a sheet may hold is not refused
pub laid_out : (r : Result Unit Refusal) (bs old bs' : List ℤ) (rs rs' : List Halfedge) (l : Linework) → Standing max_edge slots bs l → slots ≤ length rs
    → r ≡ asked (layout_questions bs l (room_of rs)) tt → Laid r bs l old rs bs' rs' → (bs' ≡ bs) × (lines_in (seen rs') ≡ l)
laid_out r bs old bs' rs rs' l standing long answer laid =
    let room : slots_taken bs l max_edge ≤ room_of rs = subst (λ n. slots_taken bs l max_edge ≤ n) (sym (long_room rs long)) standing.room in
    subst (λ x. Laid x bs l old rs bs' rs') (answer ∙ sym (all_yes bs l (room_of rs) (le-leb _ _ standing.few) standing.rises room)) laid

-- the file has two bytes at least, which tell how many strips there are
pub two_bytes : (b : List ℕ) → shape_verdict b ≡ None → 2 ≤ length b
two_bytes b v = let whole = (passed b v).shaped.whole in omega arith

pub shaped_by : (b : List ℕ) (n : ℕ) → n ≡ strips b → shape_verdict b ≡ None → Shaped b n
shaped_by b n e v = subst (Shaped b) (sym e) (passed b v).shaped

pub judged_by : (b : List ℕ) (n : ℕ) → n ≡ strips b → shape_verdict b ≡ None → Judged b n
judged_by b n e v = subst (Judged b) (sym e) (passed b v).judged
