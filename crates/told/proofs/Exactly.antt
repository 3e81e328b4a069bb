-- A file is accepted exactly when it tells some flat sheet. Assumes nothing.
use Rattle.std.proofs.Common.{◌≡◌, ℕ, ◌+◌, ◌*◌, Bool, true, false, List, [], ◌∷◌, ℤ, None, sym, refl, ◌∙◌, subst, arith}
use Rattle.std.proofs.lemmas.Bool.{eqb-true, eq-eqb}
use Rattle.turning.specs.Limits.{max_edge}
use Rattle.turning.specs.Turn.{Turn}
use Rattle.turning.specs.Counts.{rounds, loops, edges, pieces, Flat}
use Rattle.chart.specs.Linework.{Linework}
use Rattle.file.specs.Places.{once, at}
use Rattle.file.specs.Lines.{flat}
use Rattle.file.specs.Verdict.{shape_verdict, verdict, told_lines, q17}
use Rattle.file.proofs.Places.{both_none, last_one, skip, once_right}
use Rattle.told.specs.Tells.{borders_in, Tells}
use Rattle.told.specs.Theorems.{AcceptedTells, ToldAccepted, FlatSheet, AcceptedExactly}

-- the test of flatness
flat_true : (n : ℕ) (t : Turn) → flat n t ≡ true → Flat n t
unfolding flat
flat_true n t e = eqb-true (rounds n t + loops n t) (edges n t + 2 * pieces n t) e

true_flat : (n : ℕ) (t : Turn) → Flat n t → flat n t ≡ true
unfolding flat
true_flat n t e = eq-eqb (rounds n t + loops n t) (edges n t + 2 * pieces n t) e

once_true : {F : Type 0} (f : ℕ → F) (b : Bool) → at f (once b) ≡ None → b ≡ true
once_true f true e = refl
once_true f false e = let y : ◌≡◌ {A = ℕ} 0 1 = cc in absurd (omega arith)

-- the verdict is that of the shape, and then that the line work is flat
parts : (b : List ℕ) → verdict b ≡ None → (shape_verdict b ≡ None) × Flat max_edge (told_lines b).turn
unfolding verdict
parts b v =
    let a = both_none (shape_verdict b) (q17 b ∷ []) v in
    (a.0, flat_true max_edge (told_lines b).turn (once_true _ _ (sym (last_one (q17 b)) ∙ a.1)))

whole : (b : List ℕ) → shape_verdict b ≡ None → Flat max_edge (told_lines b).turn → verdict b ≡ None
unfolding verdict
whole b s f = skip (shape_verdict b) (q17 b ∷ []) s ∙ last_one (q17 b) ∙ once_right _ _ (true_flat max_edge (told_lines b).turn f)

pub accepted_exactly : AcceptedTells → ToldAccepted → AcceptedExactly
accepted_exactly tells accepted b = (there, back)
  where
    there : verdict b ≡ None → (bs : List ℤ) × (l : Linework) × FlatSheet bs l × Tells bs l b
    there v =
        let p = parts b v in
        let t = tells b p.0 in
        (borders_in b, told_lines b, (t.0, p.1), t.1)

    back : (bs : List ℤ) × (l : Linework) × FlatSheet bs l × Tells bs l b → verdict b ≡ None
    back (bs, l, (standing, level), told) =
        let a = accepted b bs l standing told in
        whole b a.0 (subst (λ m. Flat max_edge m.turn) (sym a.2) level)
