use Rattle.std.proofs.Common.{◌≡◌, ℕ, suc, ◌+◌, ◌-◌, ◌<◌, ◌≤◌, true, false, eqb, List, length, ◌++◌, get_or, set, drop, pos, sym, refl, ap, ◌∙◌, subst, arith, w16, SFits, of_z, rules, below_more}
use Rattle.std.proofs.lemmas.List.{take-append-drop, length-take, set-get_or}
use Rattle.std.proofs.lemmas.Bool.{cond-true, cond-false, eq-eqb, ne_eqb, both_ways}
use Rattle.turning.specs.Limits.{max_edge, slots}
use Rattle.turning.proofs.Names.{same_name}
use Rattle.laws.proofs.Equal.{tell}
use Rattle.halfedges.specs.declared.halfedge.Halfedge.{Halfedge}
use Rattle.halfedges.specs.View.{none, seen, written}
use Rattle.halfedges.specs.Rows.{home, Indexed, strips_of, lines_in, Core}
use Rattle.halfedges.proofs.Alone.{astray_off}
use Rattle.halfedges.proofs.Beside.{beside_lines, beside_strips, beside_indexed, core_same}
use Rattle.halfedges.proofs.Views.{first_is, first_written, first_length}
use Rattle.halfedges.proofs.strips.drop_external.Goals as goal
use Rattle.halfedges.proofs.strips.drop_external.Goals.{then-row-eq0, then-row-eq0-via-then-row-eq0, then-row-eq0-via-else-row-eq0+then-row-eq0-2, else-row-eq0+else-row-eq0-2}

-- the first i rows are home or free
abbrev AloneTo : ℕ → List Halfedge → Type 0
AloneTo i rs = (k : ℕ) → k < i → home ((seen rs).row (suc k)) ≡ false → (seen rs).row (suc k) ≡ none

abbrev Dropped : List Halfedge → ℕ → List Halfedge → Type 0
Dropped rs₀ i rs = Core max_edge slots rs × (lines_in (seen rs) ≡ lines_in (seen rs₀)) × (strips_of (seen rs) ≡ strips_of (seen rs₀)) × AloneTo i rs

-- a row that is not home is freed
freed : (rs₀ : List Halfedge) (i : ℕ) (rs rs' : List Halfedge) → i < slots → Dropped rs₀ i rs → home ((seen rs).row (suc i)) ≡ false → seen rs' ≡ written (suc i) none (seen rs) → slots ≤ length rs' → Dropped rs₀ (i + 1) rs'
freed rs₀ i rs rs' l past out e long =
    let v = seen rs in
    let core = past.0 in
    let off = astray_off max_edge slots v core.indexed core.sound.0 (suc i) (omega arith) out in
    let lines : lines_in (seen rs') ≡ lines_in v = ap lines_in e ∙ beside_lines slots v core.indexed (suc i) (omega arith) (omega arith) off none refl refl in
    let strips : strips_of (seen rs') ≡ strips_of v = ap strips_of e ∙ beside_strips slots v core.indexed (suc i) (omega arith) (omega arith) off none refl refl in (
      core_same max_edge slots rs rs' core long (subst (Indexed slots) (sym e) (beside_indexed slots v core.indexed (suc i) (omega arith) (omega arith) off none refl refl)) lines,
      lines ∙ past.1,
      strips ∙ past.2,
      below_more _ _
          (λ k m h.
          let other : (seen rs').row (suc k) ≡ v.row (suc k) = ap (λ u. u.row (suc k)) e ∙ cond-false (eqb (suc k) (suc i)) none (v.row (suc k)) (ne_eqb (suc k) (suc i) (λ z. omega arith)) in
          other ∙ past.3 k m (ap home (sym other) ∙ h))
          (λ _. ap (λ u. u.row (suc i)) e ∙ cond-true (eqb (suc i) (suc i)) none (v.row (suc i)) (eq-eqb (suc i) (suc i) refl)),
    )

-- a row that is home stays
kept : (rs₀ : List Halfedge) (i : ℕ) (rs : List Halfedge) → Dropped rs₀ i rs → home ((seen rs).row (suc i)) ≡ true → Dropped rs₀ (i + 1) rs
kept rs₀ i rs past here = (past.0, past.1, past.2, below_more _ _ past.3 (λ out. absurd (both_ways _ out here)))

pub loop-row-init : goal.loop-row-init
loop-row-init c =
    let rs = c.args.rows.now in
    subst (Dropped rs 0) (sym (take-append-drop slots rs)) (c.requires, refl, refl, λ k l. absurd (omega arith))

pub loop-row-preserved : goal.loop-row-preserved
loop-row-preserved c =
    let rs₀ = c.args.rows.now in
    let items = c.loop-row.row-items in
    let rest = drop slots rs₀ in
    let i = c.loop-row.row-index in
    let r = get_or items i none in
    let past = c.loop-row.invariant in
    let same = c.loop-row.auto.row-items in
    let short = length-take slots rs₀ in
    let below = c.loop-row-test.true in
    let l : i < length items = omega arith in
    let under : i < slots = omega arith in
    let e = first_is max_edge slots items rest i l in
    let fn : SFits w16 r.name = search rules in
    elim c.if-row-eq0.branch [
      | then-row-eq0 w ↦
          let out : home ((seen (items ++ rest)).row (suc i)) ≡ false = ap home e ∙ (elim w.then-row-eq0.branch [
            | then-row-eq0-via-then-row-eq0 u ↦
                let z : r.name ≡ pos 0 = same_name r.name (pos 0) fn (search rules) u.if-row-eq0.true in
                grind (arith, tell r.name (pos 0), z)
            | then-row-eq0-via-else-row-eq0+then-row-eq0-2 u ↦
                let ff : SFits w16 r.follower = search rules in
                let z : r.follower ≡ pos 0 = same_name r.follower (pos 0) ff (search rules) u.if-row-eq0-2.true in
                grind (arith, tell r.name (pos 0), tell r.follower (pos 0), z)
          ]) in
          let free : Halfedge = record { strip = 0; name = pos 0; follower = pos 0; predecessor = pos 0; x = pos 0; y = pos 0; index = r.index } in
          let is : c.if-row-eq0.row-items ≡ set items i free = w.row-items-is in
          let view = ap (λ xs. seen (xs ++ rest)) is ∙ first_written max_edge slots items rest i l free refl in
          let long : slots ≤ length (c.if-row-eq0.row-items ++ rest) = subst (λ n. slots ≤ n) (sym (ap (λ xs. length (xs ++ rest)) is ∙ first_length max_edge slots items rest i l free)) past.0.long in
          freed rs₀ i (items ++ rest) (c.if-row-eq0.row-items ++ rest) under past out view long
      | else-row-eq0+else-row-eq0-2 w ↦
          let name : (r.name ≡ pos 0 → ⊥) = λ z. w.if-row-eq0.false (ap (of_z w16) z) in
          let follower : (r.follower ≡ pos 0 → ⊥) = λ z. w.if-row-eq0-2.false (ap (of_z w16) z) in
          let here : home r ≡ true = grind (arith, tell r.name (pos 0), tell r.follower (pos 0), name, follower) in
          let back : c.if-row-eq0.row-items ≡ set items i r = w.row-items-is in
          subst (λ xs. Dropped rs₀ (i + 1) (xs ++ rest)) (sym (back ∙ set-get_or items i none)) (kept rs₀ i (items ++ rest) past (ap home e ∙ here))
    ]

pub returns-clause-alone : goal.returns-clause-alone
returns-clause-alone c =
    let rs = c.args.rows.now in
    let long = c.requires.long in
    let past = c.loop-row-test.false in
    let every = length-take slots rs in
    let done : slots ≤ c.loop-row.row-index = omega arith in
    let v = seen (c.loop-row.row-items ++ drop slots rs) in
    λ s l u out.
    let e : suc (s - 1) ≡ s = omega arith in
    subst (λ k. home (v.row k) ≡ false → v.row k ≡ none) e (c.loop-row.invariant.3 (s - 1) (omega arith)) out
