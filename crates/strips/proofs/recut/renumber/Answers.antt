use Rattle.std.proofs.Common.{◌≡◌, ℕ, suc, ◌+◌, ◌-◌, ◌<◌, ◌≤◌, true, List, get_or, drop, ◌++◌, length, set, ℤ, pos, sym, refl, ap, ◌∙◌, subst, arith, w16, w32, SFits, of_z, rules, below_more}
use Rattle.std.proofs.lemmas.List.{take-append-drop, length-take, set-get_or}
use Rattle.std.proofs.lemmas.Int.{to_z-of_z}
use Rattle.std.proofs.lemmas.Bool.{leb-true}
use Rattle.turning.specs.Limits.{max_edge, slots}
use Rattle.turning.proofs.Names.{same_name}
use Rattle.laws.proofs.Equal.{tell}
use Rattle.halfedges.specs.declared.halfedge.Halfedge.{Halfedge}
use Rattle.halfedges.specs.View.{none, bare, seen, written}
use Rattle.halfedges.specs.Rows.{home, Indexed, lines_in, Core}
use Rattle.halfedges.specs.Homes.{HomesAlone}
use Rattle.halfedges.proofs.Alone.{with_strip, held_home, named_home, moved_lines, moved_indexed, moved_alone, moved_here, moved_there}
use Rattle.halfedges.proofs.Beside.{core_same}
use Rattle.halfedges.proofs.Meaning.{held_slot}
use Rattle.halfedges.proofs.Views.{first_is, first_written, first_length}
use Rattle.strips.specs.Borders.{strip_of}
use Rattle.strips.proofs.recut.renumber.Goals as goal
use Rattle.strips.proofs.recut.renumber.Goals.{then-row-ne0, else-row-ne0}

-- a home row is in the strip of its x
abbrev Rightly : List ℤ → Halfedge → Type 0
Rightly bs r = home r ≡ true → r.strip ≡ strip_of bs r.x

abbrev Renumbered : List ℤ → List Halfedge → ℕ → List Halfedge → Type 0
Renumbered bs rs₀ i rs = Core max_edge slots rs × (lines_in (seen rs) ≡ lines_in (seen rs₀)) × HomesAlone slots (seen rs) × ((k : ℕ) → k < i → Rightly bs ((seen rs).row (suc k)))

-- the next row, which is home, has moved
moved : (bs : List ℤ) (rs₀ : List Halfedge) (i : ℕ) (rs rs' : List Halfedge) (strip : ℕ) → i < slots → Renumbered bs rs₀ i rs → home ((seen rs).row (suc i)) ≡ true → strip ≡ strip_of bs ((seen rs).row (suc i)).x
    → seen rs' ≡ written (suc i) (with_strip strip ((seen rs).row (suc i))) (seen rs) → slots ≤ length rs' → Renumbered bs rs₀ (i + 1) rs'
moved bs rs₀ i rs rs' strip l past here is e long =
    let v = seen rs in
    let lines : lines_in (seen rs') ≡ lines_in v = ap lines_in e ∙ moved_lines slots v (suc i) strip in (
      core_same max_edge slots rs rs' past.0 long (subst (Indexed slots) (sym e) (moved_indexed slots v (suc i) strip past.0.indexed)) lines,
      lines ∙ past.1,
      subst (HomesAlone slots) (sym e) (moved_alone slots v (suc i) strip here past.2),
      below_more _ _
          (λ k m. subst (Rightly bs) (sym (ap (λ u. u.row (suc k)) e ∙ moved_there slots v (suc i) strip (suc k) (λ z. omega arith))) (past.3 k m))
          (subst (Rightly bs) (sym (ap (λ u. u.row (suc i)) e ∙ moved_here slots v (suc i) strip)) (λ _. is)),
    )

-- the next row is free
left : (bs : List ℤ) (rs₀ : List Halfedge) (i : ℕ) (rs : List Halfedge) → Renumbered bs rs₀ i rs → ((seen rs).row (suc i)).name ≡ pos 0 → Renumbered bs rs₀ (i + 1) rs
left bs rs₀ i rs past free = (past.0, past.1, past.2, below_more _ _ past.3 (λ here. absurd (grind (arith, tell ((seen rs).row (suc i)).name (pos 0), free, here))))

pub loop-row-init : goal.loop-row-init
loop-row-init c =
    let rs = c.args.rows.now in
    subst (Renumbered c.args.borders.now.items rs 0) (sym (take-append-drop slots rs)) (c.requires.core, refl, c.requires.alone, λ k l. absurd (omega arith))

pub offset_bounds-row-items-row-index : goal.offset_bounds-row-items-row-index
offset_bounds-row-items-row-index c = let few = length-take slots c.args.rows.now in let l = c.loop-row-test.true in omega (arith, few, l)

pub loop-row-preserved : goal.loop-row-preserved
loop-row-preserved c =
    let bs = c.args.borders.now.items in
    let rs₀ = c.args.rows.now in
    let items = c.loop-row.row-items in
    let rest = drop slots rs₀ in
    let i = c.loop-row.row-index in
    let r = get_or items i none in
    let past = c.loop-row.invariant in
    let same = c.loop-row.auto.row-items in
    let short = length-take slots rs₀ in
    let below = c.loop-row-test.true in
    let l : i < length items = omega arith in
    let under : i < slots = omega arith in
    let v = seen (items ++ rest) in
    let row : v.row (suc i) ≡ bare r = first_is max_edge slots items rest i l in
    let name_is : (v.row (suc i)).name ≡ r.name = ap (λ y. y.name) row in
    let x_is : (v.row (suc i)).x ≡ r.x = ap (λ y. y.x) row in
    let fn : SFits w16 r.name = search rules in
    elim c.if-row-ne0.branch [
      | then-row-ne0 w ↦
          let some : ((v.row (suc i)).name ≡ pos 0 → ⊥) = λ z. w.if-row-ne0.true (ap (of_z w16) (sym name_is ∙ z)) in
          let here = named_home max_edge slots v past.0.indexed past.0.sound.0 past.2 (suc i) (omega arith) (omega arith) some in
          let fx : SFits w32 r.x = search rules in
          let strip = w.strip_of-row.result in
          let is : strip ≡ strip_of bs (v.row (suc i)).x = w.strip_of-row.ensures ∙ ap (strip_of bs) (to_z-of_z w32 r.x fx ∙ sym x_is) in
          let put : c.if-row-ne0.row-items ≡ set items i (with_strip strip r) = w.row-items-is in
          let view = ap (λ xs. seen (xs ++ rest)) put ∙ first_written max_edge slots items rest i l (with_strip strip r) refl ∙ ap (λ y. written (suc i) (with_strip strip y) v) (sym row) in
          let long = subst (λ n. slots ≤ n) (sym (ap (λ xs. length (xs ++ rest)) put ∙ first_length max_edge slots items rest i l (with_strip strip r))) past.0.long in
          moved bs rs₀ i (items ++ rest) (c.if-row-ne0.row-items ++ rest) strip under past here is view long
      | else-row-ne0 w ↦
          let free : (v.row (suc i)).name ≡ pos 0 = name_is ∙ same_name r.name (pos 0) fn (search rules) w.if-row-ne0.false in
          let back : c.if-row-ne0.row-items ≡ set items i r = w.row-items-is in
          subst (λ xs. Renumbered bs rs₀ (i + 1) (xs ++ rest)) (sym (back ∙ set-get_or items i none)) (left bs rs₀ i (items ++ rest) past free)
    ]

pub returns : goal.returns
returns c =
    let bs = c.args.borders.now.items in
    let rs₀ = c.args.rows.now in
    let all = c.loop-row.invariant in
    let long = c.requires.core.long in
    let past = c.loop-row-test.false in
    let every = length-take slots rs₀ in
    let done : slots ≤ c.loop-row.row-index = omega arith in
    let v = seen (c.loop-row.row-items ++ drop slots rs₀) in
    record {
      core = all.0;
      lines = all.1;
      alone = all.2;
      homes = λ h held.
          let low = held_slot v h held in
          let high = leb-true (v.entry h) slots (all.0.indexed.inside h) in
          let e : suc (v.entry h - 1) ≡ v.entry h = omega arith in
          subst (λ s. Rightly bs (v.row s)) e (all.3 (v.entry h - 1) (omega arith)) (held_home max_edge slots v all.0.indexed all.0.sound.0 h held);
    }
