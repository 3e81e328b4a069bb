-- What a layout counts on, and what it leaves. Assumes nothing.
use Rattle.std.proofs.Common.{◌≡◌, ℕ, ◌*◌, ◌<◌, ◌≤◌, Bool, true, false, cond, leb, List, length, ℤ, Ok, Err, Result, sym, refl, ap, ◌∙◌, arith}
use Rattle.std.proofs.lemmas.Bool.Decides.{leb_tells}
use Rattle.std.proofs.lemmas.Bool.{le-leb, leb-true, cond-true, cond-false}
use Rattle.turning.specs.Limits.{max_edge, slots, max_strips}
use Rattle.turning.specs.Refusals.{asked}
use Rattle.turning.specs.declared.refusal.Refusal.{Refusal}
use Rattle.turning.specs.declared.refusal.Refusal.TheVariants.{BadBorders, TooManyStrips}
use Rattle.turning.specs.Turn.{Lawful, no_turn}
use Rattle.chart.specs.Linework.{Linework, Placed, no_lines}
use Rattle.laws.specs.Keeps.{Sound}
use Rattle.halfedges.specs.declared.halfedge.Halfedge.{Halfedge}
use Rattle.halfedges.specs.View.{seen}
use Rattle.halfedges.specs.Rows.{turn_of, lines_in, used, edge_count}
use Rattle.halfedges.specs.Nothing.{short_lines}
use Rattle.halfedges.proofs.Counted.{count_none, used_within}
use Rattle.table.proofs.Taken.{empty_lines}
use Rattle.strips.specs.Borders.{rising, strip_count, slots_taken}
use Rattle.strips.specs.Cuts.{border_questions}
use Rattle.strips.specs.Answers.{layout_questions}
use Rattle.strips.specs.Sheets.{Kept, room_of}
use Rattle.strips.proofs.Planting.{edges_within}
use Rattle.strips.proofs.Standing.{kept_out}

pub is_short : (rs : List Halfedge) → leb slots (length rs) ≡ false → length rs < slots
is_short rs e = grind (arith, leb_tells slots (length rs))

-- a memory that is too short has no room
pub short_room : (rs : List Halfedge) → length rs < slots → room_of rs ≡ 0
short_room rs l = cond-false (leb slots (length rs)) slots 0 (grind (arith, leb_tells slots (length rs)))

pub long_room : (rs : List Halfedge) → slots ≤ length rs → room_of rs ≡ slots
long_room rs l = cond-true (leb slots (length rs)) slots 0 (le-leb _ _ l)

-- a chart that takes no slot is what a memory that is too short means
pub short_laid : (bs : List ℤ) (l : Linework) (rs : List Halfedge) → Lawful max_edge l.turn → Placed max_edge l.turn l.points → length rs < slots → slots_taken bs l max_edge ≤ room_of rs → lines_in (seen rs) ≡ l
short_laid bs l rs law placed short room =
    let short? : leb slots (length rs) ≡ false = grind (arith, leb_tells slots (length rs)) in
    let few = edges_within bs l max_edge in
    let none = short_room rs short in
    let edges : edge_count max_edge l.turn ≡ 0 = zero (edge_count max_edge l.turn) (slots_taken bs l max_edge) (room_of rs) few room none in
    short_lines max_edge slots rs short? ∙ sym (empty_lines max_edge l law placed edges)
  where
    zero : (e t r : ℕ) → 2 * e ≤ t → t ≤ r → r ≡ 0 → e ≡ 0
    zero e t r a b c = omega arith

-- borders that passed are the list, and may be cut
pub passed : (bs xs : List ℤ) → Ok xs ≡ asked (border_questions bs) bs → (xs ≡ bs) × (leb (strip_count bs) max_strips ≡ true) × (rising bs ≡ true)
passed bs xs e = go (leb (strip_count bs) max_strips) (rising bs) refl refl e
  where
    same : ◌≡◌ {A = Result (List ℤ) Refusal} (Ok xs) (Ok bs) → xs ≡ bs
    same z = cc

    clash : (r : Refusal) → ◌≡◌ {A = Result (List ℤ) Refusal} (Ok xs) (Err r) → ⊥
    clash r z = let q : ◌≡◌ {A = ℕ} 0 1 = cc in omega arith

    go : (a b : Bool) → leb (strip_count bs) max_strips ≡ a → rising bs ≡ b → Ok xs ≡ cond a (cond b (Ok bs) (Err BadBorders)) (Err TooManyStrips)
        → (xs ≡ bs) × (leb (strip_count bs) max_strips ≡ true) × (rising bs ≡ true)
    go true true p q z = (same z, p, q)
    go true false p q z = absurd (clash BadBorders z)
    go false b p q z = absurd (clash TooManyStrips z)

-- a layout that no question turns away is done
pub all_yes : (bs : List ℤ) (l : Linework) (room : ℕ) → leb (strip_count bs) max_strips ≡ true → rising bs ≡ true → slots_taken bs l max_edge ≤ room → ◌≡◌ {A = Result (Unit {0}) Refusal} (Ok tt) (asked (layout_questions bs l room) tt)
all_yes bs l room a b c =
    sym (cond-true (leb (strip_count bs) max_strips) _ _ a ∙ cond-true (rising bs) _ _ b ∙ cond-true (leb (slots_taken bs l max_edge) room) _ _ (le-leb _ _ c))

no_edges : edge_count max_edge no_turn ≡ 0
unfolding edge_count
no_edges = count_none max_edge (λ e. false) (λ i a b. refl)

-- a sheet has no more edges than a table takes
pub sheet_edges : (bs : List ℤ) (rs : List Halfedge) → ∥ Kept bs rs ∥₁ → 2 * edge_count max_edge (turn_of (seen rs)) ≤ slots
sheet_edges bs rs ok = go (leb slots (length rs)) refl
  where
    go : (b : Bool) → leb slots (length rs) ≡ b → 2 * edge_count max_edge (turn_of (seen rs)) ≤ slots
    go true e =
        let s = kept_out bs rs ok (leb-true _ _ e) in
        let all = s.room in
        let few = edges_within bs (lines_in (seen rs)) max_edge in
        let used-few = used_within slots (seen rs) in
        less (edge_count max_edge (turn_of (seen rs))) (slots_taken bs (lines_in (seen rs)) max_edge) (used slots (seen rs)) slots few all used-few
      where
        less : (e t u s : ℕ) → 2 * e ≤ t → u ≡ t → u ≤ s → 2 * e ≤ s
        less e t u s a b c = omega arith
    go false e =
        let z = ap (λ l. edge_count max_edge l.turn) (short_lines max_edge slots rs e) ∙ no_edges in
        few (edge_count max_edge (turn_of (seen rs))) z
      where
        few : (k : ℕ) → k ≡ 0 → 2 * k ≤ slots
        few k p = omega arith

-- what a table over too short a memory makes of a chart: nothing
pub short_merged : (rs ts ts' : List Halfedge) (r : Bool) → Sound max_edge (lines_in (seen rs)) → length ts < slots → r ≡ leb (2 * edge_count max_edge (turn_of (seen rs))) (room_of ts)
    → (r ≡ true → lines_in (seen ts') ≡ lines_in (seen rs)) → (r ≡ false → ts' ≡ ts) → lines_in (seen ts') ≡ no_lines
short_merged rs ts ts' true sound short told taken left =
    let few = leb-true (2 * edge_count max_edge (turn_of (seen rs))) (room_of ts) (sym told) in
    let edges : edge_count max_edge (turn_of (seen rs)) ≡ 0 = zero (edge_count max_edge (turn_of (seen rs))) (room_of ts) few (short_room ts short) in
    taken refl ∙ empty_lines max_edge (lines_in (seen rs)) sound.0 sound.1 edges
  where
    zero : (e r : ℕ) → 2 * e ≤ r → r ≡ 0 → e ≡ 0
    zero e r a b = omega arith
short_merged rs ts ts' false sound short told taken left =
    let short? : leb slots (length ts) ≡ false = grind (arith, leb_tells slots (length ts)) in
    ap (λ x. lines_in (seen x)) (left refl) ∙ short_lines max_edge slots ts short?
