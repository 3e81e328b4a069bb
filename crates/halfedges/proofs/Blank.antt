-- Blank records mean line work with no edge. Assumes nothing.
use Rattle.std.proofs.Common.{◌≡◌, ℕ, zero, suc, ◌-◌, ◌/◌, ◌%◌, ◌<◌, ◌≤◌, Bool, true, false, not, eqb, leb, ◌⊎◌, List, [], ◌∷◌, length, get_or, ℤ, pos, sym, refl, ap, ◌∙◌, subst, inl, inr, arith}
use Rattle.std.proofs.lemmas.List.{get_or_past}
use Rattle.std.proofs.lemmas.Bool.{both_ways, cases_lt}
use Rattle.turning.specs.Limits.{max_edge, slots}
use Rattle.turning.specs.Turn.{Turn}
use Rattle.chart.specs.Linework.{no_lines}
use Rattle.laws.specs.Keeps.{Sound}
use Rattle.laws.proofs.Equal.{tell}
use Rattle.halfedges.specs.declared.halfedge.Halfedge.{Halfedge}
use Rattle.halfedges.specs.View.{View, none, key, is_name, entry_at, seen}
use Rattle.halfedges.specs.Rows.{turn_of, lines_in, Unlinked, Indexed, taken_row, used, same_place, row_in, slot_count, edge_count, Core, Blank}
use Rattle.halfedges.specs.Nothing.{nothing_lines, nothing_sound}
use Rattle.halfedges.proofs.Counted.{count_none, off_zero}
use Rattle.halfedges.proofs.Views.{entry_in, entry_out, zero_row, row_is}

used_none : (cap : ℕ) (v : View) → ((s : ℕ) → 1 ≤ s → s ≤ cap → (v.row s).name ≡ pos 0) → used cap v ≡ 0
unfolding used
used_none cap v e = count_none cap (taken_row v) (λ i l u. let z = e i l u in grind (arith, tell (v.row i).name (pos 0), z))

edges_zero : (n : ℕ) (t : Turn) → ((h : ℤ) → t.held h ≡ false) → edge_count n t ≡ 0
unfolding edge_count
edges_zero n t e = count_none n (λ k. t.held (pos k)) (λ i l u. e (pos i))

zeros : (j : ℕ) → ◌≡◌ {A = ℕ} (get_or (0 ∷ 0 ∷ 0 ∷ []) j 0) 0
zeros zero = refl
zeros (suc zero) = refl
zeros (suc (suc zero)) = refl
zeros (suc (suc (suc j))) = refl

module _ (rs : List Halfedge) (all : Blank rs) (long : slots ≤ length rs) where
  entry_zero : (k : ℕ) → entry_at rs k ≡ 0
  unfolding entry_at
  entry_zero k = go (cases_lt (k / 3) (length rs))
    where
      go : (k / 3 < length rs) ⊎ (length rs ≤ k / 3) → get_or (get_or rs (k / 3) none).index (k % 3) 0 ≡ 0
      go (inl l) = ap (λ r. get_or r.index (k % 3) 0) (all (k / 3) l) ∙ zeros (k % 3)
      go (inr l) = ap (λ r. get_or r.index (k % 3) 0) (get_or_past rs (k / 3) none l)

  none_entered : (h : ℤ) → (seen rs).entry h ≡ 0
  none_entered h = go (is_name max_edge h) refl
    where
      go : (b : Bool) → is_name max_edge h ≡ b → (seen rs).entry h ≡ 0
      go true e = entry_in max_edge slots rs long h e ∙ entry_zero (key max_edge h)
      go false e = entry_out max_edge slots rs h e

  pub none_held : (h : ℤ) → (turn_of (seen rs)).held h ≡ false
  none_held h = ap (λ n. not (eqb n 0)) (none_entered h)

  nameless : (s : ℕ) → 1 ≤ s → s ≤ slots → ((seen rs).row s).name ≡ pos 0
  nameless s l u =
      let e : s ≡ suc (s - 1) = omega arith in
      ap (λ i. ((seen rs).row i).name) e ∙ ap (λ r. r.name) (row_is max_edge slots rs (s - 1)) ∙ ap (λ r. r.name) (all (s - 1) (omega arith))

  pub blank_lines : lines_in (seen rs) ≡ no_lines
  blank_lines = nothing_lines (seen rs) none_entered (zero_row max_edge slots rs)

  blank_indexed : Indexed slots (seen rs)
  blank_indexed = record {
    inside = λ h. ap (λ n. leb n slots) (none_entered h);
    named = λ h e. absurd (both_ways _ (none_held h) e);
    found = λ s l u e. absurd (let z = nameless s l u in grind (arith, tell ((seen rs).row s).name (pos 0), z, e));
  }

  pub blank_core : Core max_edge slots rs
  blank_core = record { long = long; indexed = blank_indexed; sound = subst (Sound max_edge) (sym blank_lines) (nothing_sound max_edge) }

  pub blank_used : used slots (seen rs) ≡ 0
  blank_used = used_none slots (seen rs) nameless

  pub blank_edges : edge_count max_edge (turn_of (seen rs)) ≡ 0
  blank_edges = edges_zero max_edge (turn_of (seen rs)) none_held

  pub blank_slots : (i : ℕ) (h : ℤ) → (h ≡ pos 0 → ⊥) → slot_count slots (seen rs) i h ≡ 0
  unfolding slot_count
  blank_slots i h some = count_none slots (row_in (seen rs) i h) (λ s l u. ap (λ k. same_place ((seen rs).row s).strip k i h) (nameless s l u) ∙ off_zero ((seen rs).row s).strip i h some)

  pub blank_unlinked : Unlinked slots (seen rs)
  blank_unlinked s l u _ =
      let e : s ≡ suc (s - 1) = omega arith in (
        ap (λ i. ((seen rs).row i).follower) e ∙ ap (λ r. r.follower) (row_is max_edge slots rs (s - 1)) ∙ ap (λ r. r.follower) (all (s - 1) (omega arith)),
        ap (λ i. ((seen rs).row i).predecessor) e ∙ ap (λ r. r.predecessor) (row_is max_edge slots rs (s - 1)) ∙ ap (λ r. r.predecessor) (all (s - 1) (omega arith)),
      )
