-- How the number of edges changes with one edge. Assumes nothing.
use Rattle.std.proofs.Common.{◌≡◌, ℕ, zero, suc, ◌+◌, ◌≤◌, Bool, true, false, cond, List, [], ◌∷◌, ◌++◌, length, map, ℤ, pos, neg_ℤ, Some, None, Option, sym, refl, ap, ◌∙◌, add-one, arith, length-append}
use Rattle.std.specs.List.{filter, range_with_len}
use Rattle.std.proofs.lemmas.List.FromFn.{filter_of_map_range_with_len_more}
use Rattle.std.proofs.lemmas.Int.{ints}
use Rattle.flat.specs.Orbits.{indicator}
use Rattle.turning.specs.Turn.{Turn, Lawful}
use Rattle.turning.specs.Counts.{edges}
use Rattle.turning.proofs.Pairs.{edges_by_number}
use Rattle.chart.specs.Changes.{at, put, drawn}
use Rattle.laws.proofs.Equal.{tell}
use Rattle.halfedges.specs.Rows.{edge_count}
use Rattle.halfedges.proofs.Counted.{count_more}

pub edges_none : (t : Turn) → edge_count 0 t ≡ 0
unfolding edge_count
edges_none t = refl

pub edges_more : (t : Turn) (i : ℕ) → edge_count (suc i) t ≡ indicator (t.held (pos (suc i))) + edge_count i t
unfolding edge_count
edges_more t i = refl

neg_other : (k e : ℕ) → 1 ≤ e → pos k ≡ neg_ℤ (pos e) → ⊥
neg_other k e l z = omega (arith, ints)

pos_other : (k e : ℕ) → (k ≡ e → ⊥) → pos k ≡ pos e → ⊥
pos_other k e d z = d (let q : k ≡ e = cc in q)

pub held_put : (c : Option ℤ) (k : ℤ) (t : Turn) (h : ℤ) → (put c k t).held h ≡ at k true t.held h
held_put None k t h = refl
held_put (Some c) k t h = refl

-- an edge more
pub edge_more : (n : ℕ) (t u : Turn) (e : ℕ) → 1 ≤ e → e ≤ n → t.held (pos e) ≡ false → ((h : ℤ) → u.held h ≡ at (neg_ℤ (pos e)) true (at (pos e) true t.held) h) → edge_count n u ≡ suc (edge_count n t)
unfolding edge_count
edge_more n t u e l m new same =
    count_more n (λ k. t.held (pos k)) (λ k. u.held (pos k)) e l m new
    (same (pos e) ∙ grind (arith, tell (pos e) (pos e), tell (pos e) (neg_ℤ (pos e))))
    (λ k d. same (pos k) ∙ grind (arith, tell (pos k) (pos e), tell (pos k) (neg_ℤ (pos e)), neg_other k e l, pos_other k e d))

-- an edge less
pub edge_less : (n : ℕ) (t : Turn) (e : ℕ) → 1 ≤ e → e ≤ n → t.held (pos e) ≡ true → suc (edge_count n (drawn (neg_ℤ (pos e)) (drawn (pos e) t))) ≡ edge_count n t
unfolding edge_count
edge_less n t e l u here =
    sym (count_more n (λ k. (drawn (neg_ℤ (pos e)) (drawn (pos e) t)).held (pos k)) (λ k. t.held (pos k)) e l u
    (grind (arith, tell (pos e) (neg_ℤ (pos e)), tell (pos e) (pos e)))
    here
    (λ k d. grind (arith, tell (pos k) (neg_ℤ (pos e)), tell (pos k) (pos e), neg_other k e l, pos_other k e d)))

-- the same number as a turning's own count
pub edges_are : (n : ℕ) (t : Turn) → Lawful n t → edges n t ≡ edge_count n t
edges_are n t law = sym (edges_by_number n t law (λ k. edge_count k t) (edges_none t) (λ k l. edges_more t k))
