-- Whether some vertex stands at a point, name by name. Assumes nothing.
use Rattle.std.proofs.Common.{◌≡◌, ℕ, suc, ◌-◌, ◌<◌, ◌≤◌, ◌||◌, Bool, true, false, T, ℤ, pos, negsuc, neg_ℤ, refl, ap, sym, ◌∙◌, subst, get_or, length, arith}
use Rattle.std.proofs.lemmas.Bool.{both_ways}
use Rattle.std.proofs.lemmas.List.FromFn.{length-range_with_len, get_or-range_with_len}
use Rattle.std.specs.List.{range_with_len, IsAnyAnswer}
use Rattle.flat.specs.Orbits.{◌∈◌}
use Rattle.flat.proofs.Basics.{any_has, any_gives, T_true, not_T_false}
use Rattle.turning.specs.Turn.{Lawful}
use Rattle.turning.specs.Counts.{holding}
use Rattle.turning.proofs.Listed.{Named, in_holding, holding_held, held_named, true_T}
use Rattle.chart.specs.declared.point.Point.{Point}
use Rattle.chart.specs.Points.{is_point}
use Rattle.chart.specs.Linework.{Linework, Placed}
use Rattle.chart.specs.Changes.{starts_at, vertex_at}

-- where neither of two tests passes, each fails
neither : (a b : Bool) → false ≡ (a || b) → (a ≡ false) × (b ≡ false)
neither true b e = absurd (both_ways _ (sym e) refl)
neither false b e = (refl, sym e)

-- neither name of the edge k starts at p
abbrev pub Passed : Linework → Point → ℕ → Type 0
Passed l p k = (is_point p (l.points (pos k)) ≡ false) × (is_point p (l.points (neg_ℤ (pos k))) ≡ false)

module _ (n : ℕ) (l : Linework) (law : Lawful n l.turn) (placed : Placed n l.turn l.points) (p : Point) where
  -- a name that starts at p is held
  pub starts_held : (h : ℤ) → is_point p (l.points h) ≡ true → l.turn.held h ≡ true
  starts_held h e = go (l.turn.held h) refl
    where
      go : (b : Bool) → l.turn.held h ≡ b → l.turn.held h ≡ true
      go true held = held
      go false out = absurd (both_ways _ (ap (is_point p) (placed.nowhere h out)) e)

  pub vertex_found : (h : ℤ) → is_point p (l.points h) ≡ true → vertex_at n l p ≡ true
  vertex_found h e =
      T_true _ (any_has (λ k. is_point p (l.points k)) (holding n l.turn) h (in_holding n l.turn law h (starts_held h e)) (true_T _ e))

  passed_name : ((k : ℕ) → 1 ≤ k → k ≤ n → Passed l p k) → (h : ℤ) → Named n h → is_point p (l.points h) ≡ false
  passed_name all (pos k) r = (all k r.0 r.1).0
  passed_name all (negsuc k) r = (all (suc k) r.0 r.1).1

  pub vertex_none : ((k : ℕ) → 1 ≤ k → k ≤ n → Passed l p k) → vertex_at n l p ≡ false
  vertex_none all = not_T_false _ (λ t.
      let o : (h : ℤ) × (h ∈ holding n l.turn) × T (is_point p (l.points h)) = any_gives (λ k. is_point p (l.points k)) (holding n l.turn) t in
      both_ways _ (passed_name all o.0 (held_named n l.turn law o.0 (holding_held n l.turn law o.0 o.1))) (T_true _ o.2))

  -- an edge that starts or ends at p has a vertex there
  edge_found : (e : ℕ) → true ≡ starts_at l p e → true ≡ vertex_at n l p
  edge_found e here = go (is_point p (l.points (pos e))) refl
    where
      go : (b : Bool) → is_point p (l.points (pos e)) ≡ b → true ≡ vertex_at n l p
      go true west = sym (vertex_found (pos e) west)
      go false west = sym (vertex_found (neg_ℤ (pos e)) (sym (here ∙ ap (λ b. b || is_point p (l.points (neg_ℤ (pos e)))) west)))

  -- a search of all edges for one that starts at p answers whether some vertex stands there
  pub vertex_searched : (r : Bool) → IsAnyAnswer (λ e b. e ≤ n → b ≡ starts_at l p e) (range_with_len 1 n) r → r ≡ vertex_at n l p
  vertex_searched true (k, low, here) =
      let in? : k < n = subst (λ m. k < m) (length-range_with_len 1 n) low in
      let e : get_or (range_with_len 1 n) k 0 ≡ suc k = get_or-range_with_len 1 n k 0 in? ∙ omega arith in
      edge_found (suc k) (subst (λ m. m ≤ n → true ≡ starts_at l p m) e (here 0) (omega arith))
  vertex_searched false none =
      sym (vertex_none (λ k a b.
      let low : k - 1 < length (range_with_len 1 n) = subst (λ m. k - 1 < m) (sym (length-range_with_len 1 n)) (omega arith) in
      let e : get_or (range_with_len 1 n) (k - 1) 0 ≡ k = get_or-range_with_len 1 n (k - 1) 0 (omega arith) ∙ omega arith in
      neither _ _ (subst (λ m. m ≤ n → false ≡ starts_at l p m) e (none (k - 1) 0 (omega arith) low) b)))
