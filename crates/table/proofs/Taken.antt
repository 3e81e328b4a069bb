-- Charts that a table can take over: those whose edges find their slots. Assumes nothing.
use Rattle.std.proofs.Common.{◌≡◌, ℕ, zero, suc, ◌+◌, ◌≤◌, Bool, true, false, ◌⊎◌, ℤ, pos, negsuc, refl, ap, ◌∙◌, inl, inr, arith}
use Rattle.std.proofs.lemmas.Int.{ints}
use Rattle.std.proofs.lemmas.Bool.{both_ways, cases_eq}
use Rattle.flat.specs.Orbits.{indicator}
use Rattle.turning.specs.Turn.{Lawful}
use Rattle.chart.specs.Linework.{Linework, Placed, no_lines}
use Rattle.halfedges.specs.Rows.{count, edge_count}

-- where none is counted, none passes
count_zero : (n : ℕ) (p : ℕ → Bool) → count n p ≡ 0 → (i : ℕ) → 1 ≤ i → i ≤ n → p i ≡ false
count_zero zero p e i l u = absurd (omega arith)
count_zero (suc n) p e i l u = go (cases_eq i (suc n)) (count_zero n p (omega arith) i l)
  where
    out : (b : Bool) → indicator b + count n p ≡ 0 → b ≡ false
    out true z = absurd (omega arith)
    out false z = refl

    go : (i ≡ suc n) ⊎ (i ≡ suc n → ⊥) → (i ≤ n → p i ≡ false) → p i ≡ false
    go (inl s) rec = ap p s ∙ out (p (suc n)) e
    go (inr d) rec = rec (omega arith)

-- a chart with no edge holds nothing
pub empty_lines : (n : ℕ) (l : Linework) → Lawful n l.turn → Placed n l.turn l.points → edge_count n l.turn ≡ 0 → l ≡ no_lines
unfolding edge_count
empty_lines n l w o none = λ i. record {
  turn = record { held = λ h. out h i; follower = λ h. w.no_follower h (out h) i; predecessor = λ h. w.no_predecessor h (out h) i };
  points = λ h. o.nowhere h (out h) i;
}
  where
    edge_out : (m : ℕ) (b : Bool) → l.turn.held (pos (suc m)) ≡ b → l.turn.held (pos (suc m)) ≡ false
    edge_out m true e = let u = w.high (pos (suc m)) e in count_zero n (λ k. l.turn.held (pos k)) none (suc m) (omega arith) (omega (arith, ints))
    edge_out m false e = e

    minus_out : (m : ℕ) (b : Bool) → l.turn.held (negsuc m) ≡ b → l.turn.held (negsuc m) ≡ false
    minus_out m true e = absurd (both_ways _ (edge_out m _ refl) (w.closed (negsuc m) e))
    minus_out m false e = e

    out : (h : ℤ) → l.turn.held h ≡ false
    out (pos zero) = w.no_zero
    out (pos (suc m)) = edge_out m _ refl
    out (negsuc m) = minus_out m _ refl
