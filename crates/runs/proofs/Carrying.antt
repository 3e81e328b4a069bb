-- One call carried out, from what its edit ensures. Assumes nothing.
use Rattle.std.proofs.Common.{◌≡◌, ℕ, List, ℤ, Err, subst, arith}
use Rattle.turning.specs.declared.refusal.Refusal.TheVariants.{LoopsOfOnePiece}
use Rattle.turning.specs.Refusals.{Outcome}
use Rattle.chart.specs.Stores.{Meaning}
use Rattle.edits.specs.Edits.{Edit, joins, made, Changed, Done, KeepsFlat, Judged}
use Rattle.runs.specs.Runs.{left, Carried}

pub zero_one : ◌≡◌ {A = ℕ} 0 1 → ⊥
zero_one e = omega arith

pub same_join : (e : ℕ) {c d y z : ℤ} {ms ns : List ℕ} {ls ks : List ℤ} → y ≡ c → z ≡ d → ns ≡ ms → ks ≡ ls → joins e y z ns ks ≡ joins e c d ms ls
same_join e i j k l = cc

-- an edit that was carried out, from its parts
pub carried : (n : ℕ) (m m' : Meaning) (q : Edit) (r : Outcome) → Done n m q r m' → KeepsFlat n m m' → Judged n m q (r ≡ Err LoopsOfOnePiece) → (q' : Edit) → q' ≡ left n q → Carried n m q r q' m'
carried n m m' q r d f j q' l = record {
  answered = d.told;
  changed = subst (λ o. Changed o (made q m.lines) m m') d.told d.changed;
  lent = l;
  judged = j;
  flat = f;
}
