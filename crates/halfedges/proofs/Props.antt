-- What holds of a memory has one proof at most, so that it comes out of a truncation. Assumes nothing.
use Rattle.std.proofs.Common.{ℕ, List}
use mathlib.Core.Bool.{Bool-set}
use mathlib.Core.HLevel.{hedberg}
use native.Mathlib.Bridge.{le_prop}
use native.Mathlib.Decide.{ℕ_discrete}
use lib.IntN.{ℤ_set}
use Rattle.turning.specs.Props.{lawful_prop}
use Rattle.chart.proofs.Props.{placed_prop}
use Rattle.halfedges.specs.declared.halfedge.Halfedge.{Halfedge}
use Rattle.halfedges.specs.View.{View, view}
use Rattle.halfedges.specs.Rows.{turn_of, points_of, Indexed, Core}

indexed_prop : (cap : ℕ) (v : View) → IsProp (Indexed cap v)
indexed_prop cap v p q = λ i. record {
  inside = λ h. Bool-set _ _ (p.inside h) (q.inside h) i;
  named = λ h e. ℤ_set _ _ (p.named h e) (q.named h e) i;
  found = λ s l u e. hedberg ℕ_discrete _ _ (p.found s l u e) (q.found s l u e) i;
}

pub core_prop : (n cap : ℕ) (rs : List Halfedge) → IsProp (Core n cap rs)
core_prop n cap rs p q = λ i. record {
  long = le_prop p.long q.long i;
  indexed = indexed_prop cap (view n cap rs) p.indexed q.indexed i;
  sound = (
    lawful_prop n (turn_of (view n cap rs)) p.sound.0 q.sound.0 i,
    placed_prop n (turn_of (view n cap rs)) (points_of (view n cap rs)) p.sound.1 q.sound.1 i,
  );
}
