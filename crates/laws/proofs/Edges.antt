-- Both names of an edge come or go, and the laws hold again. Assumes nothing.
use Rattle.std.proofs.Common.{◌≡◌, ℕ, zero, suc, ◌≤◌, true, ℤ, pos, neg_ℤ, None, Option, sym, ap, ◌∙◌, arith}
use lib.IntN.{neg_ℤ-neg_ℤ}
use Rattle.std.proofs.lemmas.Bool.{both_ways}
use Rattle.std.proofs.lemmas.Int.{ints}
use Rattle.turning.specs.Turn.{Turn, Lawful}
use Rattle.chart.specs.declared.point.Point.{Point}
use Rattle.chart.specs.Points.{told_west}
use Rattle.chart.specs.Linework.{Linework, Placed}
use Rattle.chart.specs.Changes.{at, drawn, lifted}
use Rattle.laws.specs.Rotations.{Rotation, Located}
use Rattle.laws.specs.Keeps.{Sound}
use Rattle.laws.proofs.Equal.{tell}
use Rattle.laws.proofs.Listed.{round_steps, steps_round}
use Rattle.laws.proofs.Draws.{drawn_rotation, drawn_laid}

pub rotation_of : (n : ℕ) (t : Turn) → Lawful n t → Rotation n t
rotation_of n t l = record {
  no_zero = l.no_zero;
  low = l.low;
  high = l.high;
  ahead = l.ahead;
  behind = l.behind;
  undone = l.undone;
  redone = l.redone;
  no_follower = l.no_follower;
  no_predecessor = l.no_predecessor;
}

abbrev pub Closed : Turn → Type 0
Closed t = (h : ℤ) → t.held h ≡ true → t.held (neg_ℤ h) ≡ true

pub lawful_by : (n : ℕ) (t : Turn) → Rotation n t → Closed t → Lawful n t
lawful_by n t w c = record {
  no_zero = w.no_zero;
  low = w.low;
  high = w.high;
  closed = c;
  ahead = w.ahead;
  behind = w.behind;
  undone = w.undone;
  redone = w.redone;
  no_follower = w.no_follower;
  no_predecessor = w.no_predecessor;
}

pub laid_of : (n : ℕ) (t : Turn) → Rotation n t → (pl : ℤ → Option Point) → Placed n t pl → Located t pl
laid_of n t w pl p = record {
  nowhere = p.nowhere;
  somewhere = p.somewhere;
  together = λ g h e f s. round_steps n t w g h e (p.together g h e f s);
  alike = p.alike;
}

abbrev pub Westward : Turn → (ℤ → Option Point) → Type 0
Westward t pl = (e : ℕ) → t.held (pos e) ≡ true → told_west (pl (pos e)) (pl (neg_ℤ (pos e))) ≡ true

pub placed_by : (n : ℕ) (t : Turn) → Rotation n t → (pl : ℤ → Option Point) → Located t pl → Westward t pl → Placed n t pl
placed_by n t w pl p west = record {
  nowhere = p.nowhere;
  somewhere = p.somewhere;
  together = λ g h e f s. let d = p.together g h e f s in steps_round n t w g h e d.0 d.1;
  alike = p.alike;
  westward = west;
}

-- ---- names and their negations
pub neg_apart : (a b : ℕ) → 1 ≤ b → neg_ℤ (pos a) ≡ pos b → ⊥
neg_apart a b l e = omega (arith, ints)

pub pos_apart : (a b : ℕ) → 1 ≤ b → pos a ≡ neg_ℤ (pos b) → ⊥
pos_apart a b l e = omega (arith, ints)

pub neg_same : (a b : ℕ) → neg_ℤ (pos a) ≡ neg_ℤ (pos b) → pos a ≡ pos b
neg_same a b e = sym (neg_ℤ-neg_ℤ (pos a)) ∙ ap neg_ℤ e ∙ neg_ℤ-neg_ℤ (pos b)

pub held_some : (n : ℕ) (t : Turn) → Rotation n t → (e : ℕ) → t.held (pos e) ≡ true → 1 ≤ e
held_some n t w zero h = absurd (both_ways _ w.no_zero h)
held_some n t w (suc e) h = omega arith

-- ---- lift
module _ (n : ℕ) (l : Linework) (s : Sound n l) (e : ℕ) (here : l.turn.held (pos e) ≡ true) where
  pub lift_rotation₀ : Rotation n l.turn
  lift_rotation₀ = rotation_of n l.turn s.0

  pub lift_rotation₁ : Rotation n (drawn (pos e) l.turn)
  lift_rotation₁ = drawn_rotation n l.turn lift_rotation₀ (pos e) here

  one : 1 ≤ e
  one = held_some n l.turn lift_rotation₀ e here

  pub lift_here₁ : (drawn (pos e) l.turn).held (neg_ℤ (pos e)) ≡ true
  lift_here₁ = grind (arith, tell (neg_ℤ (pos e)) (pos e), neg_apart e e one, s.0.closed (pos e) here)

  rotation₂ : Rotation n (lifted e l).turn
  rotation₂ = drawn_rotation n (drawn (pos e) l.turn) lift_rotation₁ (neg_ℤ (pos e)) lift_here₁

  laid₂ : Located (lifted e l).turn (lifted e l).points
  laid₂ =
      drawn_laid n (drawn (pos e) l.turn) lift_rotation₁ (neg_ℤ (pos e)) lift_here₁ (at (pos e) None l.points)
      (drawn_laid n l.turn lift_rotation₀ (pos e) here l.points (laid_of n l.turn lift_rotation₀ l.points s.1))

  closed₂ : Closed (lifted e l).turn
  closed₂ g held =
      grind (arith, s.0.closed g, tell g (pos e), tell g (neg_ℤ (pos e)), tell (neg_ℤ g) (pos e), tell (neg_ℤ g) (neg_ℤ (pos e)), neg_ℤ-neg_ℤ g, neg_ℤ-neg_ℤ (pos e))

  west₂ : Westward (lifted e l).turn (lifted e l).points
  west₂ g held =
      let old : l.turn.held (pos g) ≡ true = grind (arith, tell (pos g) (pos e), tell (pos g) (neg_ℤ (pos e))) in
      let off : (pos g ≡ pos e → ⊥) = λ z. absurd (grind (arith, tell (pos g) (pos e), tell (pos g) (neg_ℤ (pos e)))) in
      let a : (lifted e l).points (pos g) ≡ l.points (pos g) = grind (arith, tell (pos g) (pos e), tell (pos g) (neg_ℤ (pos e)), held, off) in
      let b : (lifted e l).points (neg_ℤ (pos g)) ≡ l.points (neg_ℤ (pos g)) =
      grind (arith, tell (neg_ℤ (pos g)) (pos e), tell (neg_ℤ (pos g)) (neg_ℤ (pos e)), off, neg_same g e, neg_apart g e one) in
      ap (λ x. told_west x ((lifted e l).points (neg_ℤ (pos g)))) a ∙ ap (told_west (l.points (pos g))) b ∙ s.1.westward g old

  pub lift_sound : Sound n (lifted e l)
  lift_sound = (lawful_by n (lifted e l).turn rotation₂ closed₂, placed_by n (lifted e l).turn rotation₂ (lifted e l).points laid₂ west₂)
