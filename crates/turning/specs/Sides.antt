-- The loop side of a lawful turning is lawful. Assumes nothing.
use Rattle.std.specs.Prelude.{◌≡◌, ℕ, true, ℤ, neg_ℤ}
use Rattle.std.proofs.Common.{ap, ◌∙◌}
use Rattle.std.proofs.Math.IntN.{neg_ℤ-neg_ℤ}
use Rattle.std.proofs.lemmas.Bool.{cond-true, cond-false}
use Rattle.turning.specs.Turn.{Turn, Lawful, side}

module _ (n : ℕ) (t : Turn) (l : Lawful n t) where
  side_follower : (h : ℤ) → t.held h ≡ true → (side t).follower h ≡ t.predecessor (neg_ℤ h)
  side_follower h e = cond-true (t.held h) _ _ e

  side_predecessor : (h : ℤ) → t.held h ≡ true → (side t).predecessor h ≡ neg_ℤ (t.follower h)
  side_predecessor h e = cond-true (t.held h) _ _ e

  pub side_lawful : Lawful n (side t)
  side_lawful = record {
    no_zero = l.no_zero;
    low = l.low;
    high = l.high;
    closed = l.closed;
    ahead = λ h e. ap t.held (side_follower h e) ∙ l.behind (neg_ℤ h) (l.closed h e);
    behind = λ h e. ap t.held (side_predecessor h e) ∙ l.closed (t.follower h) (l.ahead h e);
    undone = λ h e.
        ap (side t).predecessor (side_follower h e) ∙ side_predecessor (t.predecessor (neg_ℤ h)) (l.behind (neg_ℤ h) (l.closed h e)) ∙ ap neg_ℤ (l.redone (neg_ℤ h) (l.closed h e)) ∙ neg_ℤ-neg_ℤ h;
    redone = λ h e.
        ap (side t).follower (side_predecessor h e) ∙ side_follower (neg_ℤ (t.follower h)) (l.closed (t.follower h) (l.ahead h e)) ∙ ap t.predecessor (neg_ℤ-neg_ℤ (t.follower h)) ∙ l.undone h e;
    no_follower = λ h e. cond-false (t.held h) _ _ e;
    no_predecessor = λ h e. cond-false (t.held h) _ _ e;
  }
