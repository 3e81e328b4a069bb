-- What a turning means: the names that it holds, and for each the next name clockwise about its start, and the one before.
-- Assumes nothing.
use Rattle.std.specs.Prelude.{◌≡◌, ℕ, Bool, true, false, cond, ℤ, pos, neg_ℤ, ◌≤ℤ◌}

-- which names are held, and for each name its follower and its predecessor
pub record Turn : Type 0 where
  pub held : ℤ → Bool
  pub follower : ℤ → ℤ
  pub predecessor : ℤ → ℤ

-- names from 1 to n and their negations, closed under negation; follower and predecessor keep to them and undo each other; 0 off them
pub record Lawful (n : ℕ) (t : Turn) : Type 0 where
  pub no_zero : t.held (pos 0) ≡ false
  pub low : (h : ℤ) → t.held h ≡ true → neg_ℤ (pos n) ≤ℤ h
  pub high : (h : ℤ) → t.held h ≡ true → h ≤ℤ pos n
  pub closed : (h : ℤ) → t.held h ≡ true → t.held (neg_ℤ h) ≡ true
  pub ahead : (h : ℤ) → t.held h ≡ true → t.held (t.follower h) ≡ true
  pub behind : (h : ℤ) → t.held h ≡ true → t.held (t.predecessor h) ≡ true
  pub undone : (h : ℤ) → t.held h ≡ true → t.predecessor (t.follower h) ≡ h
  pub redone : (h : ℤ) → t.held h ≡ true → t.follower (t.predecessor h) ≡ h
  pub no_follower : (h : ℤ) → t.held h ≡ false → t.follower h ≡ pos 0
  pub no_predecessor : (h : ℤ) → t.held h ≡ false → t.predecessor h ≡ pos 0

-- the loop side: the same names, turned about the loops
abbrev pub side : Turn → Turn
side t = record {
  held = t.held;
  follower = λ h. cond (t.held h) (t.predecessor (neg_ℤ h)) (pos 0);
  predecessor = λ h. cond (t.held h) (neg_ℤ (t.follower h)) (pos 0);
}

-- the turning that holds nothing
abbrev pub no_turn : Turn
no_turn = record { held = λ _. false; follower = λ _. pos 0; predecessor = λ _. pos 0 }
