-- Counts that stop at 2, kept in marks by slot. Assumes nothing.
use Rattle.std.proofs.Common.{◌≡◌, ℕ, ◌+◌, ◌<◌, ◌≤◌, true, false, not, ◌||◌, eqb, ltb, ◌≢◌, List, length, get_or, set, sym, ap, ◌∙◌, ⊎_elim, arith}
use Rattle.flat.specs.Orbits.{indicator}
use Rattle.std.proofs.lemmas.Bool.{cases_Bool, eqb-true, eqb-false}
use Rattle.std.proofs.lemmas.List.{get_or-set_same, get_or-set_other}
use Rattle.std.proofs.lemmas.Bool.Decides.{nat_tests}
use Rattle.file.specs.Places.{count_below}
use Rattle.file.specs.Strips.{none, Strip, home, followed}
use Rattle.file.specs.Questions.{followed_right, follower_good}
use Rattle.file.proofs.Places.{count_more}
use Rattle.strip_questions.specs.Counts.{capped, one_more}

-- how many of the lowest k slots have slot i as their follower
abbrev pub followed_by : Strip → ℕ → ℕ → ℕ
followed_by s k i = count_below (λ q. eqb (s.follower q) i) k

capped_more : (n : ℕ) → one_more (capped n) ≡ capped (1 + n)
capped_more n = grind (arith, nat_tests)

module _ (s : Strip) (k i : ℕ) where
  pub counted_here : s.follower k ≡ i → followed_by s (k + 1) i ≡ 1 + followed_by s k i
  counted_here e = count_more (λ q. eqb (s.follower q) i) k ∙ ap (λ b. indicator b + followed_by s k i) (same (s.follower k) i e)
    where
      same : (a b : ℕ) → a ≡ b → eqb a b ≡ true
      same a b e = grind (arith, nat_tests)

  pub counted_not : s.follower k ≢ i → followed_by s (k + 1) i ≡ followed_by s k i
  counted_not n = count_more (λ q. eqb (s.follower q) i) k ∙ ap (λ b. indicator b + followed_by s k i) (other (s.follower k) i n) ∙ plus (followed_by s k i)
    where
      plus : (n : ℕ) → 0 + n ≡ n
      plus n = omega arith

      other : (a b : ℕ) → a ≢ b → eqb a b ≡ false
      other a b n = ⊎_elim (λ t. absurd (n (eqb-true a b t))) (λ f. f) (cases_Bool (eqb a b))

-- the mark of the follower of slot k goes up by one
pub count_set : (m : List ℕ) (s : Strip) (k : ℕ) → s.follower k < length m → ((i : ℕ) → i < s.slots → get_or m i 0 ≡ capped (followed_by s k i))
    → (i : ℕ) → i < s.slots → get_or (set m (s.follower k) (one_more (get_or m (s.follower k) 0))) i 0 ≡ capped (followed_by s (k + 1) i)
count_set m s k w before i h =
    ⊎_elim
    (λ t.
    let e : s.follower k ≡ i = eqb-true (s.follower k) i t in
    ap (λ j. get_or (set m (s.follower k) (one_more (get_or m (s.follower k) 0))) j 0) (sym e)
    ∙ get_or-set_same m (s.follower k) (one_more (get_or m (s.follower k) 0)) 0 w
    ∙ ap (λ j. one_more (get_or m j 0)) e ∙ ap one_more (before i h) ∙ capped_more (followed_by s k i) ∙ sym (ap capped (counted_here s k i e)))
    (λ f.
    let n : s.follower k ≢ i = eqb-false (s.follower k) i f in
    get_or-set_other m (s.follower k) i (one_more (get_or m (s.follower k) 0)) 0 (λ e. n (sym e)) ∙ before i h ∙ sym (ap capped (counted_not s k i n)))
    (cases_Bool (eqb (s.follower k) i))

pub count_skip : (m : List ℕ) (s : Strip) (k : ℕ) → s.slots ≤ s.follower k → ((i : ℕ) → i < s.slots → get_or m i 0 ≡ capped (followed_by s k i))
    → (i : ℕ) → i < s.slots → get_or m i 0 ≡ capped (followed_by s (k + 1) i)
count_skip m s k w before i h = before i h ∙ sym (ap capped (counted_not s k i (λ e. omega arith)))

pub is_slot : (s : Strip) (k : ℕ) → follower_good s k ≡ true → (s.follower k ≡ none → ⊥) → s.follower k < s.slots
is_slot s k g n = slot (s.follower k) s.slots g n
  where
    slot : (f h : ℕ) → (ltb f h || eqb f none) ≡ true → (f ≡ none → ⊥) → f < h
    slot f h g n = grind (arith, nat_tests)

-- a mark differs from what is wanted just where the slot is not followed right
wanted_right : (f n m w : ℕ) → m ≡ capped n → w ≡ indicator (not (eqb f none)) → m ≡ w → eqb n (indicator (not (eqb f none))) ≡ true
wanted_right f n m w p q e = grind (arith, nat_tests)

wanted_wrong : (f n m w : ℕ) → m ≡ capped n → w ≡ indicator (not (eqb f none)) → (m ≡ w → ⊥) → eqb n (indicator (not (eqb f none))) ≡ false
wanted_wrong f n m w p q e = grind (arith, nat_tests)

module _ (s : Strip) (i m w : ℕ) where
  pub is_right : m ≡ capped (followed s i) → w ≡ indicator (home s i) → m ≡ w → followed_right s i ≡ true
  is_right p q e = wanted_right (s.follower i) (followed s i) m w p q e

  pub is_wrong : m ≡ capped (followed s i) → w ≡ indicator (home s i) → (m ≡ w → ⊥) → followed_right s i ≡ false
  is_wrong p q e = wanted_wrong (s.follower i) (followed s i) m w p q e
