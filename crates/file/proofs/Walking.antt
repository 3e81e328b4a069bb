-- The rounds of a strip whose followers are right: follower leads from each home slot back to it, within the slots, and `low` tells rounds apart.
-- Assumes nothing.
use Rattle.std.proofs.Common.{◌≡◌, ℕ, zero, suc, ◌+◌, ◌-◌, ◌<◌, ◌≤◌, Bool, true, false, cond, not, ◌&&◌, ◌||◌, eqb, ltb, List, [], ◌∷◌, length, sym, refl, ap, ◌∙◌, subst, inl, inr, ⊎_elim, arith}
use Rattle.std.proofs.lemmas.Bool.{cond-true, cond-false, cases_Bool, cases_lt, eqb-true, eqb-false}
use Rattle.std.proofs.lemmas.Bool.Decides.{nat_tests}
use Rattle.flat.specs.Orbits.{◌∈◌, iterate, indicator}
use Rattle.flat.proofs.Trails.{trail_apart}
use Rattle.file.specs.Places.{any_below, count_below}
use Rattle.file.specs.Strips.{none, Strip, home, followed, lowest, low, met, Turned}
use Rattle.file.specs.Questions.{follower_good, followed_right}
use Rattle.file.proofs.Places.{any_here, any_where, any_none, bool_apart}

-- ---- what questions 8 and 9 tell
count_one : (p : ℕ → Bool) (k n : ℕ) → k < n → p k ≡ true → 1 ≤ count_below p n
count_one p k zero h e = absurd (omega arith)
count_one p k (suc n) h e = ⊎_elim
    (λ l. let r = count_one p k n l e in omega arith)
    (λ g. let q : k ≡ n = omega arith in let t : indicator (p n) ≡ 1 = ap indicator (subst (λ m. p m ≡ true) q e) in omega arith)
    (cases_lt k n)

count_two : (p : ℕ → Bool) (i k n : ℕ) → i < k → k < n → p i ≡ true → p k ≡ true → 2 ≤ count_below p n
count_two p i k zero l h d e = absurd (omega arith)
count_two p i k (suc n) l h d e = ⊎_elim
    (λ m. let r = count_two p i k n l m d e in omega arith)
    (λ g. let q : k ≡ n = omega arith in
    let t : indicator (p n) ≡ 1 = ap indicator (subst (λ m. p m ≡ true) q e) in
    let r = count_one p i n (omega arith) d in omega arith)
    (cases_lt k n)

same_bool : (a b : Bool) → (a ≡ true → b ≡ true) → (b ≡ true → a ≡ true) → a ≡ b
same_bool true b f g = sym (f refl)
same_bool false true f g = g refl
same_bool false false f g = refl

both : (a b : Bool) → a ≡ true → b ≡ true → (a && b) ≡ true
both a b p q = ap (λ x. x && b) p ∙ q

and_first : (a b : Bool) → (a && b) ≡ true → a ≡ true
and_first a b e = grind arith

and_second : (a b : Bool) → (a && b) ≡ true → b ≡ true
and_second a b e = grind arith

eqb_same : (a b : ℕ) → a ≡ b → eqb a b ≡ true
eqb_same a b e = grind (arith, nat_tests)

slot_of : (f h : ℕ) → (ltb f h || eqb f none) ≡ true → not (eqb f none) ≡ true → f < h
slot_of f h g n = grind (arith, nat_tests)

count_is : (n : ℕ) (b : Bool) → eqb n (indicator b) ≡ true → b ≡ false → n ≡ 0
count_is n b e f = grind (arith, nat_tests)

count_most : (n : ℕ) (b : Bool) → eqb n (indicator b) ≡ true → n ≤ 1
count_most n true e = grind (arith, nat_tests)
count_most n false e = grind (arith, nat_tests)

module _ (s : Strip) (eight : (i : ℕ) → i < s.slots → follower_good s i ≡ true) (nine : (i : ℕ) → i < s.slots → followed_right s i ≡ true) where
  ahead_of : (i : ℕ) → i < s.slots → home s i ≡ true → s.follower i < s.slots
  ahead_of i h e = slot_of (s.follower i) s.slots (eight i h) e

  one_follows : (i k : ℕ) → i < s.slots → k < s.slots → i < k → home s i ≡ true → s.follower i ≡ s.follower k → ⊥
  one_follows i k h g l e p =
      let f = ahead_of i h e in
      let two : 2 ≤ followed s (s.follower i) = count_two (λ q. eqb (s.follower q) (s.follower i)) i k s.slots l g (eqb_same (s.follower i) (s.follower i) refl) (eqb_same (s.follower k) (s.follower i) (sym p)) in
      let most : followed s (s.follower i) ≤ 1 = count_most (followed s (s.follower i)) (home s (s.follower i)) (nine (s.follower i) f) in
      omega arith

  pub turned : Turned s
  turned = record {
    ahead = ahead_of;
    kept = λ i h e. ⊎_elim (λ t. t)
        (λ f.
        let n = count_is (followed s (s.follower i)) (home s (s.follower i)) (nine (s.follower i) (ahead_of i h e)) f in
        let o : 1 ≤ followed s (s.follower i) = count_one (λ q. eqb (s.follower q) (s.follower i)) i s.slots h (eqb_same (s.follower i) (s.follower i) refl) in
        absurd (omega arith))
        (cases_Bool (home s (s.follower i)));
    apart = λ i k h g d e p. ⊎_elim (λ l. absurd (one_follows i k h g l d p))
        (λ m. ⊎_elim (λ l. absurd (one_follows k i g h l e (sym p))) (λ w. omega arith) (cases_lt k i)) (cases_lt i k);
  }

-- ---- walks
iterate_add : (f : ℕ → ℕ) (a b x : ℕ) → iterate (a + b) f x ≡ iterate a f (iterate b f x)
iterate_add f zero b x = let e : 0 + b ≡ b = omega arith in ap (λ n. iterate n f x) e
iterate_add f (suc a) b x = let e : suc a + b ≡ suc (a + b) = omega arith in ap (λ n. iterate n f x) e ∙ ap f (iterate_add f a b x)

-- once f has led back to x in p steps, it leads nowhere that it has not led to in fewer
wrap : (f : ℕ → ℕ) (x p : ℕ) → 1 ≤ p → iterate p f x ≡ x → (m : ℕ) → (q : ℕ) × (q < p) × (iterate m f x ≡ iterate q f x)
wrap f x p h e zero = (0, omega arith, refl)
wrap f x p h e (suc m) = next (wrap f x p h e m)
  where
    next : (q : ℕ) × (q < p) × (iterate m f x ≡ iterate q f x) → (q : ℕ) × (q < p) × (iterate (suc m) f x ≡ iterate q f x)
    next r = let l : r.0 < p = r.1 in ⊎_elim
        (λ g. (suc r.0, g, ap f r.2))
        (λ g. let n : suc r.0 ≡ p = omega arith in (0, omega arith, ap f r.2 ∙ ap (λ k. iterate k f x) n ∙ e))
        (cases_lt (suc r.0) p)

pub low_reached : (f : ℕ → ℕ) (x n : ℕ) → (m : ℕ) × (m ≤ n) × (lowest n f x ≡ iterate m f x)
low_reached f x zero = (0, omega arith, refl)
low_reached f x (suc n) = ⊎_elim
    (λ t. (suc n, omega arith, cond-true _ _ _ t))
    (λ g. up (low_reached f x n) (cond-false (ltb (iterate (suc n) f x) (lowest n f x)) (iterate (suc n) f x) (lowest n f x) g))
    (cases_Bool (ltb (iterate (suc n) f x) (lowest n f x)))
  where
    up : (m : ℕ) × (m ≤ n) × (lowest n f x ≡ iterate m f x) → lowest (suc n) f x ≡ lowest n f x → (m : ℕ) × (m ≤ suc n) × (lowest (suc n) f x ≡ iterate m f x)
    up r e = let l : r.0 ≤ n = r.1 in (r.0, omega arith, e ∙ r.2)

low_first : (a b : ℕ) → (cond (ltb a b) a b ≤ a) × (cond (ltb a b) a b ≤ b)
low_first a b = (grind (arith, nat_tests), grind (arith, nat_tests))

pub low_least : (f : ℕ → ℕ) (x n m : ℕ) → m ≤ n → lowest n f x ≤ iterate m f x
low_least f x zero zero h = omega arith
low_least f x zero (suc m) h = absurd (omega arith)
low_least f x (suc n) m h =
    let b = low_first (iterate (suc n) f x) (lowest n f x) in
    let l : lowest (suc n) f x ≤ iterate (suc n) f x = b.0 in
    let r : lowest (suc n) f x ≤ lowest n f x = b.1 in
    ⊎_elim
    (λ g. let k : lowest n f x ≤ iterate m f x = low_least f x n m (omega arith) in omega arith)
    (λ g. let e : m ≡ suc n = omega arith in subst (λ j. lowest (suc n) f x ≤ iterate j f x) (sym e) l)
    (cases_lt m (suc n))

-- ---- the home slots below n
abbrev homes : Strip → ℕ → List ℕ
homes s zero = []
homes s (suc n) = cond (home s n) (n ∷ homes s n) (homes s n)

homes_few : (s : Strip) (n : ℕ) → length (homes s n) ≤ n
homes_few s zero = omega arith
homes_few s (suc n) = ⊎_elim
    (λ t. let e : length (homes s (suc n)) ≡ suc (length (homes s n)) = ap length (cond-true (home s n) (n ∷ homes s n) (homes s n) t) in omega (arith, homes_few s n))
    (λ g. let e : length (homes s (suc n)) ≡ length (homes s n) = ap length (cond-false (home s n) (n ∷ homes s n) (homes s n) g) in omega (arith, homes_few s n))
    (cases_Bool (home s n))

in_homes : (s : Strip) (n x : ℕ) → x < n → home s x ≡ true → x ∈ homes s n
in_homes s zero x h e = absurd (omega arith)
in_homes s (suc n) x h e = ⊎_elim
    (λ t. subst (λ l. x ∈ l) (sym (cond-true (home s n) (n ∷ homes s n) (homes s n) t))
    (⊎_elim (λ l. inr (in_homes s n x l e)) (λ g. inl (omega arith)) (cases_lt x n)))
    (λ g. subst (λ l. x ∈ l) (sym (cond-false (home s n) (n ∷ homes s n) (homes s n) g))
    (⊎_elim (λ l. in_homes s n x l e) (λ m. let q : x ≡ n = omega arith in absurd (bool_apart (home s n) (subst (λ k. home s k ≡ true) q e) g)) (cases_lt x n)))
    (cases_Bool (home s n))

of_homes : (s : Strip) (n x : ℕ) → x ∈ homes s n → (x < n) × (home s x ≡ true)
of_homes s zero x m = absurd m
of_homes s (suc n) x m = ⊎_elim
    (λ t. here (of_homes s n x) t (subst (λ l. x ∈ l) (cond-true (home s n) (n ∷ homes s n) (homes s n) t) m))
    (λ g. up (of_homes s n x (subst (λ l. x ∈ l) (cond-false (home s n) (n ∷ homes s n) (homes s n) g) m)))
    (cases_Bool (home s n))
  where
    up : (x < n) × (home s x ≡ true) → (x < suc n) × (home s x ≡ true)
    up r = let l : x < n = r.0 in (omega arith, r.1)

    here : (x ∈ homes s n → (x < n) × (home s x ≡ true)) → home s n ≡ true → x ∈ (n ∷ homes s n) → (x < suc n) × (home s x ≡ true)
    here rec t (inl e) = (omega arith, subst (λ k. home s k ≡ true) (sym e) t)
    here rec t (inr r) = up (rec r)

-- ---- the rounds
module _ (s : Strip) (t : Turned s) where
  pub home_at : (x : ℕ) → x < s.slots → home s x ≡ true → (m : ℕ) → (iterate m s.follower x < s.slots) × (home s (iterate m s.follower x) ≡ true)
  home_at x h e zero = (h, e)
  home_at x h e (suc m) = let r = home_at x h e m in (t.ahead _ r.0 r.1, t.kept _ r.0 r.1)

  pub back : (x : ℕ) → x < s.slots → home s x ≡ true → (p : ℕ) × (1 ≤ p) × (p ≤ s.slots) × (iterate p s.follower x ≡ x)
  back x h e = ⊎_elim found lost (cases_Bool (any_below (λ j. eqb (iterate (suc j) s.follower x) x) s.slots))
    where
      found : any_below (λ j. eqb (iterate (suc j) s.follower x) x) s.slots ≡ true → (p : ℕ) × (1 ≤ p) × (p ≤ s.slots) × (iterate p s.follower x ≡ x)
      found b =
          let r = any_where (λ j. eqb (iterate (suc j) s.follower x) x) s.slots b in
          let l : r.0 < s.slots = r.1 in
          (suc r.0, omega arith, omega arith, eqb-true (iterate (suc r.0) s.follower x) x r.2)

      never : any_below (λ j. eqb (iterate (suc j) s.follower x) x) s.slots ≡ false → (j : ℕ) → 1 ≤ j → j ≤ s.slots → ¬ (iterate j s.follower x ≡ x)
      never b zero p q = absurd (omega arith)
      never b (suc j) p q = eqb-false (iterate (suc j) s.follower x) x (any_none (λ k. eqb (iterate (suc k) s.follower x) x) s.slots b j (omega arith))

      lost : any_below (λ j. eqb (iterate (suc j) s.follower x) x) s.slots ≡ false → (p : ℕ) × (1 ≤ p) × (p ≤ s.slots) × (iterate p s.follower x ≡ x)
      lost b =
          let r = trail_apart s.follower (homes s s.slots)
          (λ y m. let o = of_homes s s.slots y m in in_homes s s.slots (s.follower y) (t.ahead y o.0 o.1) (t.kept y o.0 o.1))
          (λ y z m n q. let o = of_homes s s.slots y m in let v = of_homes s s.slots z n in t.apart y z o.0 v.0 o.1 v.1 q)
          x (in_homes s s.slots x h e) s.slots (never b) in
          let l : s.slots < length (homes s s.slots) = r.1 in
          absurd (omega (arith, homes_few s s.slots))

  -- the lowest slot of the round: it is reached, and none reached is lower
  pub low_is : (x : ℕ) → (m : ℕ) × (m ≤ s.slots) × (low s x ≡ iterate m s.follower x)
  unfolding low
  low_is x = low_reached s.follower x s.slots

  pub low_under : (x : ℕ) → x < s.slots → home s x ≡ true → (m : ℕ) → low s x ≤ iterate m s.follower x
  unfolding low
  low_under x h e m =
      let b = back x h e in
      let w = wrap s.follower x b.0 b.1 b.3 m in
      let l : w.0 < b.0 = w.1 in
      let k : b.0 ≤ s.slots = b.2 in
      subst (λ y. lowest s.slots s.follower x ≤ y) (sym w.2) (low_least s.follower x s.slots w.0 (omega arith))

  -- from where follower leads to from x, it leads back to x
  pub return : (x : ℕ) → x < s.slots → home s x ≡ true → (m : ℕ) → (n : ℕ) × (iterate n s.follower (iterate m s.follower x) ≡ x)
  return x h e m =
      let b = back x h e in
      let w = wrap s.follower x b.0 b.1 b.3 m in
      let l : w.0 < b.0 = w.1 in
      let sum : (b.0 - w.0) + w.0 ≡ b.0 = omega arith in (
        b.0 - w.0,
        ap (iterate (b.0 - w.0) s.follower) w.2 ∙ sym (iterate_add s.follower (b.0 - w.0) w.0 x) ∙ ap (λ n. iterate n s.follower x) sum ∙ b.3,
      )

  pub low_same : (x : ℕ) → x < s.slots → home s x ≡ true → (m : ℕ) → low s (iterate m s.follower x) ≡ low s x
  low_same x h e m =
      let y = iterate m s.follower x in
      let o = home_at x h e m in
      let a = low_is y in
      let d = low_is x in
      let r = return x h e m in
      let up : low s x ≤ low s y =
      subst (λ z. low s x ≤ z) (sym (a.2 ∙ sym (iterate_add s.follower a.0 m x))) (low_under x h e (a.0 + m)) in
      let down : low s y ≤ low s x =
      subst (λ z. low s y ≤ z) (sym (d.2 ∙ ap (iterate d.0 s.follower) (sym r.1) ∙ sym (iterate_add s.follower d.0 r.0 y)))
      (low_under y o.0 o.1 (d.0 + r.0)) in
      omega arith

  pub low_slot : (x : ℕ) → x < s.slots → home s x ≡ true → (low s x < s.slots) × (home s (low s x) ≡ true) × (low s (low s x) ≡ low s x)
  low_slot x h e =
      let d = low_is x in
      let o = home_at x h e d.0 in (
        subst (λ z. z < s.slots) (sym d.2) o.0,
        subst (λ z. home s z ≡ true) (sym d.2) o.1,
        ap (low s) d.2 ∙ low_same x h e d.0,
      )

  -- the walk from the lowest slot of a round meets just the slots whose lowest it is
  pub met_is : (i k : ℕ) → i < s.slots → home s i ≡ true → low s i ≡ i → k < s.slots → met s i s.slots k ≡ (home s k && eqb (low s k) i)
  met_is i k h e l g = same_bool _ _ there here
    where
      there : met s i s.slots k ≡ true → (home s k && eqb (low s k) i) ≡ true
      there b =
          let r = any_where (λ m. eqb (iterate m s.follower i) k) s.slots b in
          let q : iterate r.0 s.follower i ≡ k = eqb-true (iterate r.0 s.follower i) k r.2 in
          let u : home s k ≡ true = subst (λ z. home s z ≡ true) q (home_at i h e r.0).1 in
          let v : low s k ≡ i = ap (low s) (sym q) ∙ low_same i h e r.0 ∙ l in
          both (home s k) (eqb (low s k) i) u (eqb_same (low s k) i v)

      here : (home s k && eqb (low s k) i) ≡ true → met s i s.slots k ≡ true
      here b =
          let u : home s k ≡ true = and_first (home s k) (eqb (low s k) i) b in
          let v : low s k ≡ i = eqb-true (low s k) i (and_second (home s k) (eqb (low s k) i) b) in
          let d = low_is k in
          let r = return k g u d.0 in
          let q : iterate r.0 s.follower i ≡ k = ap (iterate r.0 s.follower) (sym v ∙ d.2) ∙ r.1 in
          let p = back i h e in
          let w = wrap s.follower i p.0 p.1 p.3 r.0 in
          let a : w.0 < p.0 = w.1 in
          let c : p.0 ≤ s.slots = p.2 in
          any_here (λ m. eqb (iterate m s.follower i) k) w.0 s.slots (omega arith) (eqb_same (iterate w.0 s.follower i) k (sym w.2 ∙ q))

  -- once the walk is back, it has met all
  pub met_all : (i n k : ℕ) → n < s.slots → iterate (suc n) s.follower i ≡ i → met s i (suc n) k ≡ met s i s.slots k
  met_all i n k h e = same_bool _ _
      (λ b. let r = any_where (λ m. eqb (iterate m s.follower i) k) (suc n) b in
      let l : r.0 < suc n = r.1 in
      any_here (λ m. eqb (iterate m s.follower i) k) r.0 s.slots (omega arith) r.2)
      (λ b. let r = any_where (λ m. eqb (iterate m s.follower i) k) s.slots b in
      let w = wrap s.follower i (suc n) (omega arith) e r.0 in
      any_here (λ m. eqb (iterate m s.follower i) k) w.0 (suc n) w.1
      (eqb_same (iterate w.0 s.follower i) k (sym w.2 ∙ eqb-true (iterate r.0 s.follower i) k r.2)))
