-- The marks of a walk about a round, and of all rounds. Assumes nothing.
use Rattle.std.proofs.Common.{◌≡◌, ℕ, ◌+◌, ◌<◌, ◌≤◌, Bool, true, false, cond, ◌&&◌, ◌||◌, eqb, ltb, ◌≢◌, List, length, get_or, set, sym, refl, ap, ◌∙◌, subst, ⊎_elim, add-one, arith}
use Rattle.flat.specs.Orbits.{iterate, indicator}
use Rattle.std.proofs.lemmas.Bool.{cases_Bool, eqb-true, eqb-false, cond-false}
use Rattle.std.proofs.lemmas.List.{get_or-set_same, get_or-set_other}
use Rattle.std.proofs.lemmas.Bool.Decides.{nat_tests}
use Rattle.file.specs.Strips.{Strip, home, low, opens, met, Turned}
use Rattle.file.proofs.Places.{any_more, bool_apart}
use Rattle.file.proofs.Walking.{low_under, low_slot, met_is}

-- one more slot of the walk is marked
pub met_set : (m old : List ℕ) (s : Strip) (i n : ℕ) → iterate n s.follower i < length m
    → ((k : ℕ) → k < s.slots → get_or m k 0 ≡ cond (met s i n k) 1 (get_or old k 0))
    → (k : ℕ) → k < s.slots → get_or (set m (iterate n s.follower i) 1) k 0 ≡ cond (met s i (n + 1) k) 1 (get_or old k 0)
met_set m old s i n w before k h =
    ⊎_elim
    (λ t.
    let e : iterate n s.follower i ≡ k = eqb-true (iterate n s.follower i) k t in
    ap (λ j. get_or (set m (iterate n s.follower i) 1) j 0) (sym e) ∙ get_or-set_same m (iterate n s.follower i) 1 0 w
    ∙ sym (ap (λ b. cond b 1 (get_or old k 0)) (any_more (λ q. eqb (iterate q s.follower i) k) n ∙ ap (λ b. b || met s i n k) t)))
    (λ f.
    let d : iterate n s.follower i ≢ k = eqb-false (iterate n s.follower i) k f in
    get_or-set_other m (iterate n s.follower i) k 1 0 (λ e. d (sym e)) ∙ before k h
    ∙ sym (ap (λ b. cond b 1 (get_or old k 0)) (any_more (λ q. eqb (iterate q s.follower i) k) n ∙ ap (λ b. b || met s i n k) f)))
    (cases_Bool (eqb (iterate n s.follower i) k))

-- whether a slot is the lowest of its round, by its mark
opens_by : (h : Bool) (l i m : ℕ) → (h ≡ true → l ≤ i) → m ≡ indicator (h && ltb l i) → (h && eqb m 0) ≡ (h && eqb l i)
opens_by false l i m g e = refl
opens_by true l i m g e = let u : l ≤ i = g refl in ⊎_elim (λ a. ⊎_elim (λ b. a ∙ sym b) (λ b. absurd (grind (arith, nat_tests))) (cases_Bool (eqb l i)))
    (λ a. ⊎_elim (λ b. absurd (grind (arith, nat_tests))) (λ b. a ∙ sym b) (cases_Bool (eqb l i))) (cases_Bool (eqb m 0))

pub opens_is : (s : Strip) → Turned s → (i m : ℕ) → i < s.slots → m ≡ indicator (home s i && ltb (low s i) i) → (home s i && eqb m 0) ≡ opens s i
opens_is s t i m h e = opens_by (home s i) (low s i) i m (λ u. low_under s t i h u 0) e

marked_more : (h : Bool) (l i m : ℕ) → m ≡ indicator (h && ltb l i) → cond (h && eqb l i) 1 m ≡ indicator (h && ltb l (i + 1))
marked_more false l i m e = e
marked_more true l i m e = ⊎_elim (λ a. grind (arith, nat_tests)) (λ a. ⊎_elim (λ b. grind (arith, nat_tests)) (λ b. grind (arith, nat_tests)) (cases_Bool (ltb l i))) (cases_Bool (eqb l i))

marked_same : (h : Bool) (l i m : ℕ) → (h && eqb l i) ≡ false → m ≡ indicator (h && ltb l i) → m ≡ indicator (h && ltb l (i + 1))
marked_same h l i m f e = sym (cond-false (h && eqb l i) 1 m f) ∙ marked_more h l i m e

-- the marks of all rounds with a lowest slot below i, and then below i + 1
module _ (s : Strip) (t : Turned s) (i : ℕ) (h : i < s.slots) where
  pub round_marked : opens s i ≡ true → (k m m' : ℕ) → k < s.slots → m ≡ indicator (home s k && ltb (low s k) i) → m' ≡ cond (met s i s.slots k) 1 m
      → m' ≡ indicator (home s k && ltb (low s k) (i + 1))
  round_marked o k m m' g e p =
      let u : home s i ≡ true = grind arith in
      let v : low s i ≡ i = eqb-true (low s i) i (subst (λ b. (b && eqb (low s i) i) ≡ true) u o) in
      p ∙ ap (λ b. cond b 1 m) (met_is s t i k h u v g) ∙ marked_more (home s k) (low s k) i m e

  pub round_skipped : opens s i ≡ false → (k m : ℕ) → k < s.slots → m ≡ indicator (home s k && ltb (low s k) i) → m ≡ indicator (home s k && ltb (low s k) (i + 1))
  round_skipped o k m g e = marked_same (home s k) (low s k) i m (⊎_elim never (λ f. f) (cases_Bool (home s k && eqb (low s k) i))) e
    where
      eqb_same : (a b : ℕ) → a ≡ b → eqb a b ≡ true
      eqb_same a b q = grind (arith, nat_tests)

      never : (home s k && eqb (low s k) i) ≡ true → (home s k && eqb (low s k) i) ≡ false
      never b =
          let u : home s k ≡ true = grind arith in
          let v : low s k ≡ i = eqb-true (low s k) i (subst (λ x. (x && eqb (low s k) i) ≡ true) u b) in
          let r = low_slot s t k g u in
          let a : home s i ≡ true = subst (λ x. home s x ≡ true) v r.1 in
          let c : low s i ≡ i = ap (low s) (sym v) ∙ r.2 ∙ v in
          absurd (bool_apart (opens s i) (ap (λ x. x && eqb (low s i) i) a ∙ eqb_same (low s i) i c) o)

pub iterate_more : (f : ℕ → ℕ) (n x : ℕ) → iterate (n + 1) f x ≡ f (iterate n f x)
iterate_more f n x = rw add-one refl

pub nothing_below : (h : Bool) (l : ℕ) → 0 ≡ indicator (h && ltb l 0)
nothing_below true l = grind (arith, nat_tests)
nothing_below false l = refl
