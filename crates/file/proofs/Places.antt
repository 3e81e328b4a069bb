-- The steps of a loop that looks for the first bad place.
use Rattle.std.proofs.Common.{◌≡◌, ℕ, zero, suc, ◌+◌, ◌-◌, ◌<◌, ◌≤◌, Bool, true, false, cond, not, ◌||◌, List, [], ◌∷◌, Some, None, Ok, Err, Option, sym, refl, ap, ◌∙◌, subst, ⊎_elim, add-one, arith}
use Rattle.std.proofs.lemmas.Bool.{cond-true, cond-false, cases_order, cases_Bool, or_left, or_right}
use Rattle.std.specs.Option.{is_some}
use Rattle.flat.specs.Orbits.{indicator}
use Rattle.file.specs.Places.{first_bad, sum_below, count_below, any_below, answered, at, first_from, first_of}

pub sum_more : (f : ℕ → ℕ) (k : ℕ) → sum_below f (k + 1) ≡ sum_below f k + f k
sum_more f k = rw add-one refl

left_is : (k n : ℕ) → k < n → n - k ≡ suc (n - (k + 1))
left_is k n h = omega arith

pub bad_next : (good : ℕ → Bool) (k n : ℕ) → k < n → good k ≡ true → first_bad good k (n - k) ≡ first_bad good (k + 1) (n - (k + 1))
bad_next good k n h e =
    ap (first_bad good k) (left_is k n h) ∙ cond-true (good k) (first_bad good (suc k) (n - (k + 1))) (Some k) e ∙ ap (λ m. first_bad good m (n - (k + 1))) (sym (add-one k))

pub bad_here : (good : ℕ → Bool) (k n : ℕ) → k < n → good k ≡ false → first_bad good k (n - k) ≡ Some k
bad_here good k n h e =
    ap (first_bad good k) (left_is k n h) ∙ cond-false (good k) (first_bad good (suc k) (n - (k + 1))) (Some k) e

pub bad_none : (good : ℕ → Bool) (k n : ℕ) → n ≤ k → first_bad good k (n - k) ≡ None
bad_none good k n h = let e : n - k ≡ 0 = omega arith in ap (first_bad good k) e

-- the other form: all before are good
bad_from : (good : ℕ → Bool) (a n k : ℕ) → a ≤ k → k < a + n → ((i : ℕ) → i < k → good i ≡ true) → good k ≡ false → first_bad good a n ≡ Some k
bad_from good a zero k low high before here = absurd (omega arith)
bad_from good a (suc n) k low high before here =
    ⊎_elim
    (λ e. cond-false (good a) (first_bad good (suc a) n) (Some a) (subst (λ m. good m ≡ false) (sym e) here) ∙ ap Some e)
    (⊎_elim
    (λ l. cond-true (good a) (first_bad good (suc a) n) (Some a) (before a l)
    ∙ bad_from good (suc a) n k (omega arith) (omega arith) before here)
    (λ l. absurd (omega arith)))
    (cases_order a k)

pub first_bad_is : (good : ℕ → Bool) (n k : ℕ) → k < n → ((i : ℕ) → i < k → good i ≡ true) → good k ≡ false → first_bad good 0 n ≡ Some k
first_bad_is good n k h before here = bad_from good 0 n k (omega arith) (omega arith) before here

none_from : (good : ℕ → Bool) (a n : ℕ) → ((i : ℕ) → i < a + n → good i ≡ true) → first_bad good a n ≡ None
none_from good a zero all = refl
none_from good a (suc n) all =
    cond-true (good a) (first_bad good (suc a) n) (Some a) (all a (omega arith)) ∙ none_from good (suc a) n (λ i h. all i (omega arith))

pub first_bad_none : (good : ℕ → Bool) (n : ℕ) → ((i : ℕ) → i < n → good i ≡ true) → first_bad good 0 n ≡ None
first_bad_none good n all = none_from good 0 n (λ i h. all i (omega arith))

pub fault_some : {F A : Type 0} (f : ℕ → F) (v : A) (o : Option ℕ) (k : ℕ) → o ≡ Some k → Err (f k) ≡ answered (at f o) v
fault_some f v o k e = ap (λ p. answered (at f p) v) (sym e)

pub fault_none : {F A : Type 0} (f : ℕ → F) (v : A) (o : Option ℕ) → o ≡ None → Ok v ≡ answered (at f o) v
fault_none f v o e = ap (λ p. answered (at f p) v) (sym e)

pub sum_mono : (f : ℕ → ℕ) (i n : ℕ) → i ≤ n → sum_below f i ≤ sum_below f n
sum_mono f i zero h = let e : i ≡ 0 = omega arith in subst (λ k. sum_below f k ≤ 0) (sym e) (omega arith)
sum_mono f i (suc n) h =
    ⊎_elim
    (λ e. subst (λ k. sum_below f k ≤ sum_below f (suc n)) (sym e) (omega arith))
    (⊎_elim (λ l. let r : sum_below f i ≤ sum_below f n = sum_mono f i n (omega arith) in omega arith) (λ l. absurd (omega arith)))
    (cases_order i (suc n))

-- the end of place j lies within the whole
pub sum_within : (f : ℕ → ℕ) (j n : ℕ) → j < n → sum_below f j + f j ≤ sum_below f n
sum_within f j n h = sum_mono f (suc j) n (omega arith)

-- the first fault of a place: all before have none
fault_from : {F : Type 0} (f : ℕ → Option F) (a n k : ℕ) (x : F) → a ≤ k → k < a + n → ((i : ℕ) → i < k → f i ≡ None) → f k ≡ Some x → first_from f a n ≡ Some x
fault_from f a zero k x low high before here = absurd (omega arith)
fault_from f a (suc n) k x low high before here =
    ⊎_elim
    (λ e. ap (λ o. first_of (o ∷ (first_from f (suc a) n ∷ []))) (ap f e ∙ here))
    (⊎_elim
    (λ l. ap (λ o. first_of (o ∷ (first_from f (suc a) n ∷ []))) (before a l)
    ∙ ap (λ o. first_of (o ∷ [])) (fault_from f (suc a) n k x (omega arith) (omega arith) before here))
    (λ l. absurd (omega arith)))
    (cases_order a k)

pub first_fault_is : {F : Type 0} (f : ℕ → Option F) (n k : ℕ) (x : F) → k < n → ((i : ℕ) → i < k → f i ≡ None) → f k ≡ Some x → first_from f 0 n ≡ Some x
first_fault_is f n k x h before here = fault_from f 0 n k x (omega arith) (omega arith) before here

no_fault_from : {F : Type 0} (f : ℕ → Option F) (a n : ℕ) → ((i : ℕ) → i < a + n → f i ≡ None) → first_from f a n ≡ None
no_fault_from f a zero all = refl
no_fault_from f a (suc n) all =
    ap (λ o. first_of (o ∷ (first_from f (suc a) n ∷ []))) (all a (omega arith))
    ∙ ap (λ o. first_of (o ∷ [])) (no_fault_from f (suc a) n (λ i h. all i (omega arith)))

pub first_fault_none : {F : Type 0} (f : ℕ → Option F) (n : ℕ) → ((i : ℕ) → i < n → f i ≡ None) → first_from f 0 n ≡ None
first_fault_none f n all = no_fault_from f 0 n (λ i h. all i (omega arith))

-- what an answer tells of the question
pub question_some : {F A : Type 0} (o : Option F) (v : A) (x : F) → Err x ≡ answered o v → o ≡ Some x
question_some None v x e = cc
question_some (Some f) v x e = cc

pub answer_none : {F A : Type 0} (o : Option F) (v : A) → o ≡ None → Ok v ≡ answered o v
answer_none o v e = ap (λ p. answered p v) (sym e)

pub answer_some : {F A : Type 0} (o : Option F) (v : A) (x : F) → o ≡ Some x → Err x ≡ answered o v
answer_some o v x e = ap (λ p. answered p v) (sym e)

-- what holds where no place is bad
pub good_below : (good : ℕ → Bool) (a n : ℕ) → first_bad good a n ≡ None → (i : ℕ) → a ≤ i → i < a + n → good i ≡ true
good_below good a zero e i low high = absurd (omega arith)
good_below good a (suc n) e i low high =
    ⊎_elim
    (λ t.
    ⊎_elim
    (λ q. subst (λ k. good k ≡ true) q t)
    (⊎_elim
    (λ l. good_below good (suc a) n (sym (cond-true (good a) (first_bad good (suc a) n) (Some a) t) ∙ e) i (omega arith) (omega arith))
    (λ l. absurd (omega arith)))
    (cases_order a i))
    (λ t. let z : ◌≡◌ {A = Option ℕ} (Some a) None = sym (cond-false (good a) (first_bad good (suc a) n) (Some a) t) ∙ e in
    let y : ◌≡◌ {A = ℕ} 0 1 = cc in absurd (omega arith))
    (cases_Bool (good a))

none_below_step : {F : Type 0} (o : Option F) (rest : Option F) → first_of (o ∷ (rest ∷ [])) ≡ None → (o ≡ None) × (rest ≡ None)
none_below_step None None e = (refl, refl)
none_below_step None (Some x) e = let y : ◌≡◌ {A = ℕ} 0 1 = cc in absurd (omega arith)
none_below_step (Some x) rest e = let y : ◌≡◌ {A = ℕ} 0 1 = cc in absurd (omega arith)

pub none_below : {F : Type 0} (f : ℕ → Option F) (a n : ℕ) → first_from f a n ≡ None → (i : ℕ) → a ≤ i → i < a + n → f i ≡ None
none_below f a zero e i low high = absurd (omega arith)
none_below f a (suc n) e i low high =
    let s = none_below_step (f a) (first_from f (suc a) n) e in
    ⊎_elim
    (λ q. subst (λ k. f k ≡ None) q s.0)
    (⊎_elim (λ l. none_below f (suc a) n s.1 i (omega arith) (omega arith)) (λ l. absurd (omega arith)))
    (cases_order a i)

pub place_none : {F : Type 0} (f : ℕ → F) (o : Option ℕ) → at f o ≡ None → o ≡ None
place_none f None e = refl
place_none f (Some k) e = let y : ◌≡◌ {A = ℕ} 0 1 = cc in absurd (omega arith)

-- a verdict whose first question finds a fault, and one whose first question finds none
pub verdict_some : {G F A : Type 0} (f : G → F) (o : Option G) (rest : List (Option F)) (v : A) (x : G) → o ≡ Some x → Err (f x) ≡ answered (first_of (at f o ∷ rest)) v
verdict_some f o rest v x e = ap (λ p. answered (first_of (at f p ∷ rest)) v) (sym e)

pub verdict_none : {G F A : Type 0} (f : G → F) (o : Option G) (rest : List (Option F)) (v : A) → o ≡ None → answered (first_of rest) v ≡ answered (first_of (at f o ∷ rest)) v
verdict_none f o rest v e = ap (λ p. answered (first_of (at f p ∷ rest)) v) (sym e)

pub ok_none : {F A : Type 0} (o : Option F) (u v : A) → Ok u ≡ answered o v → o ≡ None
ok_none None u v e = refl
ok_none (Some f) u v e = cc

pub ok_same : {F A : Type 0} (o : Option F) (u v : A) → Ok u ≡ answered o v → u ≡ v
ok_same None u v e = cc
ok_same (Some f) u v e = let y : ◌≡◌ {A = ℕ} 0 1 = cc in absurd (omega arith)

pub answer_same : {F A : Type 0} (o : Option F) (u v : A) → o ≡ None → u ≡ v → Ok u ≡ answered o v
answer_same o u v e p = ap Ok p ∙ ap (λ q. answered q v) (sym e)

pub once_right : {F : Type 0} (f : ℕ → F) (b : Bool) → b ≡ true → at f (cond b None (Some 0)) ≡ None
once_right f b e = ap (λ x. at f (cond x None (Some 0))) e

-- ---- some place below n
pub any_more : (p : ℕ → Bool) (k : ℕ) → any_below p (k + 1) ≡ (p k || any_below p k)
any_more p k = rw add-one refl

pub none_more : (p : ℕ → Bool) (k : ℕ) → any_below p k ≡ false → p k ≡ false → any_below p (k + 1) ≡ false
none_more p k e h = any_more p k ∙ ap (λ x. x || any_below p k) h ∙ e

pub any_here : (p : ℕ → Bool) (k n : ℕ) → k < n → p k ≡ true → any_below p n ≡ true
any_here p k zero h e = absurd (omega arith)
any_here p k (suc n) h e =
    ⊎_elim
    (λ q. or_left (p n) (any_below p n) (subst (λ m. p m ≡ true) q e))
    (⊎_elim (λ l. or_right (p n) (any_below p n) (any_here p k n l e)) (λ l. absurd (omega arith)))
    (cases_order k n)

pub none_any : (p : ℕ → Bool) (n : ℕ) → ((i : ℕ) → i < n → p i ≡ false) → any_below p n ≡ false
none_any p zero all = refl
none_any p (suc n) all = ap (λ x. x || any_below p n) (all n (omega arith)) ∙ none_any p n (λ i h. all i (omega arith))

pub any_none : (p : ℕ → Bool) (n : ℕ) → any_below p n ≡ false → (i : ℕ) → i < n → p i ≡ false
any_none p n e i h = ⊎_elim (λ t. let f : ◌≡◌ {A = Bool} true false = sym (any_here p i n h t) ∙ e in absurd (true_false f)) (λ f. f) (cases_Bool (p i))
  where
    true_false : ◌≡◌ {A = Bool} true false → ⊥
    true_false e = let y : ◌≡◌ {A = ℕ} 0 1 = cc in omega arith

pub any_where : (p : ℕ → Bool) (n : ℕ) → any_below p n ≡ true → (i : ℕ) × (i < n) × (p i ≡ true)
any_where p zero e = let y : ◌≡◌ {A = ℕ} 0 1 = cc in absurd (omega arith)
any_where p (suc n) e = ⊎_elim (λ t. (n, omega arith, t)) (λ f. up (any_where p n (sym (ap (λ x. x || any_below p n) f) ∙ e))) (cases_Bool (p n))
  where
    up : (i : ℕ) × (i < n) × (p i ≡ true) → (i : ℕ) × (i < suc n) × (p i ≡ true)
    up r = let l : r.0 < n = r.1 in (r.0, omega arith, r.2)

-- some place passes a test where one is the first to fail its negation
pub some_each : (p : ℕ → Bool) (n : ℕ) (o : Option ℕ) → o ≡ first_bad (λ m. not (p m)) 0 n → is_some o ≡ any_below p n
some_each p n None e = sym (none_any p n (λ i h. not_true (p i) (good_below (λ m. not (p m)) 0 n (sym e) i (omega arith) (omega arith))))
  where
    not_true : (b : Bool) → not b ≡ true → b ≡ false
    not_true b h = grind arith
some_each p n (Some k) e = ⊎_elim
    (λ t. sym t)
    (λ f. let z : ◌≡◌ {A = Option ℕ} (Some k) None = e ∙ first_bad_none (λ m. not (p m)) n (λ i h. ap not (any_none p n f i h)) in
    let y : ◌≡◌ {A = ℕ} 0 1 = cc in absurd (omega arith))
    (cases_Bool (any_below p n))

pub none_each : (p : ℕ → Bool) (n : ℕ) (o : Option ℕ) (b : Bool) → is_some o ≡ not b → o ≡ first_bad (λ m. not (p m)) 0 n → b ≡ not (any_below p n)
none_each p n o b h e = flipped (is_some o) b (any_below p n) h (some_each p n o e)
  where
    flipped : (a b c : Bool) → a ≡ not b → a ≡ c → b ≡ not c
    flipped a b c h e = grind arith

pub count_more : (p : ℕ → Bool) (k : ℕ) → count_below p (k + 1) ≡ indicator (p k) + count_below p k
count_more p k = rw add-one refl

pub bool_apart : (b : Bool) → b ≡ true → b ≡ false → ⊥
bool_apart b p q = let z : ◌≡◌ {A = ℕ} 0 1 = cc in omega arith

-- ---- a list of questions
pub skip : {F : Type 0} (o : Option F) (rest : List (Option F)) → o ≡ None → first_of (o ∷ rest) ≡ first_of rest
skip o rest e = ap (λ p. first_of (p ∷ rest)) e

pub stop : {F : Type 0} (o : Option F) (rest : List (Option F)) (x : F) → o ≡ Some x → first_of (o ∷ rest) ≡ Some x
stop o rest x e = ap (λ p. first_of (p ∷ rest)) e

pub both_none : {F : Type 0} (o : Option F) (rest : List (Option F)) → first_of (o ∷ rest) ≡ None → (o ≡ None) × (first_of rest ≡ None)
both_none None rest e = (refl, e)
both_none (Some x) rest e = let y : ◌≡◌ {A = ℕ} 0 1 = cc in absurd (omega arith)

pub last_one : {F : Type 0} (o : Option F) → first_of (o ∷ []) ≡ o
last_one None = refl
last_one (Some x) = refl

-- a question asked of n places and answered yes holds at each
pub each_good : {F : Type 0} (f : ℕ → F) (n : ℕ) (good : ℕ → Bool) → at f (first_bad good 0 n) ≡ None → (i : ℕ) → i < n → good i ≡ true
each_good f n good e i h = good_below good 0 n (place_none f (first_bad good 0 n) e) i (omega arith) (omega arith)

-- a question that is answered yes, of each place
pub asked_good : {F A : Type 0} (f : ℕ → F) (n : ℕ) (good : ℕ → Bool) (u v : A) → Ok u ≡ answered (at f (first_bad good 0 n)) v → (i : ℕ) → i < n → good i ≡ true
asked_good f n good u v e = each_good f n good (ok_none (at f (first_bad good 0 n)) u v e)
