-- The vertices of a strip in the line, by name, and question 16 asked of them. Assumes nothing.
use Rattle.std.proofs.Common.{◌≡◌, ℕ, zero, suc, ◌+◌, ◌<◌, ◌≤◌, Bool, true, false, cond, not, ◌&&◌, ◌||◌, eqb, ltb, List, length, get_or, set, replicate, ℤ, pos, negsuc, neg_ℤ, Some, None, Option, sym, refl, ap, ◌∙◌, subst, ⊎_elim, add-one, arith}
use lib.Signed.{lt_z}
use Rattle.std.proofs.lemmas.Bool.{cases_Bool, cases_eq, cases_order, eqb-true, eqb-false}
use Rattle.std.proofs.lemmas.List.{get_or-set_same, get_or-set_other, get_or-replicate}
use Rattle.std.proofs.lemmas.Bool.Decides.{nat_tests}
use Rattle.std.specs.Option.{is_some}
use Rattle.flat.specs.Orbits.{iterate, indicator}
use Rattle.flat.specs.Whole.{equal}
use Rattle.turning.specs.Limits.{max_edge, line_for}
use Rattle.chart.specs.Points.{west}
use Rattle.file.specs.Judged.{Judged}
use Rattle.file.specs.Layout.{strip}
use Rattle.file.specs.Places.{any_below, count_below}
use Rattle.file.specs.Questions.{named, positive, wrong_way, west_first}
use Rattle.file.specs.Strips.{Strip, home, names, low, opens, rounds, vertex, start, met, Turned}
use Rattle.file.proofs.Places.{any_more, any_here, any_where, none_any, any_none, bool_apart}
use Rattle.file.proofs.Walking.{low_under, low_slot, met_is}
use Rattle.strip_questions.proofs.Marks.{equal_true, equal_same}
use Rattle.strip_questions.proofs.Rounding.{opens_is, round_skipped}
use Rattle.seam_questions.specs.Vertices.{Sound, line_at, slot_at, stored, vertex_at, vertex_below, NumberedBelow, Numbered, westward}

-- ---- places
at_least : (e : ℕ) → named max_edge (pos e) ≡ true → 1 ≤ e
at_least e h = grind (arith, nat_tests)

at_most : (e : ℕ) → named max_edge (pos e) ≡ true → e ≤ max_edge
at_most e h = grind (arith, nat_tests)

within_neg : (e : ℕ) → named max_edge (negsuc e) ≡ true → suc e ≤ max_edge
within_neg e h = grind (arith, nat_tests)

pub line_within : (z : ℤ) → named max_edge z ≡ true → line_at max_edge z < line_for max_edge
line_within (pos n) h = omega (arith, at_least n h, at_most n h)
line_within (negsuc n) h = omega arith

line_apart : (a b : ℤ) → named max_edge a ≡ true → named max_edge b ≡ true → line_at max_edge a ≡ line_at max_edge b → a ≡ b
line_apart (pos a) (pos b) g h e = ap pos (omega (arith, at_least a g, at_least b h))
line_apart (pos a) (negsuc b) g h e = absurd (omega (arith, within_neg b h))
line_apart (negsuc a) (pos b) g h e = absurd (omega (arith, within_neg a g))
line_apart (negsuc a) (negsuc b) g h e = ap negsuc (omega (arith, within_neg a g, within_neg b h))

eqb_same : (a b : ℕ) → a ≡ b → eqb a b ≡ true
eqb_same a b e = grind (arith, nat_tests)

first_not : (a b : Bool) → (not a && b) ≡ true → a ≡ false
first_not a b e = grind arith

second_is : (a b : Bool) → (not a && b) ≡ true → b ≡ true
second_is a b e = grind arith

module _ (s : Strip) (good : Sound s) where
  earlier : (k m : ℕ) → k < m → m < s.slots → s.name k ≡ s.name m → ⊥
  earlier k m l h e =
      let n : names s m (s.name m) ≡ false = first_not (names s m (s.name m)) (names s s.slots (neg_ℤ (s.name m))) (good.pairs m h) in
      bool_apart (equal (s.name k) (s.name m)) (equal_same (s.name k) (s.name m) e) (any_none (λ q. equal (s.name q) (s.name m)) m n k l)

  -- two slots of a strip have two names
  pub names_apart : (k m : ℕ) → k < s.slots → m < s.slots → s.name k ≡ s.name m → k ≡ m
  names_apart k m g h e = ⊎_elim (λ q. q) (⊎_elim (λ l. absurd (earlier k m l h e)) (λ l. absurd (earlier m k l g (sym e)))) (cases_order k m)

  slots_apart : (k m : ℕ) → k < s.slots → m < s.slots → slot_at s k ≡ slot_at s m → k ≡ m
  slots_apart k m g h e = names_apart k m g h (line_apart (s.name k) (s.name m) (good.named k g) (good.named m h) e)

  -- one more slot of the walk gets the vertex v
  pub met_put : (l old : List ℤ) (i n v : ℕ) → iterate n s.follower i < s.slots → length l ≡ line_for max_edge
      → ((k : ℕ) → k < s.slots → vertex_at l (slot_at s k) ≡ cond (met s i n k) (Some v) (vertex_at old (slot_at s k)))
      → (k : ℕ) → k < s.slots → vertex_at (set l (slot_at s (iterate n s.follower i)) (pos (v + 1))) (slot_at s k) ≡ cond (met s i (n + 1) k) (Some v) (vertex_at old (slot_at s k))
  met_put l old i n v w long before k h =
      ⊎_elim
      (λ t.
      let e : iterate n s.follower i ≡ k = eqb-true (iterate n s.follower i) k t in
      let u : slot_at s (iterate n s.follower i) < length l = omega (arith, line_within (s.name (iterate n s.follower i)) (good.named (iterate n s.follower i) w)) in
      ap (λ j. vertex_at (set l (slot_at s (iterate n s.follower i)) (pos (v + 1))) (slot_at s j)) (sym e)
      ∙ ap stored (get_or-set_same l (slot_at s (iterate n s.follower i)) (pos (v + 1)) (pos 0) u) ∙ ap (λ x. stored (pos x)) (add-one v)
      ∙ sym (ap (λ b. cond b (Some v) (vertex_at old (slot_at s k))) (any_more (λ q. eqb (iterate q s.follower i) k) n ∙ ap (λ b. b || met s i n k) t)))
      (λ f.
      let d : iterate n s.follower i ≡ k → ⊥ = eqb-false (iterate n s.follower i) k f in
      ap stored (get_or-set_other l (slot_at s (iterate n s.follower i)) (slot_at s k) (pos (v + 1)) (pos 0) (λ e. d (sym (slots_apart k (iterate n s.follower i) h w e)))) ∙ before k h
      ∙ sym (ap (λ b. cond b (Some v) (vertex_at old (slot_at s k))) (any_more (λ q. eqb (iterate q s.follower i) k) n ∙ ap (λ b. b || met s i n k) f)))
      (cases_Bool (eqb (iterate n s.follower i) k))

-- ---- rounds one after the other
below_more : (h : Bool) (l i v w : ℕ) (o : Option ℕ) → (l ≡ i → w ≡ v) → o ≡ cond (h && ltb l i) (Some w) None → cond (h && eqb l i) (Some v) o ≡ cond (h && ltb l (i + 1)) (Some w) None
below_more false l i v w o f e = e
below_more true l i v w o f e = ⊎_elim
    (λ t.
    let q : l ≡ i = eqb-true l i t in
    let u : ltb l (i + 1) ≡ true = grind (arith, nat_tests) in
    ap (λ b. cond b (Some v) o) t ∙ ap Some (sym (f q)) ∙ sym (ap (λ b. cond b (Some w) None) u))
    (λ g.
    let u : ltb l i ≡ ltb l (i + 1) = same_below l i g in
    ap (λ b. cond b (Some v) o) g ∙ e ∙ ap (λ b. cond b (Some w) None) u)
    (cases_Bool (eqb l i))
  where
    same_below : (l i : ℕ) → eqb l i ≡ false → ltb l i ≡ ltb l (i + 1)
    same_below l i g = ⊎_elim (λ b. let c : ltb l (i + 1) ≡ true = grind (arith, nat_tests) in b ∙ sym c) (λ b. let c : ltb l (i + 1) ≡ false = grind (arith, nat_tests) in b ∙ sym c) (cases_Bool (ltb l i))

vertex_is : (s : Strip) (k i v : ℕ) → v ≡ count_below (opens s) i → low s k ≡ i → vertex s k ≡ v
unfolding vertex
vertex_is s k i v e q = ap (count_below (opens s)) q ∙ sym e

indicator_same : (a b : Bool) → indicator a ≡ indicator b → a ≡ b
indicator_same true true e = refl
indicator_same true false e = absurd (omega arith)
indicator_same false true e = absurd (omega arith)
indicator_same false false e = refl

turned_round : (a b : Bool) → a ≡ not b → b ≡ not a
turned_round a b e = grind arith

module _ (s : Strip) (t : Turned s) (i : ℕ) (h : i < s.slots) where
  pub round_numbered : opens s i ≡ true → (v : ℕ) → v ≡ count_below (opens s) i → (k : ℕ) (o o' : Option ℕ) → k < s.slots → o ≡ vertex_below s i k
      → o' ≡ cond (met s i s.slots k) (Some v) o → o' ≡ vertex_below s (i + 1) k
  round_numbered p v c k o o' g e q =
      let u : home s i ≡ true = grind arith in
      let w : low s i ≡ i = eqb-true (low s i) i (subst (λ b. (b && eqb (low s i) i) ≡ true) u p) in
      q ∙ ap (λ b. cond b (Some v) o) (met_is s t i k h u w g) ∙ below_more (home s k) (low s k) i v (vertex s k) o (vertex_is s k i v c) e

  pub round_passed : opens s i ≡ false → (k : ℕ) → k < s.slots → vertex_below s i k ≡ vertex_below s (i + 1) k
  round_passed p k g = ap (λ b. cond b (Some (vertex s k)) None)
      (indicator_same _ _ (round_skipped s t i h p k (indicator (home s k && ltb (low s k) i)) g refl))

  opens_by : (x : Bool) → (home s i && ltb (low s i) i) ≡ x → (home s i && eqb (indicator x) 0) ≡ opens s i
  opens_by x e = opens_is s t i (indicator x) h (ap indicator (sym e))

  pub opens_not : (v : ℕ) → Some v ≡ vertex_below s i i → false ≡ opens s i
  opens_not v e = and_false (home s i) ∙ opens_by true (cond_some _ _ e)
    where
      cond_some : (b : Bool) (w : ℕ) → Some v ≡ cond b (Some w) None → b ≡ true
      cond_some true w q = refl
      cond_some false w q = let z : ◌≡◌ {A = ℕ} 0 1 = cc in absurd (omega arith)

      and_false : (b : Bool) → false ≡ (b && false)
      and_false true = refl
      and_false false = refl

  pub opens_home : None ≡ vertex_below s i i → home s i ≡ opens s i
  opens_home e = and_true (home s i) ∙ opens_by false (cond_none _ _ e)
    where
      cond_none : (b : Bool) (w : ℕ) → None ≡ cond b (Some w) None → b ≡ false
      cond_none true w q = let z : ◌≡◌ {A = ℕ} 0 1 = cc in absurd (omega arith)
      cond_none false w q = refl

      and_true : (b : Bool) → b ≡ (b && true)
      and_true true = refl
      and_true false = refl

  pub opens_asked : (o : Option ℕ) → o ≡ vertex_below s i i → (b : Bool) → home s i ≡ true → is_some o ≡ not b → b ≡ opens s i
  opens_asked (Some v) e b h n = turned_round true b n ∙ opens_not v e
  opens_asked None e b h n = turned_round false b n ∙ sym h ∙ opens_home e

-- nothing is numbered yet
pub none_numbered : (s : Strip) → Sound s → (l : List ℤ) → length l ≡ line_for max_edge → l ≡ replicate (length l) (pos 0) → NumberedBelow s 0 l
none_numbered s good l long clean k h =
    let w : slot_at s k < length l = omega (arith, line_within (s.name k) (good.named k h)) in
    ap stored (ap (λ m. get_or m (slot_at s k) (pos 0)) clean ∙ get_or-replicate (length l) (slot_at s k) (pos 0) (pos 0) w)
    ∙ nothing (home s k) (low s k) (vertex s k)
  where
    nothing : (b : Bool) (n v : ℕ) → None ≡ cond (b && ltb n 0) (Some v) None
    nothing true n v = let e : ltb n 0 ≡ false = grind (arith, nat_tests) in sym (ap (λ b. cond b (Some v) None) e)
    nothing false n v = refl

-- all are numbered
pub all_numbered : (s : Strip) → Sound s → (l : List ℤ) (i : ℕ) → i ≡ s.slots → NumberedBelow s i l → Numbered s l
all_numbered s good l i e before k h = before k h ∙ ⊎_elim
    (λ u.
    let m : low s k ≤ k = low_under s good.turned k h u 0 in
    let t : ltb (low s k) i ≡ true = under (low s k) i (omega arith) in
    ap (λ b. cond (b && ltb (low s k) i) (Some (vertex s k)) None) u ∙ ap (λ b. cond b (Some (vertex s k)) None) (t ∙ sym u))
    (λ u. ap (λ b. cond (b && ltb (low s k) i) (Some (vertex s k)) None) u ∙ sym (ap (λ b. cond b (Some (vertex s k)) None) u))
    (cases_Bool (home s k))
  where
    under : (a b : ℕ) → a < b → ltb a b ≡ true
    under a b g = grind (arith, nat_tests)

-- ---- how many vertices there are
count_mono : (p : ℕ → Bool) (i n : ℕ) → i ≤ n → count_below p i ≤ count_below p n
count_mono p i zero h = let e : i ≡ 0 = omega arith in subst (λ k. count_below p k ≤ 0) (sym e) (omega arith)
count_mono p i (suc n) h = ⊎_elim
    (λ e. subst (λ k. count_below p k ≤ count_below p (suc n)) (sym e) (omega arith))
    (⊎_elim (λ l. let r = count_mono p i n (omega arith) in omega arith) (λ l. absurd (omega arith)))
    (cases_order i (suc n))

pub vertex_small : (s : Strip) → Sound s → (k : ℕ) → k < s.slots → home s k ≡ true → vertex s k < s.vertices
unfolding vertex rounds
vertex_small s good k h u =
    let r = low_slot s good.turned k h u in
    let o : opens s (low s k) ≡ true = ap (λ b. b && eqb (low s (low s k)) (low s k)) r.1 ∙ eqb_same (low s (low s k)) (low s k) r.2 in
    let c = count_mono (opens s) (suc (low s k)) s.slots r.0 in
    let one : indicator (opens s (low s k)) ≡ 1 = ap indicator o in
    omega (arith, good.round)

-- ---- question 16
pub below_one : (x z : ℤ) → x ≡ z → lt_z x (pos 1) ≡ true → positive z ≡ false
below_one x z q e = below z (subst (λ y. lt_z y (pos 1) ≡ true) q e)
  where
    below : (z : ℤ) → lt_z z (pos 1) ≡ true → positive z ≡ false
    below (pos n) e = grind (arith, nat_tests)
    below (negsuc n) e = refl

pub from_one : (x z : ℤ) → x ≡ z → lt_z x (pos 1) ≡ false → positive z ≡ true
from_one x z q e = from z (subst (λ y. lt_z y (pos 1) ≡ false) q e)
  where
    from : (z : ℤ) → lt_z z (pos 1) ≡ false → positive z ≡ true
    from (pos n) e = grind (arith, nat_tests)
    from (negsuc n) e = absurd (grind arith)

any_one : (p : ℕ → Bool) (m n : ℕ) → m < n → ((k : ℕ) → k < n → (k ≡ m → ⊥) → p k ≡ false) → any_below p n ≡ p m
any_one p m n h others = ⊎_elim
    (λ t. any_here p m n h t ∙ sym t)
    (λ f. none_any p n (λ k g. ⊎_elim (λ e. ap p e ∙ f) (others k g) (cases_eq k m)) ∙ sym f)
    (cases_Bool (p m))

off : (h e w : Bool) → e ≡ false → ((h && e) && w) ≡ false
off h e w q = grind arith

module _ (s : Strip) (good : Sound s) (i : ℕ) (h : i < s.slots) where
  wrong_at : (m : ℕ) → m < s.slots → s.name m ≡ neg_ℤ (s.name i) → any_below (wrong_way s i) s.slots ≡ wrong_way s i m
  wrong_at m g e = any_one (wrong_way s i) m s.slots g (λ k l d. off (home s k) (equal (s.name k) (neg_ℤ (s.name i))) (not (west (start s i) (start s k))) (other k l d))
    where
      other : (k : ℕ) → k < s.slots → (k ≡ m → ⊥) → equal (s.name k) (neg_ℤ (s.name i)) ≡ false
      other k l d = ⊎_elim (λ t. absurd (d (names_apart s good k m l g (equal_true (s.name k) (neg_ℤ (s.name i)) t ∙ sym e)))) (λ f. f) (cases_Bool (equal (s.name k) (neg_ℤ (s.name i))))

  told_by : (a b p e w : Bool) (x y : ℕ) → p ≡ true → e ≡ true → w ≡ west (s.point x) (s.point y)
      → not ((a && p) && ((b && e) && not w)) ≡ westward s (cond a (Some x) None) (cond b (Some y) None)
  told_by true true p e w x y q r v = ap (λ z. not (z && ((true && e) && not w))) q ∙ ap (λ z. not (z && not w)) r ∙ twice w ∙ v
    where
      twice : (z : Bool) → not (not z) ≡ z
      twice true = refl
      twice false = refl
  told_by true false p e w x y q r v = ap (λ z. not (z && false)) q
  told_by false b p e w x y q r v = refl

  pub west_by_line : (l : List ℤ) → Numbered s l → positive (s.name i) ≡ true → (a b : Option ℕ) → a ≡ vertex_at l (slot_at s i) → b ≡ vertex_at l (line_at max_edge (neg_ℤ (s.name i)))
      → westward s a b ≡ west_first s i
  west_by_line l numbered p a b d e =
      let y : names s s.slots (neg_ℤ (s.name i)) ≡ true = second_is (names s i (s.name i)) (names s s.slots (neg_ℤ (s.name i))) (good.pairs i h) in
      let r = any_where (λ k. equal (s.name k) (neg_ℤ (s.name i))) s.slots y in
      let m = r.0 in
      let q : s.name m ≡ neg_ℤ (s.name i) = equal_true (s.name m) (neg_ℤ (s.name i)) r.2 in
      let first : a ≡ cond (home s i) (Some (vertex s i)) None = d ∙ numbered i h in
      let second : b ≡ cond (home s m) (Some (vertex s m)) None = e ∙ ap (λ z. vertex_at l (line_at max_edge z)) (sym q) ∙ numbered m r.1 in
      ap (λ o. westward s o b) first ∙ ap (westward s (cond (home s i) (Some (vertex s i)) None)) second
      ∙ sym (told_by (home s i) (home s m) (positive (s.name i)) (equal (s.name m) (neg_ℤ (s.name i))) (west (start s i) (start s m)) (vertex s i) (vertex s m) p r.2 refl)
      ∙ ap (λ z. not ((home s i && positive (s.name i)) && z)) (sym (wrong_at m r.1 q))

  pub west_else : positive (s.name i) ≡ false → true ≡ west_first s i
  west_else e = sym (none (home s i) (positive (s.name i)) (any_below (wrong_way s i) s.slots) e)
    where
      none : (a p x : Bool) → p ≡ false → not ((a && p) && x) ≡ true
      none a p x q = grind arith

  -- a vertex in the line is one of the strip
  pub vertex_told : (l : List ℤ) → Numbered s l → (v : ℕ) → Some v ≡ vertex_at l (slot_at s i) → v < s.vertices
  vertex_told l numbered v e = ⊎_elim
      (λ u. let w : vertex s i ≡ v = same (vertex s i) (sym (e ∙ numbered i h ∙ ap (λ b. cond b (Some (vertex s i)) None) u)) in omega (arith, vertex_small s good i h u))
      (λ u. absurd (never (e ∙ numbered i h ∙ ap (λ b. cond b (Some (vertex s i)) None) u)))
      (cases_Bool (home s i))
    where
      same : (x : ℕ) → Some x ≡ Some v → x ≡ v
      same x q = cc

      never : Some v ≡ None → ⊥
      never q = let z : ◌≡◌ {A = ℕ} 0 1 = cc in omega arith

  pub against_told : (l : List ℤ) → Numbered s l → (v : ℕ) → Some v ≡ vertex_at l (line_at max_edge (neg_ℤ (s.name i)))
      → (m : ℕ) × (m < s.slots) × (Some v ≡ vertex_at l (slot_at s m))
  against_told l numbered v e =
      let y : names s s.slots (neg_ℤ (s.name i)) ≡ true = second_is (names s i (s.name i)) (names s s.slots (neg_ℤ (s.name i))) (good.pairs i h) in
      let r = any_where (λ k. equal (s.name k) (neg_ℤ (s.name i))) s.slots y in
      (r.0, r.1, e ∙ ap (λ z. vertex_at l (line_at max_edge z)) (sym (equal_true (s.name r.0) (neg_ℤ (s.name i)) r.2)))

-- a strip whose questions are answered yes, as it was lent
pub lent_sound : (b : List ℕ) (n j : ℕ) (s : Strip) → Judged b n → j < n → s ≡ strip b j → Sound s
lent_sound b n j s g h e = subst Sound (sym e) (record { named = g.named j h; pairs = g.pairs j h; turned = g.turned j h; round = g.round j h })
