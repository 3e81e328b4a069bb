-- The slots that line work takes are as many as a file has that tells it: both count the edges that run through the strips. Assumes nothing.
use Rattle.std.proofs.Common.{◌≡◌, ℕ, zero, suc, ◌+◌, ◌-◌, ◌*◌, ◌<◌, ◌≤◌, Bool, true, false, ◌&&◌, ◌||◌, eqb, leb, List, ℤ, pos, negsuc, sym, refl, ap, ◌∙◌, subst, ap₂, arith}
use Rattle.std.proofs.lemmas.Bool.{cond-true, cond-false, and_parts}
use Rattle.std.proofs.lemmas.Bool.Decides.{eqb_tells}
use Rattle.flat.specs.Orbits.{indicator}
use Rattle.flat.specs.Whole.{equal}
use Rattle.turning.proofs.Listed.{Named, held_named}
use Rattle.chart.specs.Linework.{Linework}
use Rattle.laws.specs.Keeps.{Sound}
use Rattle.laws.proofs.Equal.{tell}
use Rattle.strips.specs.Borders.{strip_count, home_strip, first_strip, last_strip, runs_through, slots_of, slots_taken}
use Rattle.strips.proofs.Cutting.{strip_low, strip_high}
use Rattle.strips.proofs.Gains.{held_on, not_held}
use Rattle.file.specs.Places.{sum_below}
use Rattle.file.specs.Strips.{Strip, names}
use Rattle.file.specs.Layout.{strips, strip, slots_in}
use Rattle.file.proofs.Places.{any_here, any_where}
use Rattle.told.specs.Tells.{TellsStrip, Tells}
use Rattle.told.proofs.TallySums.{sum_same, sum_none, sum_both, sum_swap, sum_at, sum_span}

-- what f gives of the two names of the edge e + 1
abbrev of_edge : (ℤ → ℕ) → ℕ → ℕ
of_edge f e = f (pos (suc e)) + f (negsuc e)

-- the sum of f over the names of the edges 1 to n
abbrev name_sum : (ℤ → ℕ) → ℕ → ℕ
name_sum f n = sum_below (of_edge f) n

-- ---- names, each once
name_both : (f g : ℤ → ℕ) (n : ℕ) → name_sum (λ h. f h + g h) n ≡ name_sum f n + name_sum g n
name_both f g n = sum_same (of_edge (λ h. f h + g h)) (λ e. of_edge f e + of_edge g e) n (λ e l. omega arith) ∙ sum_both (of_edge f) (of_edge g) n

name_same : (f g : ℤ → ℕ) (n : ℕ) → ((h : ℤ) → f h ≡ g h) → name_sum f n ≡ name_sum g n
name_same f g n e = sum_same (of_edge f) (of_edge g) n (λ i l. ap₂ (λ a b. a + b) (e (pos (suc i))) (e (negsuc i)))

-- one name is k
name_one : (k : ℤ) (n : ℕ) → Named n k → name_sum (λ h. indicator (equal k h)) n ≡ 1
name_one (pos zero) n r = absurd (omega arith)
name_one (pos (suc k)) n r = sum_same (of_edge (λ h. indicator (equal (pos (suc k)) h))) (λ e. indicator (eqb k e)) n (λ e l. let a = ap indicator (same e) in omega arith) ∙ sum_at k n (omega arith)
  where
    same : (e : ℕ) → eqb (suc k) (suc e) ≡ eqb k e
    same e = grind (arith, eqb_tells (suc k) (suc e), eqb_tells k e)
name_one (negsuc k) n r = sum_same (of_edge (λ h. indicator (equal (negsuc k) h))) (λ e. indicator (eqb k e)) n (λ e l. omega arith) ∙ sum_at k n (omega arith)

-- as many slots as names that stand in them
module _ (s : Strip) (n : ℕ) (once : (k m : ℕ) → k < s.slots → m < s.slots → s.name k ≡ s.name m → k ≡ m) (named : (k : ℕ) → k < s.slots → Named n (s.name k)) where
  -- the name of slot m stands in no lower slot
  new : (m : ℕ) → m < s.slots → names s m (s.name m) ≡ true → ⊥
  new m l t =
      let w = any_where (λ i. equal (s.name i) (s.name m)) m t in
      let low : w.0 < m = w.1 in
      let same : s.name w.0 ≡ s.name m = grind (arith, tell (s.name w.0) (s.name m), w.2) in
      let e = once w.0 m (omega arith) l same in
      omega arith

  apart_names : (m : ℕ) → m < s.slots → (h : ℤ) → indicator (names s (suc m) h) ≡ indicator (equal (s.name m) h) + indicator (names s m h)
  apart_names m l h = go (equal (s.name m) h) (names s m h) (λ p q. new m l (subst (λ k. names s m k ≡ true) (sym (is p)) q))
    where
      is : equal (s.name m) h ≡ true → s.name m ≡ h
      is p = grind (arith, tell (s.name m) h, p)

      go : (p q : Bool) → (p ≡ true → q ≡ true → ⊥) → indicator (p || q) ≡ indicator p + indicator q
      go true true off = absurd (off refl refl)
      go true false off = refl
      go false true off = refl
      go false false off = refl

  names_sum : (m : ℕ) → m ≤ s.slots → name_sum (λ h. indicator (names s m h)) n ≡ m
  names_sum zero l = sum_none (λ e. 0) n (λ e u. refl)
  names_sum (suc m) l =
      let a = name_same (λ h. indicator (names s (suc m) h)) (λ h. indicator (equal (s.name m) h) + indicator (names s m h)) n (apart_names m (omega arith)) in
      let b = name_both (λ h. indicator (equal (s.name m) h)) (λ h. indicator (names s m h)) n in
      let c = name_one (s.name m) n (named m (omega arith)) in
      let d = names_sum m (omega arith) in
      let e = a ∙ b in
      omega arith

-- ---- edges, strip by strip
module _ (n : ℕ) (bs : List ℤ) (l : Linework) (sound : Sound n l) where
  -- the name h has a slot in the strip j + 1
  abbrev slot : ℕ → ℤ → ℕ
  slot j h = indicator (runs_through bs l (suc j) h)

  edge_sum : (m e : ℕ) → m ≡ strip_count bs → sum_below (λ j. of_edge (slot j) e) m ≡ slots_of bs l (suc e)
  edge_sum m e count = go (l.turn.held (pos (suc e))) refl
    where
      a : ℕ
      a = home_strip bs l (pos (suc e))

      b : ℕ
      b = home_strip bs l (negsuc e)

      spans : ℕ → ℕ
      spans j = indicator (leb a (suc j) && leb (suc j) b)

      twice : (x a b : ℕ) → x ≡ suc (b - a) → a ≤ b → x + x ≡ 2 * suc ((a - b) + (b - a))
      twice x a b e l = omega arith

      go : (t : Bool) → l.turn.held (pos (suc e)) ≡ t → sum_below (λ j. of_edge (slot j) e) m ≡ slots_of bs l (suc e)
      go true h =
          let on = held_on bs n l sound (suc e) h in
          let west = strip_low bs _ in
          let east : b ≤ m = subst (λ k. b ≤ k) (sym count) (strip_high bs _) in
          sum_same (λ j. of_edge (slot j) e) (λ j. spans j + spans j) m
          (λ j _. ap₂ (λ p q. indicator (p && leb a (suc j) && leb (suc j) b) + indicator (q && leb a (suc j) && leb (suc j) b)) on.plus on.minus)
          ∙ sum_both spans spans m ∙ twice (sum_below spans m) a b (sum_span a b m west on.order east) on.order ∙ sym (cond-true (l.turn.held (pos (suc e))) _ 0 h)
      go false h =
          let off = not_held n l sound (suc e) h in
          sum_none (λ j. of_edge (slot j) e) m
          (λ j _. ap₂ (λ p q. indicator (p && leb a (suc j) && leb (suc j) b) + indicator (q && leb a (suc j) && leb (suc j) b)) off.plus off.minus)
          ∙ sym (cond-false (l.turn.held (pos (suc e))) _ 0 h)

  taken_sum : (k : ℕ) → slots_taken bs l k ≡ sum_below (λ e. slots_of bs l (suc e)) k
  unfolding slots_taken
  taken_sum zero = refl
  taken_sum (suc k) = let a = taken_sum k in omega arith

  strip_sum : (s : Strip) (j : ℕ) → TellsStrip bs l (suc j) s → name_sum (slot j) n ≡ s.slots
  strip_sum s j t = name_same (slot j) (λ h. indicator (names s s.slots h)) n (λ h. ap indicator (sym (t.held h))) ∙ names_sum s n t.once named s.slots (omega arith)
    where
      named : (k : ℕ) → k < s.slots → Named n (s.name k)
      named k u =
          let h = s.name k in
          let same : equal h h ≡ true = grind (arith, tell h h) in
          let runs : runs_through bs l (suc j) h ≡ true = sym (t.held h) ∙ any_here (λ i. equal (s.name i) h) k s.slots u same in
          let here = (and_parts (l.turn.held h) (leb (first_strip bs l h) (suc j)) (and_parts _ (leb (suc j) (last_strip bs l h)) runs).0).0 in
          held_named n l.turn sound.0 h here

pub tallied : (n : ℕ) (bs : List ℤ) (l : Linework) (b : List ℕ) → Sound n l → Tells bs l b → slots_taken bs l n ≡ sum_below (slots_in b) (strips b)
tallied n bs l b sound tells =
    taken_sum n bs l sound n ∙ sum_same (λ e. slots_of bs l (suc e)) (λ e. sum_below (λ j. of_edge (slot n bs l sound j) e) (strips b)) n (λ e _. sym (edge_sum n bs l sound (strips b) e tells.count))
    ∙ sym (sum_swap (λ j e. of_edge (slot n bs l sound j) e) (strips b) n)
    ∙ sum_same (λ j. name_sum (slot n bs l sound j) n) (slots_in b) (strips b) (λ j u. strip_sum n bs l sound (strip b j) j (tells.each j u))
