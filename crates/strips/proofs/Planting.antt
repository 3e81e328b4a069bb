-- A memory of home rows gets its external rows, edge by edge. Assumes nothing.
use Rattle.std.proofs.Common.{◌≡◌, ℕ, zero, suc, ◌+◌, ◌-◌, ◌*◌, ◌<◌, ◌≤◌, Bool, true, false, cond, ◌&&◌, eqb, ltb, leb, ◌⊎◌, List, ℤ, pos, negsuc, nat_abs, map, sum, sym, refl, ap, ◌∙◌, subst, ap₂, inl, inr, add-one, arith}
use Rattle.std.specs.List.{range_with_len}
use Rattle.std.proofs.lemmas.Int.{ints}
use Rattle.std.proofs.lemmas.List.FromFn.{sum_by-map-range_with_len_more}
use Rattle.std.proofs.lemmas.Bool.{cond-true, cond-false, both_ways, and_left, le-leb, lt-leb, cases_eq, cases_Bool}
use Rattle.std.proofs.lemmas.Bool.Decides.{eqb_tells, leb_tells}
use Rattle.flat.specs.Orbits.{indicator}
use Rattle.flat.specs.Whole.{equal}
use Rattle.turning.specs.Limits.{max_edge}
use Rattle.chart.specs.Linework.{Linework}
use Rattle.laws.specs.Keeps.{Sound}
use Rattle.laws.proofs.Equal.{tell}
use Rattle.halfedges.specs.Rows.{externals, edge_count}
use Rattle.halfedges.proofs.EdgeCount.{edges_none, edges_more}
use Rattle.strips.specs.Borders.{apart, home_strip, first_strip, last_strip, runs_through, slots_of, slots_taken}
use Rattle.strips.proofs.Gains.{held_on}
use Rattle.strips.proofs.Keeping.{Tally}

-- ---- slots taken, edge by edge
pub taken_none : (bs : List ℤ) (l : Linework) → slots_taken bs l 0 ≡ 0
unfolding slots_taken
taken_none bs l = refl

pub taken_more : (bs : List ℤ) (l : Linework) (i : ℕ) → slots_taken bs l (suc i) ≡ slots_of bs l (suc i) + slots_taken bs l i
unfolding slots_taken
taken_more bs l i = refl

-- the slots of the edges from 1 on, added up
pub taken_summed : (bs : List ℤ) (l : Linework) (n : ℕ) → sum (map (slots_of bs l) (range_with_len 1 n)) ≡ slots_taken bs l n
taken_summed bs l zero = sym (taken_none bs l)
taken_summed bs l (suc n) =
    ap (λ k. sum (map (slots_of bs l) (range_with_len 1 k))) (sym (add-one n)) ∙ sum_by-map-range_with_len_more (λ x. x) (slots_of bs l) 1 n (suc n) (omega arith)
    ∙ swap _ _ _ _ (taken_summed bs l n) (taken_more bs l n)
  where
    swap : (s t t' x : ℕ) → s ≡ t → t' ≡ x + t → s + x ≡ t'
    swap s t t' x a b = omega arith

-- an edge takes two slots at least
slots_least : (bs : List ℤ) (l : Linework) (e : ℕ) → 2 * indicator (l.turn.held (pos e)) ≤ slots_of bs l e
slots_least bs l e = go (l.turn.held (pos e))
  where
    go : (t : Bool) → 2 * indicator t ≤ cond t (2 * suc (apart (first_strip bs l (pos e)) (last_strip bs l (pos e)))) 0
    go true = omega arith
    go false = omega arith

-- the edges after i take two slots each at least
pub taken_least : (bs : List ℤ) (l : Linework) (i n : ℕ) → i ≤ n → slots_taken bs l i + 2 * edge_count n l.turn ≤ slots_taken bs l n + 2 * edge_count i l.turn
taken_least bs l i zero u = let e : i ≡ 0 = omega arith in subst (λ j. slots_taken bs l j + 2 * edge_count 0 l.turn ≤ slots_taken bs l 0 + 2 * edge_count j l.turn) (sym e) (omega arith)
taken_least bs l i (suc n) u = go (cases_eq i (suc n)) (taken_least bs l i n)
  where
    go : (i ≡ suc n) ⊎ (i ≡ suc n → ⊥) → (i ≤ n → slots_taken bs l i + 2 * edge_count n l.turn ≤ slots_taken bs l n + 2 * edge_count i l.turn) → slots_taken bs l i + 2 * edge_count (suc n) l.turn ≤ slots_taken bs l (suc n) + 2 * edge_count i l.turn
    go (inl e) rec = subst (λ j. slots_taken bs l j + 2 * edge_count (suc n) l.turn ≤ slots_taken bs l (suc n) + 2 * edge_count j l.turn) (sym e) (omega arith)
    go (inr d) rec =
        sum (slots_taken bs l i) (edge_count n l.turn) (slots_taken bs l n) (edge_count i l.turn) (slots_taken bs l (suc n)) (edge_count (suc n) l.turn) (slots_of bs l (suc n)) (indicator (l.turn.held (pos (suc n))))
        (rec (omega arith)) (taken_more bs l n) (edges_more l.turn n) (slots_least bs l (suc n))
      where
        sum : (a b c d c' b' s k : ℕ) → a + 2 * b ≤ c + 2 * d → c' ≡ s + c → b' ≡ k + b → 2 * k ≤ s → a + 2 * b' ≤ c' + 2 * d
        sum a b c d c' b' s k p q r t = omega arith

-- all edges together take two slots each at least
pub edges_within : (bs : List ℤ) (l : Linework) (n : ℕ) → 2 * edge_count n l.turn ≤ slots_taken bs l n
edges_within bs l n = let a = taken_least bs l 0 n (omega arith) in let b = taken_none bs l in let c = edges_none l.turn in omega (arith, a, b, c)

-- ---- the edges 1 to i have all their slots, the others their home rows alone
abbrev pub planted_to : List ℤ → Linework → ℕ → ℕ → ℤ → Bool
planted_to bs l i j h = cond (leb (nat_abs h) i) (runs_through bs l j h) (l.turn.held h && eqb j (home_strip bs l h))

pub record Planting (n : ℕ) (bs : List ℤ) (l : Linework) (i : ℕ) (strips : ℤ → ℕ) (counts : ℕ → ℤ → ℕ) (all : ℕ) : Type 0 where
  pub each : (j : ℕ) (h : ℤ) → (h ≡ pos 0 → ⊥) → counts j h ≡ indicator (planted_to bs l i j h)
  pub homes : (h : ℤ) → l.turn.held h ≡ true → strips h ≡ home_strip bs l h
  pub room : all + 2 * edge_count i l.turn ≡ slots_taken bs l i + 2 * edge_count n l.turn

size : (h : ℤ) → (h ≡ pos 0 → ⊥) → 0 < nat_abs h
size (pos zero) some = absurd (some refl)
size (pos (suc m)) some = omega arith
size (negsuc m) some = omega arith

-- no edge has any external row yet
pub planting_none : (n : ℕ) (bs : List ℤ) (l : Linework) (strips : ℤ → ℕ) (counts : ℕ → ℤ → ℕ) (all : ℕ)
    → ((h : ℤ) → l.turn.held h ≡ true → strips h ≡ home_strip bs l h)
    → ((j : ℕ) (h : ℤ) → (h ≡ pos 0 → ⊥) → counts j h ≡ indicator (l.turn.held h && eqb j (strips h)))
    → all ≡ 2 * edge_count n l.turn → Planting n bs l 0 strips counts all
planting_none n bs l strips counts all homes each room = record {
  each = λ j h some. each j h some ∙ ap indicator (same j h (cases_Bool (l.turn.held h)) ∙ sym (cond-false (leb (nat_abs h) 0) (runs_through bs l j h) _ (lt-leb (nat_abs h) 0 (size h some))));
  homes = homes;
  room = let a = taken_none bs l in let b = edges_none l.turn in omega (arith, a, b, room);
}
  where
    same : (j : ℕ) (h : ℤ) → (l.turn.held h ≡ true) ⊎ (l.turn.held h ≡ false) → (l.turn.held h && eqb j (strips h)) ≡ (l.turn.held h && eqb j (home_strip bs l h))
    same j h (inl e) = ap (λ s. l.turn.held h && eqb j s) (homes h e)
    same j h (inr e) = and_left _ _ e ∙ sym (and_left _ _ e)

-- ---- the edge suc i is next
module _ (n : ℕ) (bs : List ℤ) (l : Linework) (sound : Sound n l) (i : ℕ) where
  two_names : (h : ℤ) → nat_abs h ≡ suc i → (h ≡ pos (suc i)) ⊎ (h ≡ negsuc i)
  two_names (pos m) e = inl (ap pos e)
  two_names (negsuc m) e = inr (ap negsuc (let s : suc m ≡ suc i = e in omega arith))

  -- a name of another edge has the slots that it had
  same_off : (j : ℕ) (h : ℤ) → (nat_abs h ≡ suc i → ⊥) → planted_to bs l i j h ≡ planted_to bs l (suc i) j h
  same_off j h d = ap (λ t. cond t (runs_through bs l j h) (l.turn.held h && eqb j (home_strip bs l h))) (leb_same (nat_abs h) d)
    where
      leb_same : (m : ℕ) → (m ≡ suc i → ⊥) → leb m i ≡ leb m (suc i)
      leb_same m d = grind (arith, leb_tells m i, leb_tells m (suc i), d)

  not_this : leb (suc i) i ≡ false
  not_this = lt-leb (suc i) i (omega arith)

  this : leb (suc i) (suc i) ≡ true
  this = le-leb (suc i) (suc i) (omega arith)

  -- an edge that is not held has none
  module _ (out : l.turn.held (pos (suc i)) ≡ false) where
    out_back : l.turn.held (negsuc i) ≡ false
    out_back = go (cases_Bool (l.turn.held (negsuc i)))
      where
        go : (l.turn.held (negsuc i) ≡ true) ⊎ (l.turn.held (negsuc i) ≡ false) → l.turn.held (negsuc i) ≡ false
        go (inl e) = absurd (both_ways _ out (sound.0.closed (negsuc i) e))
        go (inr e) = e

    nothing : (k j : ℕ) (h : ℤ) → l.turn.held h ≡ false → planted_to bs l k j h ≡ false
    nothing k j h e = go (leb (nat_abs h) k)
      where
        go : (t : Bool) → cond t (runs_through bs l j h) (l.turn.held h && eqb j (home_strip bs l h)) ≡ false
        go true = ap (λ t. t && leb (first_strip bs l h) j && leb j (last_strip bs l h)) e
        go false = ap (λ t. t && eqb j (home_strip bs l h)) e

    skip_each : (j : ℕ) (h : ℤ) → planted_to bs l i j h ≡ planted_to bs l (suc i) j h
    skip_each j h = go (cases_eq (nat_abs h) (suc i))
      where
        not_held : (h ≡ pos (suc i)) ⊎ (h ≡ negsuc i) → l.turn.held h ≡ false
        not_held (inl z) = ap l.turn.held z ∙ out
        not_held (inr z) = ap l.turn.held z ∙ out_back

        go : (nat_abs h ≡ suc i) ⊎ (nat_abs h ≡ suc i → ⊥) → planted_to bs l i j h ≡ planted_to bs l (suc i) j h
        go (inl e) = let none = not_held (two_names h e) in nothing i j h none ∙ sym (nothing (suc i) j h none)
        go (inr d) = same_off j h d

    pub planting_skip : (strips : ℤ → ℕ) (counts : ℕ → ℤ → ℕ) (all : ℕ) → Planting n bs l i strips counts all → Planting n bs l (suc i) strips counts all
    planting_skip strips counts all p = record {
      each = λ j h some. p.each j h some ∙ ap indicator (skip_each j h);
      homes = p.homes;
      room =
          let a = edges_more l.turn i ∙ ap (λ t. indicator t + edge_count i l.turn) out in
          let b = taken_more bs l i ∙ ap (λ k. k + slots_taken bs l i) (cond-false (l.turn.held (pos (suc i))) _ 0 out) in
          sum all (edge_count i l.turn) (edge_count (suc i) l.turn) (slots_taken bs l i) (slots_taken bs l (suc i)) (edge_count n l.turn) a b p.room;
    }
      where
        sum : (a e e' t t' m : ℕ) → e' ≡ 0 + e → t' ≡ 0 + t → a + 2 * e ≡ t + 2 * m → a + 2 * e' ≡ t' + 2 * m
        sum a e e' t t' m p q r = omega arith

  -- a held edge gets its external rows
  module _ (here : l.turn.held (pos (suc i)) ≡ true) where
    abbrev a : ℕ
    a = home_strip bs l (pos (suc i))

    abbrev b : ℕ
    b = home_strip bs l (negsuc i)

    back : l.turn.held (negsuc i) ≡ true
    back = sound.0.closed (pos (suc i)) here

    order : a ≤ b
    order = (held_on bs n l sound (suc i) here).order

    apart_names : negsuc i ≡ pos (suc i) → ⊥
    apart_names z = omega (arith, ints)

    plus_each : (j : ℕ) → indicator (planted_to bs l (suc i) j (pos (suc i))) ≡ externals (suc i) a b j (pos (suc i)) + indicator (planted_to bs l i j (pos (suc i)))
    plus_each j =
        let is : planted_to bs l (suc i) j (pos (suc i)) ≡ leb a j && leb j b = cond-true _ _ _ this ∙ ap (λ t. t && leb a j && leb j b) here in
        let was : planted_to bs l i j (pos (suc i)) ≡ eqb j a = cond-false _ _ _ not_this ∙ ap (λ t. t && eqb j a) here in
        let on : equal (pos (suc i)) (pos (suc i)) ≡ true = grind (arith, tell (pos (suc i)) (pos (suc i))) in
        let off : equal (negsuc i) (pos (suc i)) ≡ false = grind (arith, tell (negsuc i) (pos (suc i)), apart_names) in
        let more : externals (suc i) a b j (pos (suc i)) ≡ indicator (ltb a j && leb j b) + 0 = ap₂ (λ p q. indicator (p && ltb a j && leb j b) + indicator (q && leb a j && ltb j b)) on off in
        ap indicator is ∙ sum a b order ∙ sym (ap₂ (λ x y. x + y) more (ap indicator was))
      where
        sum : (a b : ℕ) → a ≤ b → indicator (leb a j && leb j b) ≡ (indicator (ltb a j && leb j b) + 0) + indicator (eqb j a)
        sum a b o = grind (arith, leb_tells a j, leb_tells j b, leb_tells (suc a) j, eqb_tells j a)

    minus_each : (j : ℕ) → indicator (planted_to bs l (suc i) j (negsuc i)) ≡ externals (suc i) a b j (negsuc i) + indicator (planted_to bs l i j (negsuc i))
    minus_each j =
        let is : planted_to bs l (suc i) j (negsuc i) ≡ leb a j && leb j b = cond-true _ _ _ this ∙ ap (λ t. t && leb a j && leb j b) back in
        let was : planted_to bs l i j (negsuc i) ≡ eqb j b = cond-false _ _ _ not_this ∙ ap (λ t. t && eqb j b) back in
        let off : equal (pos (suc i)) (negsuc i) ≡ false = grind (arith, tell (pos (suc i)) (negsuc i), apart_names) in
        let on : equal (negsuc i) (negsuc i) ≡ true = grind (arith, tell (negsuc i) (negsuc i)) in
        let more : externals (suc i) a b j (negsuc i) ≡ 0 + indicator (leb a j && ltb j b) = ap₂ (λ p q. indicator (p && ltb a j && leb j b) + indicator (q && leb a j && ltb j b)) off on in
        ap indicator is ∙ sum a b order ∙ sym (ap₂ (λ x y. x + y) more (ap indicator was))
      where
        sum : (a b : ℕ) → a ≤ b → indicator (leb a j && leb j b) ≡ (0 + indicator (leb a j && ltb j b)) + indicator (eqb j b)
        sum a b o = grind (arith, leb_tells a j, leb_tells j b, leb_tells (suc j) b, eqb_tells j b)

    step_each : (j : ℕ) (h : ℤ) → indicator (planted_to bs l (suc i) j h) ≡ externals (suc i) a b j h + indicator (planted_to bs l i j h)
    step_each j h = go (cases_eq (nat_abs h) (suc i))
      where
        named : (h ≡ pos (suc i)) ⊎ (h ≡ negsuc i) → indicator (planted_to bs l (suc i) j h) ≡ externals (suc i) a b j h + indicator (planted_to bs l i j h)
        named (inl z) = subst (λ k. indicator (planted_to bs l (suc i) j k) ≡ externals (suc i) a b j k + indicator (planted_to bs l i j k)) (sym z) (plus_each j)
        named (inr z) = subst (λ k. indicator (planted_to bs l (suc i) j k) ≡ externals (suc i) a b j k + indicator (planted_to bs l i j k)) (sym z) (minus_each j)

        zero_more : (m k : ℕ) → k ≡ 0 → m ≡ k + m
        zero_more m k e = omega arith

        go : (nat_abs h ≡ suc i) ⊎ (nat_abs h ≡ suc i → ⊥) → indicator (planted_to bs l (suc i) j h) ≡ externals (suc i) a b j h + indicator (planted_to bs l i j h)
        go (inl e) = named (two_names h e)
        go (inr d) =
            let p : equal (pos (suc i)) h ≡ false = grind (arith, tell (pos (suc i)) h, λ (z : pos (suc i) ≡ h). d (sym (ap nat_abs z))) in
            let q : equal (negsuc i) h ≡ false = grind (arith, tell (negsuc i) h, λ (z : negsuc i ≡ h). d (sym (ap nat_abs z))) in
            let none : externals (suc i) a b j h ≡ 0 = ap₂ (λ p q. indicator (p && ltb a j && leb j b) + indicator (q && leb a j && ltb j b)) p q in
            sym (ap indicator (same_off j h d)) ∙ zero_more _ _ none

    -- the strips of the two home rows, by the rows
    module _ (strips : ℤ → ℕ) (counts : ℕ → ℤ → ℕ) (all : ℕ) (p : Planting n bs l i strips counts all) where
      west_is : strips (pos (suc i)) ≡ a
      west_is = p.homes (pos (suc i)) here

      east_is : strips (negsuc i) ≡ b
      east_is = p.homes (negsuc i) back

      pub planting_eastward : strips (pos (suc i)) ≤ strips (negsuc i)
      planting_eastward = let x = west_is in let y = east_is in let o = order in omega (arith, x, y, o)

      slots_here : slots_of bs l (suc i) ≡ 2 * suc (apart a b)
      slots_here = cond-true (l.turn.held (pos (suc i))) _ 0 here

      -- with the external rows of this edge, the rows used
      step_room : (all' : ℕ) → all' ≡ 2 * (strips (negsuc i) - strips (pos (suc i))) + all → all' + 2 * edge_count (suc i) l.turn ≡ slots_taken bs l (suc i) + 2 * edge_count n l.turn
      step_room all' more =
          let e = edges_more l.turn i ∙ ap (λ t. indicator t + edge_count i l.turn) here in
          let t = taken_more bs l i ∙ ap (λ k. k + slots_taken bs l i) slots_here in
          sum all all' (edge_count i l.turn) (edge_count (suc i) l.turn) (slots_taken bs l i) (slots_taken bs l (suc i)) (edge_count n l.turn) (strips (pos (suc i))) (strips (negsuc i)) a b e t p.room more west_is east_is order
        where
          sum : (u u' e e' t t' m x y a b : ℕ) → e' ≡ 1 + e → t' ≡ 2 * suc ((a - b) + (b - a)) + t → u + 2 * e ≡ t + 2 * m → u' ≡ 2 * (y - x) + u → x ≡ a → y ≡ b → a ≤ b → u' + 2 * e' ≡ t' + 2 * m
          sum u u' e e' t t' m x y a b p q r s v w o = omega arith

      -- the slots for them are there
      pub planting_room : (cap : ℕ) → suc i ≤ n → slots_taken bs l n ≤ cap → all + 2 * (strips (negsuc i) - strips (pos (suc i))) ≤ cap
      planting_room cap u fits =
          let least = taken_least bs l (suc i) n u in
          sum all (2 * (strips (negsuc i) - strips (pos (suc i)))) (edge_count (suc i) l.turn) (slots_taken bs l (suc i)) (slots_taken bs l n) (edge_count n l.turn) cap (step_room _ refl) least fits
        where
          sum : (u k e t t' m cap : ℕ) → (k + u) + 2 * e ≡ t + 2 * m → t + 2 * m ≤ t' + 2 * e → t' ≤ cap → u + k ≤ cap
          sum u k e t t' m cap p q r = omega arith

      pub planting_more : (strips' : ℤ → ℕ) (counts' : ℕ → ℤ → ℕ) (all' : ℕ) → strips' ≡ strips
          → ((j : ℕ) (h : ℤ) → (h ≡ pos 0 → ⊥) → counts' j h ≡ externals (suc i) (strips (pos (suc i))) (strips (negsuc i)) j h + counts j h)
          → all' ≡ 2 * (strips (negsuc i) - strips (pos (suc i))) + all
          → Planting n bs l (suc i) strips' counts' all'
      planting_more strips' counts' all' same counted more = record {
        each = λ j h some. counted j h some ∙ ap₂ (λ x y. externals (suc i) x y j h + counts j h) west_is east_is ∙ ap (λ k. externals (suc i) a b j h + k) (p.each j h some) ∙ sym (step_each j h);
        homes = λ h held. ap (λ f. f h) same ∙ p.homes h held;
        room = step_room all' more;
      }

-- ---- every edge has its slots
pub planting_all : (bs : List ℤ) (l : Linework) → Sound max_edge l → (strips : ℤ → ℕ) (counts : ℕ → ℤ → ℕ) (all : ℕ) → Planting max_edge bs l max_edge strips counts all → Tally bs l strips counts all
planting_all bs l sound strips counts all p = record {
  each = λ j h some. p.each j h some ∙ ap indicator (whole j h (cases_Bool (l.turn.held h)));
  homes = p.homes;
  room = sum all (edge_count max_edge l.turn) (slots_taken bs l max_edge) p.room;
}
  where
    sum : (a e t : ℕ) → a + 2 * e ≡ t + 2 * e → a ≡ t
    sum a e t q = omega arith

    inside : (h : ℤ) → l.turn.held h ≡ true → nat_abs h ≤ max_edge
    inside (pos m) e = let u = sound.0.high (pos m) e in omega (arith, ints)
    inside (negsuc m) e = let u = sound.0.low (negsuc m) e in omega (arith, ints)

    none : (j : ℕ) (h : ℤ) → l.turn.held h ≡ false → (t : Bool) → cond t (runs_through bs l j h) (l.turn.held h && eqb j (home_strip bs l h)) ≡ runs_through bs l j h
    none j h e true = refl
    none j h e false = ap (λ t. t && eqb j (home_strip bs l h)) e ∙ sym (ap (λ t. t && leb (first_strip bs l h) j && leb j (last_strip bs l h)) e)

    whole : (j : ℕ) (h : ℤ) → (l.turn.held h ≡ true) ⊎ (l.turn.held h ≡ false) → planted_to bs l max_edge j h ≡ runs_through bs l j h
    whole j h (inl e) = cond-true _ _ _ (le-leb _ _ (inside h e))
    whole j h (inr e) = none j h e (leb (nat_abs h) max_edge)
