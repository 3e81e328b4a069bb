-- The slots of one edge, taken apart from those of the others. Assumes nothing.
use Rattle.std.proofs.Common.{◌≡◌, ℕ, zero, suc, ◌+◌, ◌*◌, ◌≤◌, Bool, true, false, cond, not, ◌&&◌, ◌||◌, eqb, ltb, leb, ◌⊎◌, List, ℤ, pos, negsuc, neg_ℤ, nat_abs, sym, refl, ap, ◌∙◌, ap₂, inl, inr, arith}
use Rattle.std.proofs.lemmas.Int.{ints}
use Rattle.std.proofs.lemmas.Bool.Decides.{eqb_tells, leb_tells}
use Rattle.flat.specs.Orbits.{indicator}
use Rattle.flat.specs.Whole.{equal}
use Rattle.chart.specs.Linework.{Linework}
use Rattle.laws.proofs.Equal.{tell, Tells}
use Rattle.halfedges.specs.Rows.{same_place, externals}
use Rattle.strips.specs.Borders.{strip_of, apart, x_of, home_strip, first_strip, last_strip, runs_through, slots_of}

-- h is a name of the edge e
abbrev pub names_edge : ℕ → ℤ → Bool
names_edge e h = equal (pos e) h || equal (neg_ℤ (pos e)) h

-- the slot of h in strip i, where h is a name of the edge e that runs from strip a to strip b
abbrev pub spanned : ℕ → ℕ → ℕ → ℕ → ℤ → ℕ
spanned e a b i h = indicator (names_edge e h && leb a i && leb i b)

two_names : (e : ℕ) → 1 ≤ e → pos e ≡ neg_ℤ (pos e) → ⊥
two_names e l z = omega (arith, ints)

-- the home rows and the external rows of an edge are all its slots
pub spanned_is : (e a b i : ℕ) (h : ℤ) → 1 ≤ e → a ≤ b → spanned e a b i h ≡ externals e a b i h + (indicator (same_place b (neg_ℤ (pos e)) i h) + indicator (same_place a (pos e) i h))
spanned_is e a b i h one l = goal (equal (pos e) h) (equal (neg_ℤ (pos e)) h) (λ x y. two_names e one (grind (arith, tell (pos e) h, tell (neg_ℤ (pos e)) h, x, y)))
  where
    goal : (p q : Bool) → (p ≡ true → q ≡ true → ⊥) → indicator ((p || q) && leb a i && leb i b) ≡ (indicator (p && ltb a i && leb i b) + indicator (q && leb a i && ltb i b)) + (indicator (q && eqb b i) + indicator (p && eqb a i))
    goal true true off = absurd (off refl refl)
    goal true false off = grind (arith, leb_tells a i, leb_tells i b, leb_tells (suc a) i, eqb_tells a i)
    goal false true off = grind (arith, leb_tells a i, leb_tells i b, leb_tells (suc i) b, eqb_tells b i)
    goal false false off = refl

-- ---- the other edges
pub names_off : (e : ℕ) (h : ℤ) → names_edge e h ≡ false → (h ≡ pos e → ⊥) × (h ≡ neg_ℤ (pos e) → ⊥)
names_off e h n = (λ z. grind (arith, tell (pos e) h, z, n), λ z. grind (arith, tell (pos e) h, tell (neg_ℤ (pos e)) h, z, n))

pub names_on : (e : ℕ) (h : ℤ) → names_edge e h ≡ true → (pos e ≡ h) ⊎ (neg_ℤ (pos e) ≡ h)
names_on e h n = go (tell (pos e) h) (tell (neg_ℤ (pos e)) h)
  where
    go : Tells (pos e) h → Tells (neg_ℤ (pos e)) h → (pos e ≡ h) ⊎ (neg_ℤ (pos e) ≡ h)
    go (inl p) q = inl p.1
    go (inr p) (inl q) = inr q.1
    go (inr p) (inr q) = absurd (grind (arith, tell (pos e) h, tell (neg_ℤ (pos e)) h, p, q, n))

pub abs_minus : (e : ℕ) → nat_abs (neg_ℤ (pos e)) ≡ e
abs_minus zero = refl
abs_minus (suc e) = refl

abs_off : (e : ℕ) (h : ℤ) → names_edge e h ≡ false → nat_abs h ≡ e → ⊥
abs_off e (pos m) n z = (names_off e (pos m) n).0 (ap pos z)
abs_off e (negsuc m) n z = (names_off e (negsuc m) n).1 (ap (λ k. neg_ℤ (pos k)) z)

-- two line works agree off the names of an edge
abbrev pub AgreeOff : ℕ → Linework → Linework → Type 0
AgreeOff e l l' = (h : ℤ) → names_edge e h ≡ false → (l'.turn.held h ≡ l.turn.held h) × (l'.points h ≡ l.points h)

other_edge : (e m : ℕ) → 1 ≤ e → (m ≡ e → ⊥) → (names_edge e (pos m) ≡ false) × (names_edge e (neg_ℤ (pos m)) ≡ false)
other_edge e m one d = (off (pos m) (λ z. d (plus z)) (λ z. cross z), off (neg_ℤ (pos m)) (λ z. cross' z) (λ z. d (minus z)))
  where
    plus : pos e ≡ pos m → m ≡ e
    plus z = omega (arith, ints)

    minus : neg_ℤ (pos e) ≡ neg_ℤ (pos m) → m ≡ e
    minus z = omega (arith, ints)

    cross : neg_ℤ (pos e) ≡ pos m → ⊥
    cross z = omega (arith, ints)

    cross' : pos e ≡ neg_ℤ (pos m) → ⊥
    cross' z = omega (arith, ints)

    off : (h : ℤ) → (pos e ≡ h → ⊥) → (neg_ℤ (pos e) ≡ h → ⊥) → names_edge e h ≡ false
    off h p q = grind (arith, tell (pos e) h, tell (neg_ℤ (pos e)) h, p, q)

module _ (bs : List ℤ) (e : ℕ) (one : 1 ≤ e) (l l' : Linework) (same : AgreeOff e l l') where
  first_same : (m : ℕ) → (m ≡ e → ⊥) → home_strip bs l' (pos m) ≡ home_strip bs l (pos m)
  first_same m d = ap (λ p. strip_of bs (x_of p)) (same (pos m) (other_edge e m one d).0).1

  last_same : (m : ℕ) → (m ≡ e → ⊥) → home_strip bs l' (neg_ℤ (pos m)) ≡ home_strip bs l (neg_ℤ (pos m))
  last_same m d = ap (λ p. strip_of bs (x_of p)) (same (neg_ℤ (pos m)) (other_edge e m one d).1).1

  pub runs_same : (i : ℕ) (h : ℤ) → names_edge e h ≡ false → runs_through bs l' i h ≡ runs_through bs l i h
  runs_same i h off =
      let d = abs_off e h off in
      ap₂ (λ t f. t && leb f i && leb i (last_strip bs l' h)) (same h off).0 (first_same (nat_abs h) d)
      ∙ ap (λ b. l.turn.held h && leb (first_strip bs l h) i && leb i b) (last_same (nat_abs h) d)

  pub slots_same : (k : ℕ) → (k ≡ e → ⊥) → slots_of bs l' k ≡ slots_of bs l k
  slots_same k d =
      ap₂ (λ t f. cond t (2 * suc (apart f (last_strip bs l' (pos k)))) 0) (same (pos k) (other_edge e k one d).0).0 (first_same k d)
      ∙ ap (λ b. cond (l.turn.held (pos k)) (2 * suc (apart (first_strip bs l (pos k)) b)) 0) (last_same k d)

-- the slots of the names that are not of the edge e
abbrev pub beside : List ℤ → ℕ → Linework → ℕ → ℤ → ℕ
beside bs e l i h = indicator (not (names_edge e h) && runs_through bs l i h)

pub beside_same : (bs : List ℤ) (e : ℕ) → 1 ≤ e → (l l' : Linework) → AgreeOff e l l' → (i : ℕ) (h : ℤ) → beside bs e l' i h ≡ beside bs e l i h
beside_same bs e one l l' same i h = go (names_edge e h) refl
  where
    go : (b : Bool) → names_edge e h ≡ b → indicator (not b && runs_through bs l' i h) ≡ indicator (not b && runs_through bs l i h)
    go true n = refl
    go false n = ap indicator (runs_same bs e one l l' same i h n)

-- a held edge: its own slots, and those beside
pub split_held : (bs : List ℤ) (e : ℕ) (l : Linework) → l.turn.held (pos e) ≡ true → l.turn.held (neg_ℤ (pos e)) ≡ true → (a b : ℕ) → first_strip bs l (pos e) ≡ a → last_strip bs l (pos e) ≡ b
    → (i : ℕ) (h : ℤ) → indicator (runs_through bs l i h) ≡ spanned e a b i h + beside bs e l i h
split_held bs e l plus minus a b west east i h = go (names_edge e h) refl
  where
    runs : (m : ℤ) → l.turn.held m ≡ true → nat_abs m ≡ e → runs_through bs l i m ≡ leb a i && leb i b
    runs m held is =
        ap₂ (λ t f. t && leb f i && leb i (last_strip bs l m)) held (ap (λ k. home_strip bs l (pos k)) is ∙ west)
        ∙ ap (λ f. leb a i && leb i f) (ap (λ k. home_strip bs l (neg_ℤ (pos k))) is ∙ east)

    on : (pos e ≡ h) ⊎ (neg_ℤ (pos e) ≡ h) → runs_through bs l i h ≡ leb a i && leb i b
    on (inl z) = runs h (ap l.turn.held (sym z) ∙ plus) (ap nat_abs (sym z))
    on (inr z) = runs h (ap l.turn.held (sym z) ∙ minus) (ap nat_abs (sym z) ∙ abs_minus e)

    sum : (n : ℕ) → n ≡ n + 0
    sum n = omega arith

    sum' : (n : ℕ) → n ≡ 0 + n
    sum' n = omega arith

    go : (c : Bool) → names_edge e h ≡ c → indicator (runs_through bs l i h) ≡ indicator (c && leb a i && leb i b) + indicator (not c && runs_through bs l i h)
    go true n = ap indicator (on (names_on e h n)) ∙ sum (indicator (leb a i && leb i b))
    go false n = sum' (indicator (runs_through bs l i h))

-- an edge that is not held has none
pub split_not : (bs : List ℤ) (e : ℕ) (l : Linework) → l.turn.held (pos e) ≡ false → l.turn.held (neg_ℤ (pos e)) ≡ false → (i : ℕ) (h : ℤ) → indicator (runs_through bs l i h) ≡ beside bs e l i h
split_not bs e l plus minus i h = go (names_edge e h) refl
  where
    none : (m : ℤ) → l.turn.held m ≡ false → runs_through bs l i m ≡ false
    none m out = ap (λ t. t && leb (first_strip bs l m) i && leb i (last_strip bs l m)) out

    off : (pos e ≡ h) ⊎ (neg_ℤ (pos e) ≡ h) → runs_through bs l i h ≡ false
    off (inl z) = none h (ap l.turn.held (sym z) ∙ plus)
    off (inr z) = none h (ap l.turn.held (sym z) ∙ minus)

    go : (c : Bool) → names_edge e h ≡ c → indicator (runs_through bs l i h) ≡ indicator (not c && runs_through bs l i h)
    go true n = ap indicator (off (names_on e h n))
    go false n = refl
