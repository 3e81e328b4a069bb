-- The strips of an accepted file hold exactly the names whose edges run through them. Assumes nothing.
use Rattle.std.proofs.Common.{◌≡◌, ℕ, zero, suc, ◌<◌, ◌≤◌, Bool, true, false, not, ◌&&◌, eqb, leb, List, ℤ, pos, negsuc, neg_ℤ, Some, None, Option, sym, refl, ap, ◌∙◌, subst, ⊎_elim, arith}
use Rattle.std.proofs.lemmas.Bool.{cases_Bool, cases_order, and_parts, and_from, not-true, leb-true, le-leb, eq-eqb, ne_eqb}
use Rattle.flat.specs.Whole.{equal}
use Rattle.turning.specs.Limits.{max_edge, slots as max_slots, max_strips}
use Rattle.chart.specs.Points.{on_sheet}
use Rattle.laws.specs.Keeps.{Sound}
use Rattle.strips.specs.Borders.{strip_of, x_of, home_strip, runs_through}
use Rattle.file.specs.Layout.{strips, strip, western, eastern}
use Rattle.file.specs.Lines.{Slot, home_slot, is_some, follower_name, lines_of}
use Rattle.file.specs.Places.{at}
use Rattle.file.specs.Questions.{named, name_good, paired, runs_on, not_west_of, west_of}
use Rattle.file.specs.Strips.{Strip, home, names, start, vertex, rounds, Turned}
use Rattle.file.specs.Verdict.{told_lines}
use Rattle.file.proofs.Places.{any_here, any_where, any_none, bool_apart}
use Rattle.told.specs.Passed.{Passed}
use Rattle.told.specs.Tells.{borders_in, Standing, TellsStrip, Tells}
use Rattle.told.specs.Theorems.{AcceptedTells}
use Rattle.told.proofs.Homes.{equal_true, equal_same, at_home, home_is, passed}
use Rattle.told.proofs.Chains.{Has, chain, runs_home}
use Rattle.told.proofs.Borders.{borders_length, borders_at, borders_count, borders_rise, between_borders}
use Rattle.told.proofs.SoundSlots.{vertex_small}
use Rattle.told.proofs.SoundTold.{told_sound}
use Rattle.told.proofs.Tally.{tallied}

-- ---- the line work at a name with a home
module _ (n : ℕ) (strip : ℕ → Strip) (z : ℤ) where
  told_held : (a : Slot) → home_slot n strip z ≡ Some a → (lines_of n strip).turn.held z ≡ true
  unfolding lines_of
  told_held a e = ap is_some e

  told_follower : (a : Slot) → home_slot n strip z ≡ Some a → (lines_of n strip).turn.follower z ≡ (strip a.strip).name ((strip a.strip).follower a.slot)
  unfolding lines_of
  told_follower a e = ap (follower_name strip) e

  told_point : (a : Slot) → home_slot n strip z ≡ Some a → (lines_of n strip).points z ≡ Some (start (strip a.strip) a.slot)
  unfolding lines_of
  told_point a e = ap (at (λ (s : Slot). start (strip s.strip) s.slot)) e

  held_home : (lines_of n strip).turn.held z ≡ true → (a : Slot) × (home_slot n strip z ≡ Some a)
  unfolding lines_of
  held_home e = go (home_slot n strip z) refl e
    where
      go : (o : Option Slot) → home_slot n strip z ≡ o → is_some o ≡ true → (a : Slot) × (home_slot n strip z ≡ Some a)
      go None q t = absurd (bool_apart false t refl)
      go (Some a) q t = (a, q)

same_test : (a b : Bool) → (a ≡ true → b ≡ true) → (b ≡ true → a ≡ true) → a ≡ b
same_test true b f g = sym (f refl)
same_test false true f g = g refl
same_test false false f g = refl

-- an edge is held and runs through strip i
spanned : (held : Bool) (f i l : ℕ) → (held && leb f i && leb i l) ≡ true → (held ≡ true) × (f ≤ i) × (i ≤ l)
spanned held f i l t =
    let p = and_parts (held && leb f i) (leb i l) t in
    let q = and_parts held (leb f i) p.0 in
    (q.0, leb-true f i q.1, leb-true i l p.1)

spans : (held : Bool) (f i l : ℕ) → held ≡ true → f ≤ i → i ≤ l → (held && leb f i && leb i l) ≡ true
spans held f i l t a c = and_from (held && leb f i) (leb i l) (and_from held (leb f i) t (le-leb f i a)) (le-leb i l c)

-- ---- one strip
-- a strip has no name twice
names_apart : (s : Strip) → ((i : ℕ) → i < s.slots → paired s i ≡ true) → (k m : ℕ) → k < s.slots → m < s.slots → s.name k ≡ s.name m → k ≡ m
names_apart s pairs k m g h e = ⊎_elim (λ q. q) (⊎_elim (λ l. absurd (lower k m l h e)) (λ l. absurd (lower m k l g (sym e)))) (cases_order k m)
  where
    lower : (k m : ℕ) → k < m → m < s.slots → s.name k ≡ s.name m → ⊥
    lower k m l h e =
        let p = and_parts (not (names s m (s.name m))) (names s s.slots (neg_ℤ (s.name m))) (pairs m h) in
        let f = any_none (λ i. equal (s.name i) (s.name m)) m (not-true (names s m (s.name m)) p.0) k l in
        bool_apart (equal (s.name k) (s.name m)) (equal_same (s.name k) (s.name m) e) f

-- ---- strips whose names are in range and paired, and run to one home each; the points of homes lie in their strips by the borders bs
module _ (n most : ℕ) (strip : ℕ → Strip) (bs : List ℤ)
    (good : (j : ℕ) → j < n → (i : ℕ) → i < (strip j).slots → name_good most (strip j) i ≡ true)
    (pairs : (j : ℕ) → j < n → (i : ℕ) → i < (strip j).slots → paired (strip j) i ≡ true)
    (turned : (j : ℕ) → j < n → Turned (strip j))
    (round : (j : ℕ) → j < n → rounds (strip j) ≡ (strip j).vertices)
    (homed : (j i : ℕ) → j < n → i < (strip j).slots → home (strip j) i ≡ true → home_slot n strip ((strip j).name i) ≡ Some (record { strip = j; slot = i }))
    (runs : (j : ℕ) → j < n → (i : ℕ) → i < (strip j).slots → runs_on n strip j i ≡ true)
    (lands : (z : ℤ) (a : Slot) → home_slot n strip z ≡ Some a → home_strip bs (lines_of n strip) z ≡ suc a.strip) where
  -- the home strip of a name has it
  has_home : (z : ℤ) (a : Slot) → home_slot n strip z ≡ Some a → Has strip a.strip z
  has_home z a e =
      let r = at_home n strip z a e in
      any_here (λ i. equal ((strip a.strip).name i) z) a.slot (strip a.strip).slots r.1 (equal_same ((strip a.strip).name a.slot) z r.3)

  has_pair : (j : ℕ) → j < n → (z : ℤ) → Has strip j z → Has strip j (neg_ℤ z)
  has_pair j h z s =
      let r = any_where (λ i. equal ((strip j).name i) z) (strip j).slots s in
      let p = and_parts (not (names (strip j) r.0 ((strip j).name r.0))) (names (strip j) (strip j).slots (neg_ℤ ((strip j).name r.0))) (pairs j h r.0 r.1) in
      subst (λ y. Has strip j (neg_ℤ y)) (equal_true ((strip j).name r.0) z r.2) p.1

  no_zero : (j : ℕ) → j < n → Has strip j (pos 0) → ⊥
  no_zero j h s =
      let r = any_where (λ i. equal ((strip j).name i) (pos 0)) (strip j).slots s in
      never most (subst (λ y. named most y ≡ true) (equal_true ((strip j).name r.0) (pos 0) r.2) (good j h r.0 r.1))
    where
      never : (m : ℕ) → named m (pos 0) ≡ true → ⊥
      never zero e = bool_apart false e refl
      never (suc m) e = bool_apart false e refl

  -- an edge runs through each strip that has its names
  through : (e j : ℕ) → j < n → Has strip j (pos (suc e)) → Has strip j (negsuc e)
      → (home_strip bs (lines_of n strip) (pos (suc e)) ≤ suc j) × (suc j ≤ home_strip bs (lines_of n strip) (negsuc e))
      × ((lines_of n strip).turn.held (pos (suc e)) ≡ true) × ((lines_of n strip).turn.held (negsuc e) ≡ true)
  through e j h p m =
      let w = chain n strip homed runs (pos (suc e)) j h p in
      let o = chain n strip homed runs (negsuc e) j h m in
      let a = lands (pos (suc e)) w.end w.found in
      let c = lands (negsuc e) o.end o.found in
      let l : w.end.strip ≤ j = w.toward in
      let r : j ≤ o.end.strip = o.toward in
      (omega arith, omega arith, told_held n strip (pos (suc e)) w.end w.found, told_held n strip (negsuc e) o.end o.found)

  -- each strip that an edge runs through has its names
  reached : (e j : ℕ) → j < n → (a : Slot) → home_slot n strip (pos (suc e)) ≡ Some a
      → home_strip bs (lines_of n strip) (pos (suc e)) ≤ suc j → suc j ≤ home_strip bs (lines_of n strip) (negsuc e) → Has strip j (negsuc e)
  reached e j h a f west east =
      let at = at_home n strip (pos (suc e)) a f in
      let o = chain n strip homed runs (negsuc e) a.strip at.0 (has_pair a.strip at.0 (pos (suc e)) (has_home (pos (suc e)) a f)) in
      let l = lands (pos (suc e)) a f in
      let r = lands (negsuc e) o.end o.found in
      o.along j (omega arith) (omega arith)

  held_in : (j : ℕ) → j < n → (h : ℤ) → names (strip j) (strip j).slots h ≡ runs_through bs (lines_of n strip) (suc j) h
  held_in j g (pos zero) = same_test _ _
      (λ s. absurd (no_zero j g s))
      (λ t. let r = held_home n strip (pos 0) (spanned _ _ _ _ t).0 in
      absurd (no_zero r.0.strip (at_home n strip (pos 0) r.0 r.1).0 (has_home (pos 0) r.0 r.1)))
  held_in j g (pos (suc e)) = same_test _ _
      (λ s. let t = through e j g s (has_pair j g (pos (suc e)) s) in spans _ _ _ _ t.2 t.0 t.1)
      (λ t. let p = spanned _ _ _ _ t in
      let r = held_home n strip (pos (suc e)) p.0 in
      has_pair j g (negsuc e) (reached e j g r.0 r.1 p.1 p.2))
  held_in j g (negsuc e) = same_test _ _
      (λ s. let t = through e j g (has_pair j g (negsuc e) s) s in spans _ _ _ _ t.3 t.0 t.1)
      (λ t. let p = spanned _ _ _ _ t in
      let r = held_home n strip (negsuc e) p.0 in
      let a = at_home n strip (negsuc e) r.0 r.1 in
      let w = chain n strip homed runs (pos (suc e)) r.0.strip a.0 (has_pair r.0.strip a.0 (negsuc e) (has_home (negsuc e) r.0 r.1)) in
      reached e j g w.end w.found p.1 p.2)

  -- a slot is home where its name starts in the strip: the home of an external slot's name is another strip, or the strip would have the name twice
  homes_in : (j : ℕ) → j < n → (k : ℕ) → k < (strip j).slots → home (strip j) k ≡ eqb (home_strip bs (lines_of n strip) ((strip j).name k)) (suc j)
  homes_in j g k h = ⊎_elim
      (λ t. t ∙ sym (eq-eqb _ (suc j) (lands ((strip j).name k) (record { strip = j; slot = k }) (homed j k g h t))))
      (λ f. f ∙ sym (ne_eqb _ (suc j) (elsewhere f)))
      (cases_Bool (home (strip j) k))
    where
      stands : Has strip j ((strip j).name k)
      stands = any_here (λ i. equal ((strip j).name i) ((strip j).name k)) k (strip j).slots h (equal_same ((strip j).name k) ((strip j).name k) refl)

      same : (a : Slot) → home_slot n strip ((strip j).name k) ≡ Some a → a.strip ≡ j → home (strip j) k ≡ true
      same a e q =
          let r = at_home n strip ((strip j).name k) a e in
          let m = names_apart (strip j) (pairs j g) a.slot k (subst (λ i. a.slot < (strip i).slots) q r.1) h (subst (λ i. (strip i).name a.slot ≡ (strip j).name k) q r.3) in
          subst (λ i. home (strip j) i ≡ true) m (subst (λ i. home (strip i) a.slot ≡ true) q r.2)

      elsewhere : home (strip j) k ≡ false → home_strip bs (lines_of n strip) ((strip j).name k) ≡ suc j → ⊥
      elsewhere f e =
          let c = chain n strip homed runs ((strip j).name k) j g stands in
          let l = lands ((strip j).name k) c.end c.found in
          bool_apart (home (strip j) k) (same c.end c.found (omega arith)) f

  strip_told : (j : ℕ) → j < n → TellsStrip bs (lines_of n strip) (suc j) (strip j)
  strip_told j g = record {
    held = held_in j g;
    once = names_apart (strip j) (pairs j g);
    homes = homes_in j g;
    inside = (turned j g).ahead;
    leads = λ k h t. sym (told_follower n strip ((strip j).name k) (record { strip = j; slot = k }) (homed j k g h t));
    round = round j g;
    starts = λ k h t. told_point n strip ((strip j).name k) (record { strip = j; slot = k }) (homed j k g h t);
  }

-- ---- the whole file
module _ (b : List ℕ) (p : Passed b) where
  some : 1 ≤ strips b
  some = p.shaped.some

  -- the point where a name starts lies in its home strip
  lands_in : (z : ℤ) (a : Slot) → home_slot (strips b) (strip b) z ≡ Some a → home_strip (borders_in b) (told_lines b) z ≡ suc a.strip
  lands_in z a e =
      let r = at_home (strips b) (strip b) z a e in
      let s = strip b a.strip in
      let v = vertex_small s (p.judged.turned a.strip r.0) (p.judged.round a.strip r.0) a.slot r.1 r.2 in
      let q = p.judged.placed a.strip r.0 (vertex s a.slot) v in
      let x = (start s a.slot).x in
      let o = and_parts (on_sheet (start s a.slot)) (not_west_of (western b a.strip) x && west_of (eastern b a.strip) x) q in
      let i = and_parts (not_west_of (western b a.strip) x) (west_of (eastern b a.strip) x) o.1 in
      ap (λ y. strip_of (borders_in b) (x_of y)) (told_point (strips b) (strip b) z a e)
      ∙ between_borders b some p.rises a.strip r.0 x i.0 i.1

  pub told_tells : Tells (borders_in b) (told_lines b) b
  told_tells = record {
    count = sym (borders_count b some);
    border = λ k h. sym (borders_at b k (let e = borders_length b in omega arith));
    whole = p.shaped.whole;
    each = strip_told (strips b) max_edge (strip b) (borders_in b) p.judged.named p.judged.pairs p.judged.turned p.judged.round (home_is b p) p.runs_on lands_in;
  }

  pub told_standing : Sound max_edge (told_lines b) → Standing max_edge max_slots (borders_in b) (told_lines b)
  told_standing sound = record {
    sound = sound;
    rises = borders_rise b some p.rises;
    few = subst (λ k. k ≤ max_strips) (sym (borders_count b some)) p.shaped.few;
    room = subst (λ k. k ≤ max_slots) (sym (tallied max_edge (borders_in b) (told_lines b) b sound told_tells)) p.total;
  }

pub accepted_tells : AcceptedTells
accepted_tells b v = let p = passed b v in (told_standing b p (told_sound b p (runs_home b p)), told_tells b p)
