-- A rotation into which one name comes, alone or after a corner, is a rotation, and what was laid stays so. Assumes nothing.
use Rattle.std.proofs.Common.{◌≡◌, ℕ, zero, suc, true, false, ◌⊎◌, ℤ, pos, neg_ℤ, ◌≤ℤ◌, Some, None, Option, sym, refl, ap, ◌∙◌, subst, inl, inr, arith}
use Rattle.std.proofs.lemmas.Bool.{cond-true, cond-false, both_ways}
use Rattle.flat.specs.Orbits.{iterate}
use Rattle.flat.specs.Whole.{equal}
use Rattle.turning.specs.Turn.{Turn}
use Rattle.chart.specs.declared.point.Point.{Point}
use Rattle.chart.specs.Points.{told_on_sheet, on_sheet}
use Rattle.chart.specs.Changes.{at, alone, put_after, put}
use Rattle.laws.specs.Rotations.{Rotation, Located, Fresh, Corner}
use Rattle.laws.proofs.Equal.{tell, Tells}
use Rattle.laws.proofs.Listed.{shift}

module _ (n : ℕ) (t : Turn) (w : Rotation n t) (k : ℤ) (fresh : Fresh n t k) where
  -- a name is k, or was held
  abbrev Which : ℤ → Type 0
  Which h = ((equal h k ≡ true) × (h ≡ k)) ⊎ ((equal h k ≡ false) × (t.held h ≡ true))

  which : (h : ℤ) → at k true t.held h ≡ true → Which h
  which h e = go (tell h k)
    where
      go : Tells h k → Which h
      go (inl p) = inl p
      go (inr p) = inr (p.0, sym (cond-false _ _ _ p.0) ∙ e)

  old : (h : ℤ) → t.held h ≡ true → h ≡ k → ⊥
  old h e s = both_ways _ fresh.new (ap t.held (sym s) ∙ e)

  in_low : (h : ℤ) → Which h → neg_ℤ (pos n) ≤ℤ h
  in_low h (inl s) = subst (λ x. neg_ℤ (pos n) ≤ℤ x) (sym s.1) fresh.low
  in_low h (inr p) = w.low h p.1

  in_high : (h : ℤ) → Which h → h ≤ℤ pos n
  in_high h (inl s) = subst (λ x. x ≤ℤ pos n) (sym s.1) fresh.high
  in_high h (inr p) = w.high h p.1

  in_some : at k true t.held (pos 0) ≡ false
  in_some = grind (arith, tell (pos 0) k, w.no_zero, fresh.no_zero)

  -- ---- alone
  alone_rotation : Rotation n (alone k t)
  alone_rotation = record {
    no_zero = in_some;
    low = λ h e. in_low h (which h e);
    high = λ h e. in_high h (which h e);
    ahead = λ h e. grind (arith, tell h k, tell k k, tell (t.follower h) k, w.ahead h);
    behind = λ h e. grind (arith, tell h k, tell k k, tell (t.predecessor h) k, w.behind h);
    undone = λ h e. grind (arith, tell h k, tell k k, tell (t.follower h) k, w.ahead h, fresh.new, w.undone h);
    redone = λ h e. grind (arith, tell h k, tell k k, tell (t.predecessor h) k, w.behind h, fresh.new, w.redone h);
    no_follower = λ h e. grind (arith, tell h k, w.no_follower h);
    no_predecessor = λ h e. grind (arith, tell h k, w.no_predecessor h);
  }

  same_walk : (g : ℤ) → t.held g ≡ true → (j : ℕ) → (t.held (iterate j t.follower g) ≡ true) × (iterate j (alone k t).follower g ≡ iterate j t.follower g)
  same_walk g e zero = (e, refl)
  same_walk g e (suc j) =
      let r = same_walk g e j in (
        w.ahead (iterate j t.follower g) r.0,
        ap (alone k t).follower r.1 ∙ (let d = old (iterate j t.follower g) r.0 in grind (arith, tell (iterate j t.follower g) k)),
      )

  module _ (pl : ℤ → Option Point) (p : Located t pl) (q : Point) (sheet : on_sheet q ≡ true) where
    placed_at : (h : ℤ) → Which h → told_on_sheet (at k (Some q) pl h) ≡ true
    placed_at h (inl s) = ap told_on_sheet (cond-true _ _ _ s.0) ∙ sheet
    placed_at h (inr s) = ap told_on_sheet (cond-false _ _ _ s.0) ∙ p.somewhere h s.1

    alone_meet : Corner t pl None q → (g h : ℤ) → Which g → Which h → at k (Some q) pl g ≡ at k (Some q) pl h → (m : ℕ) × (iterate m (alone k t).follower g ≡ h)
    alone_meet empty g h (inl e) (inl f) s = (0, e.1 ∙ sym f.1)
    alone_meet empty g h (inl e) (inr f) s = absurd (empty h f.1 (sym (cond-false _ _ _ f.0) ∙ sym s ∙ cond-true _ _ _ e.0))
    alone_meet empty g h (inr e) (inl f) s = absurd (empty g e.1 (sym (cond-false _ _ _ e.0) ∙ s ∙ cond-true _ _ _ f.0))
    alone_meet empty g h (inr e) (inr f) s =
        let d = p.together g h e.1 f.1 (sym (cond-false _ _ _ e.0) ∙ s ∙ cond-false _ _ _ f.0) in
        (d.0, (same_walk g e.1 d.0).1 ∙ d.1)

    alone_laid : Corner t pl None q → Located (alone k t) (at k (Some q) pl)
    alone_laid empty = record {
      nowhere = λ h e. grind (arith, tell h k, p.nowhere h);
      somewhere = λ h e. placed_at h (which h e);
      together = λ g h e f s. alone_meet empty g h (which g e) (which h f) s;
      alike = λ g e. grind (arith, tell g k, tell k k, tell (t.follower g) k, p.alike g, w.ahead g, fresh.new);
    }

  -- ---- after a corner
  module _ (c : ℤ) (corner : t.held c ≡ true) where
    after_ahead : (h : ℤ) → (put_after c k t).held h ≡ true → (put_after c k t).held ((put_after c k t).follower h) ≡ true
    after_ahead h e = grind (arith, tell h k, tell h c, tell k k, tell (t.follower c) k, tell (t.follower h) k, w.ahead c corner, w.ahead h)

    after_behind : (h : ℤ) → (put_after c k t).held h ≡ true → (put_after c k t).held ((put_after c k t).predecessor h) ≡ true
    after_behind h e = grind (arith, tell h k, tell h (t.follower c), tell k k, tell c k, tell (t.predecessor h) k, corner, w.behind h)

    after_undone : (h : ℤ) → (put_after c k t).held h ≡ true → (put_after c k t).predecessor ((put_after c k t).follower h) ≡ h
    after_undone h e =
        let o = old (t.follower c) (w.ahead c corner) in
        let u = w.undone c corner in
        grind (arith, tell h k, tell h c, tell k k, tell (t.follower c) k, tell (t.follower c) (t.follower c), tell (t.follower h) k, tell (t.follower h) (t.follower c), w.ahead h, fresh.new, w.undone h)

    after_redone : (h : ℤ) → (put_after c k t).held h ≡ true → (put_after c k t).follower ((put_after c k t).predecessor h) ≡ h
    after_redone h e =
        grind (arith, tell h k, tell h (t.follower c), tell k k, tell c k, tell c c, tell (t.predecessor h) k, tell (t.predecessor h) c, old c corner, w.behind h, fresh.new, w.redone h)

    after_rotation : Rotation n (put_after c k t)
    after_rotation = record {
      no_zero = in_some;
      low = λ h e. in_low h (which h e);
      high = λ h e. in_high h (which h e);
      ahead = after_ahead;
      behind = after_behind;
      undone = after_undone;
      redone = after_redone;
      no_follower = λ h e. grind (arith, tell h k, tell h c, corner, w.no_follower h);
      no_predecessor = λ h e. grind (arith, tell h k, tell h (t.follower c), w.ahead c corner, w.no_predecessor h);
    }

    hop_c : (put_after c k t).follower c ≡ k
    hop_c = grind (arith, tell c k, tell c c, old c corner)

    hop_k : (put_after c k t).follower k ≡ t.follower c
    hop_k = grind (arith, tell k k)

    hop_other : (x : ℤ) → t.held x ≡ true → (x ≡ c → ⊥) → (put_after c k t).follower x ≡ t.follower x
    hop_other x e d = grind (arith, tell x k, tell x c, old x e)

    held_on : (g : ℤ) → t.held g ≡ true → (j : ℕ) → t.held (iterate j t.follower g) ≡ true
    held_on g e zero = e
    held_on g e (suc j) = w.ahead (iterate j t.follower g) (held_on g e j)

    reach : (g : ℤ) → t.held g ≡ true → (j : ℕ) → (m : ℕ) × (iterate m (put_after c k t).follower g ≡ iterate j t.follower g)
    reach g e zero = (0, refl)
    reach g e (suc j) = go (reach g e j) (tell (iterate j t.follower g) c)
      where
        go : (m : ℕ) × (iterate m (put_after c k t).follower g ≡ iterate j t.follower g) → Tells (iterate j t.follower g) c → (m : ℕ) × (iterate m (put_after c k t).follower g ≡ t.follower (iterate j t.follower g))
        go r (inl s) = (suc (suc r.0), ap (λ x. (put_after c k t).follower ((put_after c k t).follower x)) (r.1 ∙ s.1) ∙ ap (put_after c k t).follower hop_c ∙ hop_k ∙ ap t.follower (sym s.1))
        go r (inr s) = (suc r.0, ap (put_after c k t).follower r.1 ∙ hop_other (iterate j t.follower g) (held_on g e j) s.1)

    module _ (pl : ℤ → Option Point) (p : Located t pl) (q : Point) (sheet : on_sheet q ≡ true) (at_c : pl c ≡ Some q) where
      from_old : (g h : ℤ) → t.held g ≡ true → t.held h ≡ true → pl g ≡ pl h → (m : ℕ) × (iterate m (put_after c k t).follower g ≡ h)
      from_old g h e f s = let d = p.together g h e f s in let r = reach g e d.0 in (r.0, r.1 ∙ d.1)

      after_meet : (g h : ℤ) → Which g → Which h → at k (Some q) pl g ≡ at k (Some q) pl h → (m : ℕ) × (iterate m (put_after c k t).follower g ≡ h)
      after_meet g h (inl e) (inl f) s = (0, e.1 ∙ sym f.1)
      after_meet g h (inl e) (inr f) s =
          let same : pl (t.follower c) ≡ pl h = p.alike c corner ∙ at_c ∙ sym (cond-true _ _ _ e.0) ∙ s ∙ cond-false _ _ _ f.0 in
          let d = from_old (t.follower c) h (w.ahead c corner) f.1 same in
          (suc d.0, ap (iterate (suc d.0) (put_after c k t).follower) e.1 ∙ shift (put_after c k t).follower k d.0 ∙ ap (iterate d.0 (put_after c k t).follower) hop_k ∙ d.1)
      after_meet g h (inr e) (inl f) s =
          let same : pl g ≡ pl c = sym (cond-false _ _ _ e.0) ∙ s ∙ cond-true _ _ _ f.0 ∙ sym at_c in
          let d = from_old g c e.1 corner same in
          (suc d.0, ap (put_after c k t).follower d.1 ∙ hop_c ∙ sym f.1)
      after_meet g h (inr e) (inr f) s = from_old g h e.1 f.1 (sym (cond-false _ _ _ e.0) ∙ s ∙ cond-false _ _ _ f.0)

      after_laid : Located (put_after c k t) (at k (Some q) pl)
      after_laid = record {
        nowhere = λ h e. grind (arith, tell h k, p.nowhere h);
        somewhere = λ h e. placed_at pl p q sheet h (which h e);
        together = λ g h e f s. after_meet g h (which g e) (which h f) s;
        alike = λ g e.
            grind (arith, tell g k, tell g c, tell k k, tell (t.follower c) k, tell (t.follower g) k, old (t.follower c) (w.ahead c corner), p.alike c corner, p.alike g, w.ahead g, fresh.new, at_c);
      }

  -- ---- either
  module _ (pl : ℤ → Option Point) (p : Located t pl) (q : Point) (sheet : on_sheet q ≡ true) where
    pub put_rotation : (c : Option ℤ) → Corner t pl c q → Rotation n (put c k t)
    put_rotation None o = alone_rotation
    put_rotation (Some c) o = after_rotation c o.0

    pub put_laid : (c : Option ℤ) → Corner t pl c q → Located (put c k t) (at k (Some q) pl)
    put_laid None o = alone_laid pl p q sheet o
    put_laid (Some c) o = after_laid c o.0 pl p q sheet o.1

  pub put_held : (c : Option ℤ) (h : ℤ) → (put c k t).held h ≡ at k true t.held h
  put_held None h = refl
  put_held (Some c) h = refl
