-- An edge that may come in keeps the laws. Assumes nothing.
use Rattle.std.proofs.Common.{◌≡◌, ℕ, ◌≤◌, Bool, true, false, cond, ◌&&◌, ◌||◌, leb, ℤ, pos, neg_ℤ, Some, None, Option, sym, refl, ap, ◌∙◌, inl, inr, arith}
use lib.IntN.{neg_ℤ-neg_ℤ}
use lib.Signed.{lt_z}
use Rattle.std.proofs.lemmas.Bool.{cond-true, cond-false, and_parts, not-true, both_ways, leb-true}
use Rattle.std.proofs.lemmas.Int.{ints}
use Rattle.flat.specs.Whole.{equal}
use Rattle.chart.specs.declared.point.Point.{Point}
use Rattle.chart.specs.declared.point.End.{End}
use Rattle.chart.specs.Points.{on_sheet, same_point, west, is_point, told_west}
use Rattle.chart.specs.Linework.{Linework}
use Rattle.chart.specs.Changes.{at, put, hung, may_hang, western, eastern, joins_at, numbered}
use Rattle.laws.specs.Rotations.{Rotation, Located, Fresh, Corner, Ends}
use Rattle.laws.specs.Keeps.{Sound}
use Rattle.laws.proofs.Equal.{tell, Tells, some_same, eight}
use Rattle.laws.proofs.Listed.{untaken}
use Rattle.laws.proofs.Edges.{rotation_of, lawful_by, laid_of, placed_by, Closed, Westward, neg_apart, pos_apart, neg_same}
use Rattle.laws.proofs.Hooks.{put_rotation, put_laid, put_held}

pub told_is : (p : Point) (o : Option Point) → is_point p o ≡ true → o ≡ Some p
told_is p None e = absurd (both_ways false refl e)
told_is p (Some q) e =
    let s = and_parts (equal p.x q.x) (equal p.y q.y) e in
    let x : p.x ≡ q.x = grind (arith, tell p.x q.x, s.0) in
    let y : p.y ≡ q.y = grind (arith, tell p.y q.y, s.1) in
    let e : p ≡ q = λ i. record { x = x i; y = y i } in
    ap Some (sym e)

pub corner_of : (n : ℕ) (l : Linework) → Rotation n l.turn → (p : Point) (c : Option ℤ) → joins_at n l p c ≡ true → Corner l.turn l.points c p
corner_of n l w p None e = untaken n l.turn w l.points p (not-true _ e)
corner_of n l w p (Some c) e = let s = and_parts _ _ e in (s.0, told_is p (l.points c) s.1)

-- no point is west of itself
pub west_apart : (p q : Point) → west p q ≡ true → p ≡ q → ⊥
west_apart p q w e = let f : west p p ≡ true = ap (west p) e ∙ w in never p.x p.y f
  where
    never : (x y : ℤ) → (lt_z x x || (equal x x && lt_z y y)) ≡ true → ⊥
    never x y e = grind (arith, ints, e)

module _ (n : ℕ) (l : Linework) (s : Sound n l) (e : ℕ) (p q : Point) (c d : Option ℤ) (m : Ends n l e p q c d) where
  pub hang_rotation₀ : Rotation n l.turn
  hang_rotation₀ = rotation_of n l.turn s.0

  laid₀ : Located l.turn l.points
  laid₀ = laid_of n l.turn hang_rotation₀ l.points s.1

  pub hang_fresh₀ : Fresh n l.turn (pos e)
  hang_fresh₀ = let a = m.low in let b = m.high in record { new = m.new; no_zero = λ z. omega (arith, ints); low = omega (arith, ints); high = omega (arith, ints) }

  pub hang_rotation₁ : Rotation n (put c (pos e) l.turn)
  hang_rotation₁ = put_rotation n l.turn hang_rotation₀ (pos e) hang_fresh₀ l.points laid₀ p m.here c m.start

  laid₁ : Located (put c (pos e) l.turn) (at (pos e) (Some p) l.points)
  laid₁ = put_laid n l.turn hang_rotation₀ (pos e) hang_fresh₀ l.points laid₀ p m.here c m.start

  held₁ : (h : ℤ) → (put c (pos e) l.turn).held h ≡ at (pos e) true l.turn.held h
  held₁ h = put_held n l.turn hang_rotation₀ (pos e) hang_fresh₀ c h

  twin_new : l.turn.held (neg_ℤ (pos e)) ≡ false
  twin_new = grind (arith, s.0.closed (neg_ℤ (pos e)), neg_ℤ-neg_ℤ (pos e), m.new)

  pub hang_fresh₁ : Fresh n (put c (pos e) l.turn) (neg_ℤ (pos e))
  hang_fresh₁ =
      let a = m.low in
      let b = m.high in
      record {
        new = held₁ (neg_ℤ (pos e)) ∙ grind (arith, tell (neg_ℤ (pos e)) (pos e), neg_apart e e a, twin_new);
        no_zero = λ z. omega (arith, ints);
        low = omega (arith, ints);
        high = omega (arith, ints);
      }

  end_alone : Corner l.turn l.points None q → (g : ℤ) → (put c (pos e) l.turn).held g ≡ true → at (pos e) (Some p) l.points g ≡ Some q → ⊥
  end_alone o g h s = go (tell g (pos e))
    where
      go : Tells g (pos e) → ⊥
      go (inl x) = west_apart p q m.west (some_same p q (sym (cond-true _ _ _ x.0) ∙ s))
      go (inr x) = o g (sym (cond-false _ _ _ x.0) ∙ sym (held₁ g) ∙ h) (sym (cond-false _ _ _ x.0) ∙ s)

  end_go : (d : Option ℤ) → Corner l.turn l.points d q → Corner (put c (pos e) l.turn) (at (pos e) (Some p) l.points) d q
  end_go None o = end_alone o
  end_go (Some d) o = (held₁ d ∙ grind (arith, tell d (pos e), o.0), grind (arith, tell d (pos e), o.0, o.1, m.new))

  pub hang_end₁ : Corner (put c (pos e) l.turn) (at (pos e) (Some p) l.points) d q
  hang_end₁ = end_go d m.end

  abbrev made : Linework
  made = record { turn = put d (neg_ℤ (pos e)) (put c (pos e) l.turn); points = at (neg_ℤ (pos e)) (Some q) (at (pos e) (Some p) l.points) }

  rotation₂ : Rotation n made.turn
  rotation₂ = put_rotation n (put c (pos e) l.turn) hang_rotation₁ (neg_ℤ (pos e)) hang_fresh₁ (at (pos e) (Some p) l.points) laid₁ q m.there d hang_end₁

  laid₂ : Located made.turn made.points
  laid₂ = put_laid n (put c (pos e) l.turn) hang_rotation₁ (neg_ℤ (pos e)) hang_fresh₁ (at (pos e) (Some p) l.points) laid₁ q m.there d hang_end₁

  held₂ : (h : ℤ) → made.turn.held h ≡ at (neg_ℤ (pos e)) true (at (pos e) true l.turn.held) h
  held₂ h = put_held n (put c (pos e) l.turn) hang_rotation₁ (neg_ℤ (pos e)) hang_fresh₁ d h ∙ ap (cond (equal h (neg_ℤ (pos e))) true) (held₁ h)

  closed₂ : Closed made.turn
  closed₂ h y =
      let a : at (neg_ℤ (pos e)) true (at (pos e) true l.turn.held) h ≡ true = sym (held₂ h) ∙ y in
      held₂ (neg_ℤ h) ∙ grind (arith, tell h (pos e), tell h (neg_ℤ (pos e)), tell (neg_ℤ h) (pos e), tell (neg_ℤ h) (neg_ℤ (pos e)), neg_ℤ-neg_ℤ h, neg_ℤ-neg_ℤ (pos e), s.0.closed h)

  west₂ : Westward made.turn made.points
  west₂ g y = go (tell (pos g) (pos e))
    where
      off : pos g ≡ neg_ℤ (pos e) → ⊥
      off = pos_apart g e m.low

      go : Tells (pos g) (pos e) → told_west (made.points (pos g)) (made.points (neg_ℤ (pos g))) ≡ true
      go (inl x) =
          let a : made.points (pos g) ≡ Some p = grind (arith, tell (pos g) (pos e), tell (pos g) (neg_ℤ (pos e)), off, x.1) in
          let b : made.points (neg_ℤ (pos g)) ≡ Some q = ap (λ z. made.points (neg_ℤ z)) x.1 ∙ grind (arith, tell (neg_ℤ (pos e)) (neg_ℤ (pos e))) in
          ap (λ z. told_west z (made.points (neg_ℤ (pos g)))) a ∙ ap (told_west (Some p)) b ∙ m.west
      go (inr x) =
          let old : l.turn.held (pos g) ≡ true = grind (arith, tell (pos g) (pos e), tell (pos g) (neg_ℤ (pos e)), off, x.1, sym (held₂ (pos g)) ∙ y) in
          let a : made.points (pos g) ≡ l.points (pos g) = grind (arith, tell (pos g) (pos e), tell (pos g) (neg_ℤ (pos e)), off, x.1) in
          let b : made.points (neg_ℤ (pos g)) ≡ l.points (neg_ℤ (pos g)) =
          grind (arith, tell (neg_ℤ (pos g)) (pos e), tell (neg_ℤ (pos g)) (neg_ℤ (pos e)), x.1, neg_same g e, neg_apart g e m.low) in
          ap (λ z. told_west z (made.points (neg_ℤ (pos g)))) a ∙ ap (told_west (l.points (pos g))) b ∙ s.1.westward g old

  pub hang_sound : Sound n (record { turn = put d (neg_ℤ (pos e)) (put c (pos e) l.turn); points = at (neg_ℤ (pos e)) (Some q) (at (pos e) (Some p) l.points) })
  hang_sound = (lawful_by n made.turn rotation₂ closed₂, placed_by n made.turn rotation₂ made.points laid₂ west₂)

-- of two points that are not the same, one is west
west_other : (p q : Point) → same_point p q ≡ false → west p q ≡ false → west q p ≡ true
west_other p q d w = go p.x p.y q.x q.y d w
  where
    go : (x y u v : ℤ) → (equal x u && equal y v) ≡ false → (lt_z x u || (equal x u && lt_z y v)) ≡ false → (lt_z u x || (equal u x && lt_z v y)) ≡ true
    go x y u v d w = grind (arith, ints, tell x u, tell u x, tell y v)

pub numbered_low : (n e : ℕ) → numbered n e ≡ true → 1 ≤ e
numbered_low n e h = leb-true 1 e (and_parts (leb 1 e) (leb e n) h).0

pub numbered_high : (n e : ℕ) → numbered n e ≡ true → e ≤ n
numbered_high n e h = leb-true e n (and_parts (leb 1 e) (leb e n) h).1

-- what may hang has its ends in order
module _ (n : ℕ) (l : Linework) (s : Sound n l) (fits : Point → Point → Bool) (e : ℕ) (a b : End) (may : may_hang n l fits e a b ≡ true) where
  -- from the tests in their order
  parts : (numbered n e ≡ true) × (l.turn.held (pos e) ≡ false) × (on_sheet a.point ≡ true) × (on_sheet b.point ≡ true) × (same_point a.point b.point ≡ false)
      × (joins_at n l a.point a.corner ≡ true) × (joins_at n l b.point b.corner ≡ true) × (fits a.point b.point ≡ true)
  parts = let q = eight _ _ _ _ _ _ _ _ may in (q.0, not-true _ q.1, q.2, q.3, not-true _ q.4, q.5, q.6, q.7)

  abbrev HangsAt : End → End → Type 0
  HangsAt f g = Ends n l e f.point g.point f.corner g.corner

  ends_at : (f g : End) → (on_sheet f.point ≡ true) × (joins_at n l f.point f.corner ≡ true) → (on_sheet g.point ≡ true) × (joins_at n l g.point g.corner ≡ true) → west f.point g.point ≡ true → HangsAt f g
  ends_at f g i j w =
      let rotation = rotation_of n l.turn s.0 in
      record {
        low = numbered_low n e parts.0;
        high = numbered_high n e parts.0;
        new = parts.1;
        here = i.0;
        there = j.0;
        start = corner_of n l rotation f.point f.corner i.1;
        end = corner_of n l rotation g.point g.corner j.1;
        west = w;
      }

  pub hang_ends : Ends n l e (western a b).point (eastern a b).point (western a b).corner (eastern a b).corner
  hang_ends = go (west a.point b.point) refl
    where
      go : (w : Bool) → west a.point b.point ≡ w → HangsAt (cond w a b) (cond w b a)
      go true w = ends_at a b (parts.2, parts.5) (parts.3, parts.6) w
      go false w = ends_at b a (parts.3, parts.6) (parts.2, parts.5) (west_other a.point b.point parts.4 w)

  pub hung_sound : Sound n (hung e a b l)
  hung_sound = hang_sound n l s e (western a b).point (eastern a b).point (western a b).corner (eastern a b).corner hang_ends
