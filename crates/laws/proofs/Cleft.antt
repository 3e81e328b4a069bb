-- An edge that may be cleft keeps the laws: four changes of single names make up the one. Assumes nothing.
use Rattle.std.proofs.Common.{◌≡◌, ℕ, ◌≤◌, Bool, true, false, cond, ◌⊎◌, ℤ, pos, neg_ℤ, Some, None, Option, sym, refl, ap, ◌∙◌, subst, inl, inr, arith}
use lib.IntN.{neg_ℤ-neg_ℤ}
use Rattle.std.proofs.lemmas.Bool.{cases_Bool, cond-true, cond-false, not-true, both_ways}
use Rattle.std.proofs.lemmas.Int.{ints}
use Rattle.flat.specs.Whole.{equal}
use Rattle.turning.specs.Turn.{Turn}
use Rattle.chart.specs.declared.point.Point.{Point}
use Rattle.chart.specs.Points.{west, told_west, told_on_sheet}
use Rattle.chart.specs.Linework.{Linework}
use Rattle.chart.specs.Changes.{at, put_after, alone, drawn, cleft, may_cleave}
use Rattle.laws.specs.Rotations.{Rotation, Located, Fresh, Corner, Cuts}
use Rattle.laws.specs.Keeps.{Sound}
use Rattle.laws.proofs.Equal.{tell, Tells, some_same, eight}
use Rattle.laws.proofs.Listed.{untaken}
use Rattle.laws.proofs.Draws.{draw_held, drawn_rotation, drawn_laid}
use Rattle.laws.proofs.Hooks.{put_rotation, put_laid}
use Rattle.laws.proofs.Edges.{rotation_of, lawful_by, laid_of, placed_by, Closed, Westward, neg_apart, pos_apart, neg_same, held_some}
use Rattle.laws.proofs.Hung.{west_apart, numbered_low, numbered_high}

-- ---- the four steps on a turning: E is the name that moves, F the one that takes its place, G the one that starts with it
abbrev pub step₁ : ℤ → ℤ → Turn → Turn
step₁ E F t = put_after E F t

abbrev pub step₂ : ℤ → ℤ → Turn → Turn
step₂ E F t = drawn E (step₁ E F t)

abbrev pub step₃ : ℤ → ℤ → Turn → Turn
step₃ E F t = alone E (step₂ E F t)

abbrev pub step₄ : ℤ → ℤ → ℤ → Turn → Turn
step₄ E F G t = put_after E G (step₃ E F t)

-- where each name leads after them
module _ (n : ℕ) (t : Turn) (w : Rotation n t) (E F G : ℤ) (here : t.held E ≡ true) (F_new : t.held F ≡ false) (E_not_F : E ≡ F → ⊥) (E_not_G : E ≡ G → ⊥) (F_not_G : F ≡ G → ⊥) where
  E_some : E ≡ pos 0 → ⊥
  E_some z = both_ways _ w.no_zero (ap t.held (sym z) ∙ here)

  follower₁ : (step₁ E F t).follower E ≡ F
  follower₁ = grind (arith, tell E F, tell E E)

  predecessor₁ : (step₁ E F t).predecessor E ≡ cond (equal (t.follower E) E) F (t.predecessor E)
  predecessor₁ = grind (arith, tell E F, tell E (t.follower E), tell (t.follower E) E)

  abbrev f : ℤ → ℤ
  f = t.follower

  abbrev g : ℤ → ℤ
  g = t.predecessor

  facts : ((step₁ E F t).follower E ≡ F) × ((step₁ E F t).predecessor E ≡ cond (equal (f E) E) F (g E)) × (f (g E) ≡ E) × (g (f E) ≡ E) × (t.held (g E) ≡ true)
  facts = (follower₁, predecessor₁, w.redone E here, w.undone E here, w.behind E here)

  -- one that leads to E is the one before E
  only : (h : ℤ) → t.follower h ≡ E → h ≡ t.predecessor E
  only h z = go (cases_Bool (t.held h))
    where
      go : (t.held h ≡ true) ⊎ (t.held h ≡ false) → h ≡ t.predecessor E
      go (inl k) = sym (w.undone h k) ∙ ap t.predecessor z
      go (inr k) = absurd (E_some (sym z ∙ w.no_follower h k))

  only_back : (h : ℤ) → t.predecessor h ≡ E → h ≡ t.follower E
  only_back h z = go (cases_Bool (t.held h))
    where
      go : (t.held h ≡ true) ⊎ (t.held h ≡ false) → h ≡ t.follower E
      go (inl k) = sym (w.redone h k) ∙ ap t.follower z
      go (inr k) = absurd (E_some (sym z ∙ w.no_predecessor h k))

  abbrev moved : (ℤ → ℤ) → ℤ → ℤ
  moved step h =
      cond (equal h E) G (cond (equal h G) E (cond (equal h F) (cond (equal (step E) E) F (step E)) (cond (equal (step h) E) F (step h))))

  pub follower₄ : (h : ℤ) → (step₄ E F G t).follower h ≡ moved t.follower h
  follower₄ h =
      let o = only h in
      grind (arith, facts, tell h G, tell h E, tell h F, tell E E, tell (f E) E, tell (f h) E, tell h ((step₁ E F t).predecessor E), F_new, E_not_F, E_not_G, F_not_G)

  pub predecessor₄ : (h : ℤ) → (step₄ E F G t).predecessor h ≡ moved t.predecessor h
  predecessor₄ h =
      let o = only_back h in
      grind (arith, facts, tell h G, tell h E, tell h F, tell E E, tell (f E) E, tell (g E) E, tell (g h) E, tell h (f E), F_new, E_not_F, E_not_G, F_not_G)

module _ (n : ℕ) (l : Linework) (s : Sound n l) (e f : ℕ) (p q : Point) (m : Cuts n l e f p q) where
  abbrev t : Turn
  t = l.turn

  abbrev E : ℤ
  E = neg_ℤ (pos e)

  abbrev F : ℤ
  F = neg_ℤ (pos f)

  abbrev G : ℤ
  G = pos f

  pub cleave_rotation₀ : Rotation n l.turn
  cleave_rotation₀ = rotation_of n t s.0

  laid₀ : Located t l.points
  laid₀ = laid_of n t cleave_rotation₀ l.points s.1

  pub cleave_held : l.turn.held (neg_ℤ (pos e)) ≡ true
  cleave_held = s.0.closed (pos e) m.here

  E_not_F : E ≡ F → ⊥
  E_not_F z = both_ways _ m.new (ap t.held (sym (neg_same e f z)) ∙ m.here)

  E_not_G : E ≡ G → ⊥
  E_not_G z = neg_apart e f m.low z

  F_not_G : F ≡ G → ⊥
  F_not_G z = neg_apart f f m.low z

  F_new : t.held F ≡ false
  F_new = grind (arith, s.0.closed F, neg_ℤ-neg_ℤ (pos f), m.new)

  pub cleave_fresh₁ : Fresh n l.turn (neg_ℤ (pos f))
  cleave_fresh₁ = let a = m.low in let b = m.high in record { new = F_new; no_zero = λ z. omega (arith, ints); low = omega (arith, ints); high = omega (arith, ints) }

  abbrev pl₁ : ℤ → Option Point
  pl₁ = at F (Some q) l.points

  pub cleave_rotation₁ : Rotation n (step₁ (neg_ℤ (pos e)) (neg_ℤ (pos f)) l.turn)
  cleave_rotation₁ = put_rotation n t cleave_rotation₀ F cleave_fresh₁ l.points laid₀ q m.sheet_q (Some E) (cleave_held, m.ends)

  laid₁ : Located (step₁ E F t) pl₁
  laid₁ = put_laid n t cleave_rotation₀ F cleave_fresh₁ l.points laid₀ q m.sheet_q (Some E) (cleave_held, m.ends)

  pub cleave_held₁ : (step₁ (neg_ℤ (pos e)) (neg_ℤ (pos f)) l.turn).held (neg_ℤ (pos e)) ≡ true
  cleave_held₁ = grind (arith, tell E F, cleave_held)

  pub cleave_rotation₂ : Rotation n (step₂ (neg_ℤ (pos e)) (neg_ℤ (pos f)) l.turn)
  cleave_rotation₂ = drawn_rotation n (step₁ E F t) cleave_rotation₁ E cleave_held₁

  abbrev pl₂ : ℤ → Option Point
  pl₂ = at E None pl₁

  laid₂ : Located (step₂ E F t) pl₂
  laid₂ = drawn_laid n (step₁ E F t) cleave_rotation₁ E cleave_held₁ pl₁ laid₁

  pub cleave_fresh₃ : Fresh n (step₂ (neg_ℤ (pos e)) (neg_ℤ (pos f)) l.turn) (neg_ℤ (pos e))
  cleave_fresh₃ = record {
    new = grind (arith, tell E E);
    no_zero = λ z. both_ways _ s.0.no_zero (ap t.held (sym z) ∙ cleave_held);
    low = s.0.low E cleave_held;
    high = s.0.high E cleave_held;
  }

  empty₂ : Corner (step₂ E F t) pl₂ None p
  empty₂ g h z = go (tell g F)
    where
      k : ((step₁ E F t).held g ≡ true) × (equal g E ≡ false)
      k = draw_held n (step₁ E F t) cleave_rotation₁ E cleave_held₁ g h

      z₁ : pl₁ g ≡ Some p
      z₁ = sym (cond-false _ _ _ k.1) ∙ z

      go : Tells g F → ⊥
      go (inl x) = west_apart p q m.west_q (some_same p q (sym z₁ ∙ cond-true _ _ _ x.0))
      go (inr x) = m.empty g (sym (cond-false _ _ _ x.0) ∙ k.0) (sym (cond-false _ _ _ x.0) ∙ z₁)

  pub cleave_rotation₃ : Rotation n (step₃ (neg_ℤ (pos e)) (neg_ℤ (pos f)) l.turn)
  cleave_rotation₃ = put_rotation n (step₂ E F t) cleave_rotation₂ E cleave_fresh₃ pl₂ laid₂ p m.sheet None empty₂

  abbrev pl₃ : ℤ → Option Point
  pl₃ = at E (Some p) pl₂

  laid₃ : Located (step₃ E F t) pl₃
  laid₃ = put_laid n (step₂ E F t) cleave_rotation₂ E cleave_fresh₃ pl₂ laid₂ p m.sheet None empty₂

  pub cleave_held₃ : (step₃ (neg_ℤ (pos e)) (neg_ℤ (pos f)) l.turn).held (neg_ℤ (pos e)) ≡ true
  cleave_held₃ = grind (arith, tell E E)

  pub cleave_fresh₄ : Fresh n (step₃ (neg_ℤ (pos e)) (neg_ℤ (pos f)) l.turn) (pos f)
  cleave_fresh₄ =
      let a = m.low in
      let b = m.high in
      record {
        new = grind (arith, tell G E, tell G F, E_not_G, F_not_G, m.new);
        no_zero = λ z. omega (arith, ints);
        low = omega (arith, ints);
        high = omega (arith, ints);
      }

  corner₄ : Corner (step₃ E F t) pl₃ (Some E) p
  corner₄ = (cleave_held₃, grind (arith, tell E E))

  rotation₄ : Rotation n (step₄ E F G t)
  rotation₄ = put_rotation n (step₃ E F t) cleave_rotation₃ G cleave_fresh₄ pl₃ laid₃ p m.sheet (Some E) corner₄

  abbrev pl₄ : ℤ → Option Point
  pl₄ = at G (Some p) pl₃

  laid₄ : Located (step₄ E F G t) pl₄
  laid₄ = put_laid n (step₃ E F t) cleave_rotation₃ G cleave_fresh₄ pl₃ laid₃ p m.sheet (Some E) corner₄

  -- ---- the four are the one
  held_is : (h : ℤ) → (step₄ E F G t).held h ≡ (cleft e f p l).turn.held h
  held_is h = grind (arith, tell h G, tell h E, tell h F, cleave_held)

  follower_is : (h : ℤ) → (step₄ E F G t).follower h ≡ (cleft e f p l).turn.follower h
  follower_is h = follower₄ n t cleave_rotation₀ E F G cleave_held F_new E_not_F E_not_G F_not_G h

  predecessor_is : (h : ℤ) → (step₄ E F G t).predecessor h ≡ (cleft e f p l).turn.predecessor h
  predecessor_is h = predecessor₄ n t cleave_rotation₀ E F G cleave_held F_new E_not_F E_not_G F_not_G h

  pub cleave_turn : step₄ (neg_ℤ (pos e)) (neg_ℤ (pos f)) (pos f) l.turn ≡ (cleft e f p l).turn
  cleave_turn = λ i. record { held = λ h. held_is h i; follower = λ h. follower_is h i; predecessor = λ h. predecessor_is h i }

  points_is : (h : ℤ) → pl₄ h ≡ (cleft e f p l).points h
  points_is h = grind (arith, tell h G, tell h E, tell h F, E_not_F, E_not_G, F_not_G, m.ends)

  pub cleave_points : at (pos f) (Some p) (at (neg_ℤ (pos e)) (Some p) (at (neg_ℤ (pos e)) None (at (neg_ℤ (pos f)) (Some q) l.points))) ≡ (cleft e f p l).points
  cleave_points = λ i h. points_is h i

  rotation_all : Rotation n (cleft e f p l).turn
  rotation_all = subst (Rotation n) cleave_turn rotation₄

  laid_all : Located (cleft e f p l).turn (cleft e f p l).points
  laid_all = subst (λ u. Located u (cleft e f p l).points) cleave_turn (subst (Located (step₄ E F G t)) cleave_points laid₄)

  closed_all : Closed (cleft e f p l).turn
  closed_all h y =
      grind (arith, tell h G, tell h F, tell (neg_ℤ h) G, tell (neg_ℤ h) F, neg_ℤ-neg_ℤ h, neg_ℤ-neg_ℤ (pos f), s.0.closed h)

  e_one : 1 ≤ e
  e_one = held_some n t cleave_rotation₀ e m.here

  points_old : (g : ℕ) → (pos g ≡ G → ⊥) → (cleft e f p l).points (pos g) ≡ l.points (pos g)
  points_old g d = grind (arith, tell (pos g) F, tell (pos g) G, tell (pos g) E, pos_apart g f m.low, pos_apart g e e_one)

  twin_old : (g : ℕ) → (pos g ≡ G → ⊥) → (pos g ≡ pos e → ⊥) → (cleft e f p l).points (neg_ℤ (pos g)) ≡ l.points (neg_ℤ (pos g))
  twin_old g d d' = grind (arith, tell (neg_ℤ (pos g)) F, tell (neg_ℤ (pos g)) G, tell (neg_ℤ (pos g)) E, neg_same g f, neg_same g e, neg_apart g f m.low)

  west_all : Westward (cleft e f p l).turn (cleft e f p l).points
  west_all g y = go (tell (pos g) G) (tell (pos g) (pos e))
    where
      go : Tells (pos g) G → Tells (pos g) (pos e) → told_west ((cleft e f p l).points (pos g)) ((cleft e f p l).points (neg_ℤ (pos g))) ≡ true
      go (inl x) _ =
          let a : (cleft e f p l).points G ≡ Some p = grind (arith, tell G G, tell G F, F_not_G) in
          let b : (cleft e f p l).points F ≡ Some q = grind (arith, tell F F, m.ends) in
          ap (λ z. told_west ((cleft e f p l).points z) ((cleft e f p l).points (neg_ℤ z))) x.1 ∙ ap (λ z. told_west z ((cleft e f p l).points F)) a ∙ ap (told_west (Some p)) b ∙ m.west_q
      go (inr x) (inl k) =
          let b : (cleft e f p l).points E ≡ Some p = grind (arith, tell E E, tell E F, tell E G, E_not_F, E_not_G) in
          ap (λ z. told_west z ((cleft e f p l).points (neg_ℤ (pos g)))) (points_old g x.1 ∙ ap l.points k.1)
          ∙ ap (told_west (l.points (pos e))) (ap (λ z. (cleft e f p l).points (neg_ℤ z)) k.1 ∙ b) ∙ m.west_p
      go (inr x) (inr k) =
          let old : t.held (pos g) ≡ true = grind (arith, tell (pos g) G, tell (pos g) F, pos_apart g f m.low, x.1, y) in
          ap (λ z. told_west z ((cleft e f p l).points (neg_ℤ (pos g)))) (points_old g x.1) ∙ ap (told_west (l.points (pos g))) (twin_old g x.1 k.1) ∙ s.1.westward g old

  pub cleave_sound : Sound n (cleft e f p l)
  cleave_sound = (lawful_by n (cleft e f p l).turn rotation_all closed_all, placed_by n (cleft e f p l).turn rotation_all (cleft e f p l).points laid_all west_all)

told_to : (p : Point) (o : Option Point) → told_west (Some p) o ≡ true → (q : Point) × (o ≡ Some q) × (west p q ≡ true)
told_to p None z = absurd (both_ways false refl z)
told_to p (Some q) z = (q, refl, z)

-- what may be cleft asks no more
module _ (n : ℕ) (l : Linework) (s : Sound n l) (fits : Point → Point → Bool) (e f : ℕ) (p : Point) (may : may_cleave n l fits e f p ≡ true) where
  pub cleave_cuts : (q : Point) × Cuts n l e f p q
  cleave_cuts =
      let q = eight _ _ _ _ _ _ _ _ may in
      let to = told_to p (l.points (neg_ℤ (pos e))) q.6 in (
        to.0,
        record {
          here = q.0;
          low = numbered_low n f q.1;
          high = numbered_high n f q.1;
          new = not-true _ q.2;
          sheet = q.3;
          empty = untaken n l.turn (rotation_of n l.turn s.0) l.points p (not-true _ q.4);
          ends = to.1;
          sheet_q = subst (λ o. told_on_sheet o ≡ true) to.1 (s.1.somewhere (neg_ℤ (pos e)) (s.0.closed (pos e) q.0));
          west_p = q.5;
          west_q = to.2;
        },
      )

  pub cleft_sound : Sound n (cleft e f p l)
  cleft_sound = let c = cleave_cuts in cleave_sound n l s e f p c.0 c.1
