-- What a table of questions answers once the earlier questions are answered yes, and the edits whole.
-- Assumes nothing.
use Rattle.std.proofs.Common.{◌≡◌, ℕ, Bool, true, false, cond, not, ◌&&◌, List, [], ◌∷◌, ℤ, pos, neg_ℤ, Some, Ok, Err, sym, refl, ap, ◌∙◌, subst, ap₂}
use Rattle.std.proofs.lemmas.Bool.{and_parts, and_from, not-true, not_from_false, not_from_true, cond-true, cond-false}
use Rattle.turning.specs.declared.refusal.Refusal.{Refusal}
use Rattle.turning.specs.declared.refusal.Refusal.TheVariants.{NoRoom, SameEnds}
use Rattle.turning.specs.Refusals.{Questions, Outcome, outcome}
use Rattle.turning.specs.Turn.{Lawful}
use Rattle.search.specs.Buffers.{enough}
use Rattle.chart.specs.declared.point.Point.{Point}
use Rattle.chart.specs.declared.point.End.{End}
use Rattle.chart.specs.Points.{is_point, on_sheet, same_point, told_west}
use Rattle.chart.specs.Linework.{Linework}
use Rattle.chart.specs.Changes.{numbered, vertex_at, hung, may_hang, joins_at, may_cleave}
use Rattle.chart.specs.Stores.{Meaning, Change, Hangs, Cleaves}
use Rattle.chart.specs.Ends.{new_end, after_corner}
use Rattle.edits.specs.Edits.{starts, sprouts, joins, splits, questions, join_questions, Changed, Settled, Done, free_point, inside, may_join, told_point, corner_end, start_of}
use Rattle.edits.specs.Asked.{Started}
use Rattle.edits.proofs.Points.{point_refl, apart_from}

-- the outcome of a change that answers r
abbrev pub said : Bool → Refusal → Outcome
said r x = cond r (Ok tt) (Err x)

-- questions that come down to one change of the store, which answers the last of them
pub closes : (qs : Questions) (to : Linework) (m m' : Meaning) (x : Refusal) (a r : Bool) → outcome qs ≡ said a x → Change m a to r m' → Settled qs to m (said r x) m'
closes qs to m m' x a r t h = record { told = ap (λ b. said b x) h.told ∙ sym t; changed = go r h.changed h.framed h.kept }
  where
    go : (r : Bool) → (r ≡ true → m'.lines ≡ to) → (r ≡ true → m'.frame ≡ m.frame) → (r ≡ false → m' ≡ m) → Changed (said r x) to m m'
    go true c f k = (c refl, f refl)
    go false c f k = k refl

-- the questions before the last are answered yes, and so the last decides
abbrev Earlier : Questions → Type 0
Earlier [] = ⊥
Earlier (q ∷ []) = Unit {0}
Earlier (q ∷ (r ∷ qs)) = (q.0 ≡ true) × Earlier (r ∷ qs)

abbrev last_no : Questions → Outcome
last_no [] = Ok tt
last_no (q ∷ []) = said q.0 q.1
last_no (q ∷ (r ∷ qs)) = last_no (r ∷ qs)

decides : (qs : Questions) → Earlier qs → outcome qs ≡ last_no qs
decides [] h = absurd h
decides ((a, x) ∷ []) h = refl
decides ((a, x) ∷ (r ∷ qs)) h = cond-true a _ _ h.0 ∙ decides (r ∷ qs) h.1

-- a join with buffers that are long enough
pub join_whole : (n : ℕ) (m m' : Meaning) (e : ℕ) (c d y z : ℤ) → y ≡ c → z ≡ d → (marks : List ℕ) (line : List ℤ) → enough n marks line ≡ true → (r : Outcome)
    → Settled (join_questions n m e y z) (hung e (corner_end m.lines y) (corner_end m.lines z) m.lines) m r m' → Done n m (joins e c d marks line) r m'
join_whole n m m' e c d y z i j marks line long r h =
    subst (λ w. Done n m (joins e w d marks line) r m') i (subst (λ w. Done n m (joins e y w marks line) r m') j
    (record { told = h.told ∙ sym (cond-true _ _ _ long); changed = h.changed }))

-- a store that has no other reason to say no asks whether it fits
hangs_if : (nu he oa ob sp ja jb fi : Bool) → nu ≡ true → he ≡ false → oa ≡ true → ob ≡ true → sp ≡ false → ja ≡ true → jb ≡ true
    → fi ≡ (nu && not he && oa && ob && not sp && ja && jb && fi)
hangs_if nu he oa ob sp ja jb fi a b c d e f g = rw (a, b, c, d, e, f, g)

cleaves_if : (he nu hf os ta we ea fi : Bool) → he ≡ true → nu ≡ true → hf ≡ false → os ≡ true → ta ≡ false → we ≡ true → ea ≡ true
    → fi ≡ (he && nu && not hf && os && not ta && we && ea && fi)
cleaves_if he nu hf os ta we ea fi a b c d e f g = rw (a, b, c, d, e, f, g)

-- at a corner that starts somewhere
joins_corner : (n : ℕ) (l : Linework) (c : ℤ) (at : Point) → Started l c (Some at) → joins_at n l at (Some c) ≡ true
joins_corner n l c at f = and_from _ _ f.0 (ap (is_point at) f.1 ∙ point_refl at)

pub start_is : (l : Linework) (c : ℤ) (at : Point) → Started l c (Some at) → start_of l c ≡ at
start_is l c at f = ap told_point f.1

-- the end that the code makes at a corner is the one that is meant
pub corner_is : (l : Linework) (c : ℤ) (at : Point) → Started l c (Some at) → after_corner at c ≡ corner_end l c
corner_is l c at f = ap (λ w. after_corner w c) (sym (start_is l c at f))

module _ (n : ℕ) (m : Meaning) (e : ℕ) (number : numbered n e ≡ true) (unused : m.lines.turn.held (pos e) ≡ false) where
  pub start_asked : (p q : Point) → free_point n m.lines p ≡ true → free_point n m.lines q ≡ true → same_point p q ≡ false
      → outcome (questions n m (starts e p q)) ≡ said (may_hang n m.lines m.fits e (new_end p) (new_end q)) NoRoom
  start_asked p q fp fq s =
      let a = and_parts (on_sheet p) (not (vertex_at n m.lines p)) fp in
      let b = and_parts (on_sheet q) (not (vertex_at n m.lines q)) fq in
      decides (questions n m (starts e p q)) (number, (not_from_false _ unused, (and_from _ _ fp fq, (not_from_false _ s, tt))))
      ∙ ap (λ b. said b NoRoom) (hangs_if (numbered n e) (m.lines.turn.held (pos e)) (on_sheet p) (on_sheet q) (same_point p q) (not (vertex_at n m.lines p)) (not (vertex_at n m.lines q)) (m.fits p q) number unused a.0 b.0 s a.1 b.1)

  pub sprout_asked : Lawful n m.lines.turn → (c : ℤ) (at p : Point) → Started m.lines c (Some at) → free_point n m.lines p ≡ true
      → outcome (questions n m (sprouts e c p)) ≡ said (may_hang n m.lines m.fits e (after_corner at c) (new_end p)) NoRoom
  sprout_asked law c at p f fp =
      let b = and_parts (on_sheet p) (not (vertex_at n m.lines p)) fp in
      let s = apart_from n m.lines law p at c f.0 f.1 (not-true _ b.1) in
      decides (questions n m (sprouts e c p)) (number, (not_from_false _ unused, (f.0, (fp, tt))))
      ∙ ap (λ w. said (m.fits w p) NoRoom) (start_is m.lines c at f)
      ∙ ap (λ b. said b NoRoom) (hangs_if (numbered n e) (m.lines.turn.held (pos e)) (on_sheet at) (on_sheet p) (same_point at p) (joins_at n m.lines at (Some c)) (not (vertex_at n m.lines p)) (m.fits at p) number unused f.2 b.0 s (joins_corner n m.lines c at f) b.1)

  pub join_asked : (c d : ℤ) (a b : Point) → Started m.lines c (Some a) → Started m.lines d (Some b) → same_point a b ≡ false
      → may_join n m.lines.turn c d ≡ true
      → outcome (join_questions n m e c d) ≡ said (may_hang n m.lines m.fits e (after_corner a c) (after_corner b d)) NoRoom
  join_asked c d a b fc fd s ok =
      let sc = start_is m.lines c a fc in
      let sd = start_is m.lines d b fd in
      decides (join_questions n m e c d) (number, (not_from_false _ unused, (and_from _ _ fc.0 fd.0, (not_from_false _ (ap₂ same_point sc sd ∙ s), (ok, tt)))))
      ∙ ap (λ b. said b NoRoom) (ap₂ m.fits sc sd ∙ hangs_if (numbered n e) (m.lines.turn.held (pos e)) (on_sheet a) (on_sheet b) (same_point a b) (joins_at n m.lines a (Some c)) (joins_at n m.lines b (Some d)) (m.fits a b) number unused fc.2 fd.2 s (joins_corner n m.lines c a fc) (joins_corner n m.lines d b fd))

  pub join_same : (c d y z : ℤ) → y ≡ c → z ≡ d → (a b : Point) → Started m.lines y (Some a) → Started m.lines z (Some b) → same_point a b ≡ true
      → Err SameEnds ≡ outcome (join_questions n m e c d)
  join_same c d y z i j a b fc fd s =
      subst (λ w. Err SameEnds ≡ outcome (join_questions n m e w d)) i (subst (λ w. Err SameEnds ≡ outcome (join_questions n m e y w)) j
      (let h = not_from_false _ unused in
      let k = and_from _ _ fc.0 fd.0 in
      let l : not (same_point (start_of m.lines y) (start_of m.lines z)) ≡ false = not_from_true _ (ap₂ same_point (start_is m.lines y a fc) (start_is m.lines z b fd) ∙ s) in
      sym (cond-true _ _ _ number ∙ cond-true _ _ _ h ∙ cond-true _ _ _ k ∙ cond-false _ _ _ l)))

  pub split_asked : (k : ℕ) (p : Point) → m.lines.turn.held (pos k) ≡ true → free_point n m.lines p ≡ true → inside m.lines k p ≡ true
      → outcome (questions n m (splits k e p)) ≡ said (may_cleave n m.lines m.fits k e p) NoRoom
  split_asked k p h fp i =
      let b = and_parts (on_sheet p) (not (vertex_at n m.lines p)) fp in
      let w = told_west (m.lines.points (pos k)) (Some p) in
      let x = told_west (Some p) (m.lines.points (neg_ℤ (pos k))) in
      let j = and_parts w x i in
      decides (questions n m (splits k e p)) (number, (not_from_false _ unused, (h, (fp, (i, tt)))))
      ∙ ap (λ b. said b NoRoom) (cleaves_if (m.lines.turn.held (pos k)) (numbered n e) (m.lines.turn.held (pos e)) (on_sheet p) (vertex_at n m.lines p) w x (m.fits p p) h number unused b.0 (not-true _ b.1) j.0 j.1)

  -- ---- the edits whole; a name that went through the code's bits comes as z
  module _ (m' : Meaning) (r : Bool) where
    pub start_done : (p q : Point) → free_point n m.lines p ≡ true → free_point n m.lines q ≡ true → same_point p q ≡ false
        → Hangs n m e (new_end p) (new_end q) r m' → Done n m (starts e p q) (said r NoRoom) m'
    start_done p q fp fq s h = closes (questions n m (starts e p q)) _ m m' NoRoom _ r (start_asked p q fp fq s) h

    pub sprout_done : Lawful n m.lines.turn → (c z : ℤ) → z ≡ c → (at p : Point) → Started m.lines z (Some at) → free_point n m.lines p ≡ true
        → Hangs n m e (after_corner at z) (new_end p) r m' → Done n m (sprouts e c p) (said r NoRoom) m'
    sprout_done law c z b at p f fp h =
        subst (λ w. Done n m (sprouts e w p) (said r NoRoom) m') b
        (closes (questions n m (sprouts e z p)) _ m m' NoRoom _ r (sprout_asked law z at p f fp)
        (subst (λ w. Change m (may_hang n m.lines m.fits e (after_corner at z) (new_end p)) (hung e w (new_end p) m.lines) r m') (corner_is m.lines z at f) h))

    pub join_done : (c d y z : ℤ) → y ≡ c → z ≡ d → (a b : Point) → Started m.lines y (Some a) → Started m.lines z (Some b)
        → same_point a b ≡ false → may_join n m.lines.turn y z ≡ true → Hangs n m e (after_corner a y) (after_corner b z) r m'
        → Settled (join_questions n m e c d) (hung e (corner_end m.lines c) (corner_end m.lines d) m.lines) m (said r NoRoom) m'
    join_done c d y z i j a b fc fd s ok h =
        subst (λ w. Settled (join_questions n m e w d) (hung e (corner_end m.lines w) (corner_end m.lines d) m.lines) m (said r NoRoom) m') i
        (subst (λ w. Settled (join_questions n m e y w) (hung e (corner_end m.lines y) (corner_end m.lines w) m.lines) m (said r NoRoom) m') j
        (closes (join_questions n m e y z) _ m m' NoRoom _ r (join_asked y z a b fc fd s ok)
        (subst (λ w. Change m (may_hang n m.lines m.fits e (after_corner a y) (after_corner b z)) w r m') (ap₂ (λ (u v : End). hung e u v m.lines) (corner_is m.lines y a fc) (corner_is m.lines z b fd)) h)))

    pub split_done : (k : ℕ) (p : Point) → m.lines.turn.held (pos k) ≡ true → free_point n m.lines p ≡ true → inside m.lines k p ≡ true
        → Cleaves n m k e p r m' → Done n m (splits k e p) (said r NoRoom) m'
    split_done k p h fp i v = closes (questions n m (splits k e p)) _ m m' NoRoom _ r (split_asked k p h fp i) v
