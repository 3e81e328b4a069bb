-- Line work that is drawn by edits or told by a file holds no edge beyond the numbers in them.
-- Assumes nothing.
use Rattle.std.proofs.Common.{◌≡◌, ℕ, zero, suc, ◌<◌, ◌≤◌, Bool, true, false, cond, ◌&&◌, leb, List, [], ◌∷◌, ℤ, pos, negsuc, neg_ℤ, nat_abs, Some, None, Option, refl, ap, ◌∙◌, ⊎_elim, arith}
use lib.Signed.{le_z}
use Rattle.std.proofs.lemmas.Bool.{cond-false, ne_eqb, leb-true, or_cases, and_parts, and_right, not_from_false, both_ways}
use Rattle.flat.specs.Whole.{equal}
use Rattle.turning.specs.Turn.{Turn}
use Rattle.chart.specs.declared.point.Point.{Point}
use Rattle.chart.specs.declared.point.End.{End}
use Rattle.chart.specs.Linework.{Linework, no_lines}
use Rattle.chart.specs.Changes.{put, western, eastern, hung, lifted, cleft}
use Rattle.chart.specs.Ends.{new_end}
use Rattle.edits.specs.Edits.{Edit, starts, sprouts, joins, splits, removes, made, corner_end}
use Rattle.file.specs.Places.{at, each, first_from}
use Rattle.file.specs.Strips.{Strip, home}
use Rattle.file.specs.Layout.{strips, strip}
use Rattle.file.specs.Questions.{named, name_good}
use Rattle.file.specs.Lines.{home_slot, is_some, lines_of}
use Rattle.file.specs.Verdict.{told_lines}
use Rattle.file.proofs.Places.{first_bad_none, first_fault_none, good_below, none_below}
use Rattle.specimens.specs.Drawn.{drawn}
use Rattle.specimens.proofs.Limits.{Bounded}

-- ---- edits
pub none_bounded : (m : ℕ) → Bounded m no_lines.turn
none_bounded m h past = refl

-- a name of a later edge is none of the edge e
later : (e : ℕ) (h : ℤ) → e < nat_abs h → (equal h (pos e) ≡ false) × (equal h (neg_ℤ (pos e)) ≡ false)
later zero (pos a) past = (ne_eqb a 0 (λ q. omega arith), ne_eqb a 0 (λ q. omega arith))
later (suc e) (pos a) past = (ne_eqb a (suc e) (λ q. omega arith), refl)
later zero (negsuc a) past = (refl, refl)
later (suc e) (negsuc a) past = (refl, ne_eqb a e (λ q. omega arith))

put_held : (o : Option ℤ) (k : ℤ) (t : Turn) (h : ℤ) → equal h k ≡ false → (put o k t).held h ≡ t.held h
put_held None k t h e = cond-false (equal h k) _ _ e
put_held (Some c) k t h e = cond-false (equal h k) _ _ e

hung_bounded : (m e : ℕ) (a b : End) (l : Linework) → e ≤ m → Bounded m l.turn → Bounded m (hung e a b l).turn
hung_bounded m e a b l le few h past =
    let o = later e h (omega arith) in
    put_held (eastern a b).corner (neg_ℤ (pos e)) _ h o.1 ∙ put_held (western a b).corner (pos e) l.turn h o.0 ∙ few h past

cleft_bounded : (m e f : ℕ) (p : Point) (l : Linework) → f ≤ m → Bounded m l.turn → Bounded m (cleft e f p l).turn
cleft_bounded m e f p l le few h past =
    let o = later f h (omega arith) in
    cond-false (equal h (pos f)) _ _ o.0 ∙ cond-false (equal h (neg_ℤ (pos f))) _ _ o.1 ∙ few h past

lifted_bounded : (m e : ℕ) (l : Linework) → Bounded m l.turn → Bounded m (lifted e l).turn
lifted_bounded m e l few h past = off (equal h (neg_ℤ (pos e))) (equal h (pos e)) (l.turn.held h) (few h past)
  where
    off : (a b v : Bool) → v ≡ false → cond a false (cond b false v) ≡ false
    off true b v q = refl
    off false true v q = refl
    off false false v q = q

-- the edge that an edit brings in has a number up to m
abbrev pub Numbered : ℕ → Edit → Type 0
Numbered m (starts e p q) = e ≤ m
Numbered m (sprouts e c p) = e ≤ m
Numbered m (joins e c d marks line) = e ≤ m
Numbered m (splits e f p) = f ≤ m
Numbered m (removes e) = Unit {0}

pub made_bounded : (m : ℕ) (q : Edit) (l : Linework) → Numbered m q → Bounded m l.turn → Bounded m (made q l).turn
made_bounded m (starts e p q) l le = hung_bounded m e (new_end p) (new_end q) l le
made_bounded m (sprouts e c p) l le = hung_bounded m e (corner_end l c) (new_end p) l le
made_bounded m (joins e c d marks line) l le = hung_bounded m e (corner_end l c) (corner_end l d) l le
made_bounded m (splits e f p) l le = cleft_bounded m e f p l le
made_bounded m (removes e) l le = lifted_bounded m e l

-- so have all that the edits of a list bring in
abbrev pub AllNumbered : ℕ → List Edit → Type 0
AllNumbered m [] = Unit {0}
AllNumbered m (q ∷ qs) = Numbered m q × AllNumbered m qs

pub drawn_bounded : (m : ℕ) (qs : List Edit) (l : Linework) → AllNumbered m qs → Bounded m l.turn → Bounded m (drawn qs l).turn
drawn_bounded m [] l le few = few
drawn_bounded m (q ∷ qs) l le few = drawn_bounded m qs (made q l) le.1 (made_bounded m q l le.0 few)

-- ---- files
named_apart : (m : ℕ) (y z : ℤ) → m < nat_abs z → named m y ≡ true → equal y z ≡ false
named_apart m (pos a) (pos c) past e =
    ⊎_elim
    (λ p. let s : a ≤ m = leb-true a m (and_parts _ _ p).1 in ne_eqb a c (λ q. omega arith))
    (λ p. absurd (both_ways false refl (and_parts _ _ p).1))
    (or_cases (leb 1 a && leb a m) (le_z (neg_ℤ (pos m)) (pos a) && le_z (pos a) (negsuc 0)) e)
named_apart m (pos a) (negsuc c) past e = refl
named_apart m (negsuc a) (pos c) past e = refl
named_apart zero (negsuc a) (negsuc c) past e = absurd (both_ways false refl e)
named_apart (suc m) (negsuc a) (negsuc c) past e = let s : a ≤ m = leb-true a m (and_parts _ _ e).0 in ne_eqb a c (λ q. omega arith)

slot_none : (n : ℕ) (strip : ℕ → Strip) (z : ℤ) → ((j : ℕ) → j < n → (i : ℕ) → i < (strip j).slots → equal ((strip j).name i) z ≡ false) → home_slot n strip z ≡ None
unfolding home_slot
slot_none n strip z other =
    first_fault_none _ n (λ j lt. ap (at (λ i. record { strip = j; slot = i })) (first_bad_none _ (strip j).slots (λ i less. not_from_false _ (and_right (home (strip j) i) _ (other j lt i less)))))

-- the first slot of a file whose name is not of one of the edges 1 to m
abbrev pub misnamed : ℕ → List ℕ → Option ℕ
misnamed m b = first_from (λ j. each (strip b j).slots (name_good m (strip b j))) 0 (strips b)

pub told_bounded : (m : ℕ) (b : List ℕ) → misnamed m b ≡ None → Bounded m (told_lines b).turn
unfolding lines_of
told_bounded m b good z past =
    ap is_some (slot_none (strips b) (strip b) z (λ j lt i less.
    named_apart m ((strip b j).name i) z past (good_below (name_good m (strip b j)) 0 (strip b j).slots (none_below _ 0 (strips b) good j (omega arith) (omega arith)) i (omega arith) (omega arith))))
