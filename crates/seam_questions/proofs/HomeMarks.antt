-- Marks for home names. Assumes nothing.
use Rattle.std.proofs.Common.{◌≡◌, ℕ, ◌+◌, Bool, true, false, cond, not, ◌&&◌, ◌||◌, eqb, List, length, get_or, set, ℤ, sym, refl, ap, ◌∙◌, arith}
use Rattle.std.proofs.lemmas.Bool.Decides.{nat_tests}
use Rattle.flat.specs.Orbits.{indicator}
use Rattle.flat.specs.Whole.{equal}
use Rattle.turning.specs.Limits.{max_edge, marks_for}
use Rattle.file.specs.Places.{any_below}
use Rattle.file.specs.Layout.{strip}
use Rattle.file.specs.Strips.{home, home_names}
use Rattle.file.specs.Questions.{named, home_before, home_new}
use Rattle.file.proofs.Places.{any_more}
use Rattle.search.specs.Marks.{place as mark_at}
use Rattle.strip_questions.proofs.Marks.{mark_set}
use Rattle.seam_questions.specs.Homes.{HomesMarked}

before_step : (p h q r : Bool) → (p || ((h && q) || r)) ≡ ((h && q) || (p || r))
before_step true true true r = refl
before_step true true false r = refl
before_step true false q r = refl
before_step false h q r = refl

cond_tally : (h q b : Bool) → h ≡ true → cond q 1 (indicator b) ≡ indicator ((h && q) || b)
cond_tally h true b e = sym (ap (λ x. indicator ((x && true) || b)) e)
cond_tally h false b e = sym (ap (λ x. indicator ((x && false) || b)) e)

module _ (b : List ℕ) (j i : ℕ) where
  -- one more slot
  pub more : (z : ℤ) → home_before (strip b) j (i + 1) z ≡ ((home (strip b j) i && equal ((strip b j).name i) z) || home_before (strip b) j i z)
  more z =
      ap (λ x. any_below (λ k. home_names (strip b k) (strip b k).slots z) j || x) (any_more (λ k. home (strip b j) k && equal ((strip b j).name k) z) i)
      ∙ before_step (any_below (λ k. home_names (strip b k) (strip b k).slots z) j) (home (strip b j) i) (equal ((strip b j).name i) z) (home_names (strip b j) i z)

  pub home_passed : (m : List ℕ) → home (strip b j) i ≡ false → HomesMarked b j i m → HomesMarked b j (i + 1) m
  home_passed m f before z h = before z h ∙ sym (ap indicator (more z ∙ ap (λ x. (x && equal ((strip b j).name i) z) || home_before (strip b) j i z) f))

  pub home_marked : (m : List ℕ) → length m ≡ marks_for max_edge → named max_edge ((strip b j).name i) ≡ true → home (strip b j) i ≡ true → HomesMarked b j i m
      → HomesMarked b j (i + 1) (set m (mark_at max_edge ((strip b j).name i)) 1)
  home_marked m len good t before z h =
      mark_set m ((strip b j).name i) 1 (λ y. indicator (home_before (strip b) j i y)) len good before z h
      ∙ cond_tally (home (strip b j) i) (equal ((strip b j).name i) z) (home_before (strip b) j i z) t ∙ sym (ap indicator (more z))

  pub new_external : home (strip b j) i ≡ false → true ≡ home_new (strip b) j i
  new_external f = sym (ap (λ x. not (x && home_before (strip b) j i ((strip b j).name i))) f)

  pub new_by_mark : (m : ℕ) → home (strip b j) i ≡ true → m ≡ indicator (home_before (strip b) j i ((strip b j).name i)) → eqb m 0 ≡ home_new (strip b) j i
  new_by_mark m t e = by (home_before (strip b) j i ((strip b j).name i)) m e ∙ sym (ap (λ x. not (x && home_before (strip b) j i ((strip b j).name i))) t)
    where
      by : (x : Bool) (m : ℕ) → m ≡ indicator x → eqb m 0 ≡ not x
      by true m e = ap (λ n. eqb n 0) e
      by false m e = ap (λ n. eqb n 0) e

pub eqb_is : (m : ℕ) → m ≡ 0 → eqb m 0 ≡ true
eqb_is m e = ap (λ n. eqb n 0) e

pub eqb_not : (m : ℕ) → (m ≡ 0 → ⊥) → eqb m 0 ≡ false
eqb_not m n = grind (arith, nat_tests)

or_turned : (p q : Bool) → (p || q) ≡ ((q || p) || false)
or_turned true true = refl
or_turned true false = refl
or_turned false true = refl
or_turned false false = refl

-- after the last slot of a strip the next strip begins
pub next_before : (b : List ℕ) (j i : ℕ) → i ≡ (strip b j).slots → (z : ℤ) → home_before (strip b) j i z ≡ home_before (strip b) (j + 1) 0 z
next_before b j i e z =
    ap (λ n. home_before (strip b) j n z) e
    ∙ or_turned (any_below (λ k. home_names (strip b k) (strip b k).slots z) j) (home_names (strip b j) (strip b j).slots z)
    ∙ ap (λ x. x || false) (sym (any_more (λ k. home_names (strip b k) (strip b k).slots z) j))

pub next_strip : (b : List ℕ) (j i : ℕ) (m : List ℕ) → i ≡ (strip b j).slots → HomesMarked b j i m → HomesMarked b (j + 1) 0 m
next_strip b j i m e before z h = before z h ∙ ap indicator (next_before b j i e z)

pub none_yet : (b m : List ℕ) → ((z : ℤ) → named max_edge z ≡ true → get_or m (mark_at max_edge z) 0 ≡ 0) → HomesMarked b 0 0 m
none_yet b m clean z h = clean z h
