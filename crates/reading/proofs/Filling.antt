-- The entries as they are filled in: in the end they tell the line work of the file. Assumes nothing.
use Rattle.std.proofs.Common.{◌≡◌, ℕ, suc, ◌+◌, ◌<◌, Bool, true, false, cond, not, ◌&&◌, ◌||◌, List, length, get_or, set, replicate, ℤ, is_some, Some, None, Option, sym, refl, ap, ◌∙◌, ⊎_elim, arith}
use Rattle.std.proofs.lemmas.List.{get_or-set_same, get_or-set_other, get_or-replicate}
use Rattle.std.proofs.lemmas.Bool.{cases_Bool, cond-true, cond-false, both_ways, and_parts, not_from_true, not_from_false}
use Rattle.flat.specs.Whole.{equal}
use Rattle.turning.specs.Limits.{max_edge, marks_for}
use Rattle.turning.specs.Turn.{Turn, Lawful}
use Rattle.chart.specs.declared.point.Point.{Point}
use Rattle.chart.specs.Linework.{Linework}
use Rattle.chart.specs.Points.{told_on_sheet}
use Rattle.laws.specs.Keeps.{Sound}
use Rattle.laws.proofs.Equal.{tell, some_same}
use Rattle.halfedges.specs.Copies.{point_or_origin}
use Rattle.search.specs.Marks.{place as mark_at}
use Rattle.file.specs.Layout.{strips, strip}
use Rattle.file.specs.Lines.{Slot, home_slot, is_some as has_slot, lines_of}
use Rattle.file.specs.Places.{any_below, each, at}
use Rattle.file.specs.Questions.{named, home_before}
use Rattle.file.specs.Strips.{Strip, Turned, home, home_names, vertex}
use Rattle.file.specs.Verdict.{told_lines}
use Rattle.file.proofs.Places.{any_here, any_none, any_where, each_good, first_bad_none, first_fault_none, none_below}
use Rattle.strip_questions.proofs.Marks.{equal_true, mark_within, marks_differ}
use Rattle.seam_questions.specs.Vertices.{slot_at, vertex_at, Numbered}
use Rattle.seam_questions.proofs.HomeMarks.{more, next_before}
use Rattle.told.specs.Tells.{borders_in, TellsStrip}
use Rattle.reading.specs.declared.entry.Entry.{Entry}
use Rattle.reading.specs.Entries.{entry_of, follower_by, predecessor_by, point_by, lines_by}
use Rattle.reading.specs.Entering.{slot_entry, Put, entry_in, Entered}
use Rattle.reading.proofs.Telling.{entry_at, entry_off}

-- ---- one entry
equal_same : (a b : ℤ) → a ≡ b → equal a b ≡ true
equal_same a b e = grind (arith, tell a b)

equal_turned : (a b : ℤ) → equal a b ≡ equal b a
equal_turned a b = grind (arith, tell a b, tell b a)

-- the entry of w is put in
pub entry_put : (es : List (Option Entry)) (w : ℤ) (e : Option Entry) → length es ≡ marks_for max_edge → named max_edge w ≡ true
    → (z : ℤ) → entry_of (set es (mark_at max_edge w) e) z ≡ cond (equal z w) e (entry_of es z)
entry_put es w e long good z = ⊎_elim
    (λ t.
    let s : z ≡ w = equal_true z w t in
    let l : mark_at max_edge w < length es = omega (arith, mark_within w good) in
    ap (entry_of (set es (mark_at max_edge w) e)) s ∙ entry_at (set es (mark_at max_edge w) e) w good ∙ get_or-set_same es (mark_at max_edge w) e None l ∙ sym (cond-true (equal z w) e (entry_of es z) t))
    (λ f. ⊎_elim
    (λ n. entry_at (set es (mark_at max_edge w) e) z n
    ∙ get_or-set_other es (mark_at max_edge w) (mark_at max_edge z) e None (marks_differ w z good n (equal_turned w z ∙ f)) ∙ sym (entry_at es z n)
    ∙ sym (cond-false (equal z w) e (entry_of es z) f))
    (λ n. entry_off (set es (mark_at max_edge w) e) z n ∙ sym (entry_off es z n) ∙ sym (cond-false (equal z w) e (entry_of es z) f))
    (cases_Bool (named max_edge z)))
    (cases_Bool (equal z w))

-- ---- names that are held
-- a name is held where some strip has a home slot of it
held_homes : (n : ℕ) (strip : ℕ → Strip) (z : ℤ) → (lines_of n strip).turn.held z ≡ any_below (λ k. home_names (strip k) (strip k).slots z) n
unfolding lines_of home_slot
held_homes n strip z = ⊎_elim
    (λ t. let k = any_where (λ k. home_names (strip k) (strip k).slots z) n t in
    let i = any_where (λ i. home (strip k.0) i && equal ((strip k.0).name i) z) (strip k.0).slots k.2 in
    found _ (λ none. both_ways _ (not_from_true _ i.2)
    (each_good (slot_of k.0) (strip k.0).slots (other k.0) (none_below (λ j. at (slot_of j) (each (strip j).slots (other j))) 0 n none k.0 (omega arith) (omega (arith, k.1))) i.0 i.1))
    ∙ sym t)
    (λ f. ap has_slot (first_fault_none (λ j. at (slot_of j) (each (strip j).slots (other j))) n
    (λ j h. ap (at (slot_of j)) (first_bad_none (other j) (strip j).slots
    (λ i l. not_from_false _ (any_none (λ i. home (strip j) i && equal ((strip j).name i) z) (strip j).slots (any_none (λ k. home_names (strip k) (strip k).slots z) n f j h) i l)))))
    ∙ sym f)
    (cases_Bool (any_below (λ k. home_names (strip k) (strip k).slots z) n))
  where
    slot_of : ℕ → ℕ → Slot
    slot_of j i = record { strip = j; slot = i }

    other : ℕ → ℕ → Bool
    other j i = not (home (strip j) i && equal ((strip j).name i) z)

    found : (o : Option Slot) → (o ≡ None → ⊥) → has_slot o ≡ true
    found None some = absurd (some refl)
    found (Some a) some = refl

-- a held name comes before z exactly where z follows it
follows : (n : ℕ) (t : Turn) → Lawful n t → (y z : ℤ) → t.held y ≡ true → equal y (t.predecessor z) ≡ equal z (t.follower y)
follows n t law y z here = ⊎_elim
    (λ e. let s : z ≡ t.follower y = equal_true z (t.follower y) e in
    equal_same y (t.predecessor z) (sym (ap t.predecessor s ∙ law.undone y here)) ∙ sym e)
    (λ f. ⊎_elim (λ e. absurd (both_ways _ f (equal_same z (t.follower y) (after e)))) (λ g. g) (cases_Bool (equal y (t.predecessor z))) ∙ sym f)
    (cases_Bool (equal z (t.follower y)))
  where
    after : equal y (t.predecessor z) ≡ true → z ≡ t.follower y
    after e = ⊎_elim
        (λ h. sym (ap t.follower s ∙ law.redone z h))
        (λ h. absurd (both_ways _ law.no_zero (sym (ap t.held (s ∙ law.no_predecessor z h)) ∙ here)))
        (cases_Bool (t.held z))
      where
        s : y ≡ t.predecessor z
        s = equal_true y (t.predecessor z) e

-- a name is held where its predecessor is
before_held : (n : ℕ) (t : Turn) → Lawful n t → (z : ℤ) → t.held (t.predecessor z) ≡ t.held z
before_held n t law z = ⊎_elim (λ h. law.behind z h ∙ sym h) (λ h. ap t.held (law.no_predecessor z h) ∙ law.no_zero ∙ sym h) (cases_Bool (t.held z))

pub entry_same : (f g p q : ℤ) (x y : Point) → f ≡ g → p ≡ q → x ≡ y
    → ◌≡◌ {A = Entry} (record { follower = f; predecessor = p; point = x }) (record { follower = g; predecessor = q; point = y })
entry_same f g p q x y a b c = λ i. record { follower = a i; predecessor = b i; point = c i }

-- ---- one slot
-- a home slot tells the entry of the name that follows
module _ (b : List ℕ) (j : ℕ) (sound : Sound max_edge (told_lines b)) (turned : Turned (strip b j))
    (tells : TellsStrip (borders_in b) (told_lines b) (suc j) (strip b j)) (i : ℕ) (l : i < (strip b j).slots) where
  slot_held : (told_lines b).turn.held ((strip b j).name i) ≡ true
  slot_held = (and_parts _ _ (and_parts _ _ (sym (tells.held ((strip b j).name i)) ∙ any_here (λ k. equal ((strip b j).name k) ((strip b j).name i)) i (strip b j).slots l (equal_same ((strip b j).name i) ((strip b j).name i) refl))).0).0

  slot_tells : home (strip b j) i ≡ true → slot_entry (strip b j) i ≡ entry_in (told_lines b) ((strip b j).name ((strip b j).follower i))
  slot_tells u =
      let s = strip b j in
      let t = told_lines b in
      entry_same _ _ _ _ _ _
      (tells.leads (s.follower i) (tells.inside i l u) (turned.kept i l u))
      (sym (ap t.turn.predecessor (tells.leads i l u) ∙ sound.0.undone (s.name i) slot_held))
      (sym (ap (λ z. point_or_origin (t.points z)) (tells.leads i l u) ∙ ap point_or_origin (sound.1.alike (s.name i) slot_held ∙ tells.starts i l u)))

  pub slot_entered : (es es' : List (Option Entry)) → Put (strip b j) i es es' → Entered b j i es → Entered b j (i + 1) es'
  slot_entered es es' put before z = put z ∙ step (home (strip b j) i) refl ∙ sym (ap (λ x. cond x (Some (entry_in (told_lines b) z)) None) (more b j i ((told_lines b).turn.predecessor z)))
    where
      w : ℤ
      w = (strip b j).name ((strip b j).follower i)

      p : Bool
      p = home_before (strip b) j i ((told_lines b).turn.predecessor z)

      q : Bool
      q = equal ((strip b j).name i) ((told_lines b).turn.predecessor z)

      step : (h : Bool) → home (strip b j) i ≡ h
          → cond (h && equal z w) (Some (slot_entry (strip b j) i)) (entry_of es z) ≡ cond ((h && q) || p) (Some (entry_in (told_lines b) z)) None
      step false u = before z
      step true u = put_or (equal z w) q (same) (λ e. ap Some (slot_tells u ∙ ap (entry_in (told_lines b)) (sym (equal_true z w e)))) (before z)
        where
          same : q ≡ equal z w
          same = follows max_edge (told_lines b).turn sound.0 ((strip b j).name i) z slot_held ∙ ap (equal z) (sym (tells.leads i l u))

          put_or : (x y : Bool) → y ≡ x → {e e' o : Option Entry} → (x ≡ true → e ≡ e') → o ≡ cond p e' None → cond x e o ≡ cond (y || p) e' None
          put_or true y a {e} {e'} {o} f g = f refl ∙ sym (ap (λ v. cond (v || p) e' None) a)
          put_or false y a {e} {e'} {o} f g = g ∙ sym (ap (λ v. cond (v || p) e' None) a)

-- ---- all strips
-- after the last slot of a strip the next strip begins
pub strip_entered : (b : List ℕ) (j i : ℕ) (es : List (Option Entry)) → i ≡ (strip b j).slots → Entered b j i es → Entered b (j + 1) 0 es
strip_entered b j i es e before z = before z ∙ ap (λ x. cond x (Some (entry_in (told_lines b) z)) None) (next_before b j i e ((told_lines b).turn.predecessor z))

pub none_entered : (b : List ℕ) (es : List (Option Entry)) → es ≡ replicate (marks_for max_edge) None → Entered b 0 0 es
none_entered b es clean z = ⊎_elim
    (λ n. entry_at es z n ∙ ap (λ xs. get_or xs (mark_at max_edge z) None) clean ∙ get_or-replicate (marks_for max_edge) (mark_at max_edge z) None None (mark_within z n))
    (λ n. entry_off es z n)
    (cases_Bool (named max_edge z))

pub all_entered : (b : List ℕ) (n : ℕ) (es : List (Option Entry)) → n ≡ strips b → Sound max_edge (told_lines b) → Entered b n 0 es → lines_by es ≡ told_lines b
all_entered b n es count sound entered = λ i. record {
  turn = record {
    held = λ z. held z i;
    follower = λ z. follower z i;
    predecessor = λ z. predecessor z i;
  };
  points = λ z. point z i;
}
  where
    t : Linework
    t = told_lines b

    or_none : (x : Bool) → (x || false) ≡ x
    or_none true = refl
    or_none false = refl

    view : (z : ℤ) → entry_of es z ≡ cond (t.turn.held z) (Some (entry_in t z)) None
    view z = entered z ∙ ap (λ x. cond x (Some (entry_in t z)) None)
        (ap (λ m. home_before (strip b) m 0 (t.turn.predecessor z)) count ∙ or_none _ ∙ sym (held_homes (strips b) (strip b) (t.turn.predecessor z)) ∙ before_held max_edge t.turn sound.0 z)

    on : (z : ℤ) → t.turn.held z ≡ true → entry_of es z ≡ Some (entry_in t z)
    on z h = view z ∙ cond-true (t.turn.held z) _ _ h

    off : (z : ℤ) → t.turn.held z ≡ false → entry_of es z ≡ None
    off z h = view z ∙ cond-false (t.turn.held z) _ _ h

    held : (z : ℤ) → is_some (entry_of es z) ≡ t.turn.held z
    held z = ⊎_elim (λ h. ap is_some (on z h) ∙ sym h) (λ h. ap is_some (off z h) ∙ sym h) (cases_Bool (t.turn.held z))

    follower : (z : ℤ) → follower_by (entry_of es z) ≡ t.turn.follower z
    follower z = ⊎_elim (λ h. ap follower_by (on z h)) (λ h. ap follower_by (off z h) ∙ sym (sound.0.no_follower z h)) (cases_Bool (t.turn.held z))

    predecessor : (z : ℤ) → predecessor_by (entry_of es z) ≡ t.turn.predecessor z
    predecessor z = ⊎_elim (λ h. ap predecessor_by (on z h)) (λ h. ap predecessor_by (off z h) ∙ sym (sound.0.no_predecessor z h)) (cases_Bool (t.turn.held z))

    some : (o : Option Point) → told_on_sheet o ≡ true → Some (point_or_origin o) ≡ o
    some None e = absurd (both_ways false refl e)
    some (Some p) e = refl

    point : (z : ℤ) → point_by (entry_of es z) ≡ t.points z
    point z = ⊎_elim
        (λ h. ap point_by (on z h) ∙ some (t.points z) (sound.1.somewhere z h))
        (λ h. ap point_by (off z h) ∙ sym (sound.1.nowhere z h))
        (cases_Bool (t.turn.held z))

-- ---- what the code puts in
pub slot_put : (s : Strip) (i p : ℕ) (e : Entry) (es : List (Option Entry)) → length es ≡ marks_for max_edge → named max_edge (s.name (s.follower i)) ≡ true → home s i ≡ true
    → p ≡ mark_at max_edge (s.name (s.follower i)) → e ≡ slot_entry s i → Put s i es (set es p (Some e))
slot_put s i p e es long good u at is z =
    ap (λ k. entry_of (set es k (Some e)) z) at ∙ ap (λ x. entry_of (set es (mark_at max_edge (s.name (s.follower i))) (Some x)) z) is
    ∙ entry_put es (s.name (s.follower i)) (Some (slot_entry s i)) long good z
    ∙ sym (ap (λ h. cond (h && equal z (s.name (s.follower i))) (Some (slot_entry s i)) (entry_of es z)) u)

-- the vertex in the line is that of the slot
pub vertex_is : (s : Strip) (l : List ℤ) (i v : ℕ) → i < s.slots → home s i ≡ true → Numbered s l → Some v ≡ vertex_at l (slot_at s i) → v ≡ vertex s i
vertex_is s l i v h u numbered e = some_same v (vertex s i) (e ∙ numbered i h ∙ cond-true (home s i) (Some (vertex s i)) None u)
