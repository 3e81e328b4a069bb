-- The line work that an accepted file tells is lawful and placed. Assumes nothing.
use Rattle.std.proofs.Common.{◌≡◌, ℕ, zero, suc, ◌-◌, ◌<◌, ◌≤◌, Bool, true, false, cond, not, ◌&&◌, ◌||◌, eqb, List, ℤ, pos, negsuc, neg_ℤ, ◌≤ℤ◌, ◌<ℤ◌, Some, None, Option, sym, refl, ap, ◌∙◌, subst, ap₂, inl, ⊎_elim, arith}
use lib.Signed.{lt_z, le_z}
use Rattle.std.proofs.lemmas.Int.{ints}
use Rattle.std.proofs.lemmas.Bool.{cases_Bool, cases_eq, cases_order, and_parts, or_left, not-true, lt-ltb, ne_eqb}
use Rattle.flat.specs.Orbits.{stay, iterate}
use Rattle.flat.specs.Whole.{equal}
use Rattle.flat.proofs.Basics.{T_true}
use Rattle.flat.proofs.Walks.{follow, one}
use Rattle.turning.specs.Limits.{max_edge}
use Rattle.turning.specs.Turn.{Turn, Lawful}
use Rattle.turning.specs.Counts.{SameRound, same_round}
use Rattle.turning.proofs.Tests.{round_walk}
use Rattle.chart.specs.declared.point.Point.{Point}
use Rattle.chart.specs.Points.{within, on_sheet, same_point, west, told_west, told_on_sheet}
use Rattle.chart.specs.Linework.{Linework, Placed}
use Rattle.laws.specs.Keeps.{Sound}
use Rattle.laws.proofs.Equal.{some_same}
use Rattle.file.specs.Places.{any_below, each, at}
use Rattle.file.specs.Layout as file
use Rattle.file.specs.Strips.{none, Strip, home, names, rounds, vertex, start, Turned}
use Rattle.file.specs.Lines.{Slot, home_slot, lines_of, is_some, name_or_0, follower_name, predecessor_name}
use Rattle.file.specs.Questions as ask
use Rattle.file.specs.Verdict.{told_lines}
use Rattle.file.proofs.Places.{any_none, bool_apart}
use Rattle.file.proofs.Walking.{home_at}
use Rattle.told.specs.Passed.{Passed}
use Rattle.told.proofs.Statements.{Toward, RunsHome}
use Rattle.told.proofs.Homes.{at_home, home_is, equal_same}
use Rattle.told.proofs.SoundSlots.{before, vertex_alike, vertex_small, one_vertex}

-- what the questions tell of n strips, with names from 1 to m and borders that part them
record JudgedStrips (m n : ℕ) (strip : ℕ → Strip) (border : ℕ → ℤ) : Type 0 where
  named : (j : ℕ) → j < n → (i : ℕ) → i < (strip j).slots → ask.name_good m (strip j) i ≡ true
  pairs : (j : ℕ) → j < n → (i : ℕ) → i < (strip j).slots → ask.paired (strip j) i ≡ true
  turned : (j : ℕ) → j < n → Turned (strip j)
  round : (j : ℕ) → j < n → rounds (strip j) ≡ (strip j).vertices
  small : (j : ℕ) → j < n → (strip j).slots ≤ none
  sheet : (j : ℕ) → j < n → (k : ℕ) → k < (strip j).vertices → on_sheet ((strip j).point k) ≡ true
  western : (j : ℕ) → suc j < n → (k : ℕ) → k < (strip (suc j)).vertices → border j ≤ℤ ((strip (suc j)).point k).x
  eastern : (j : ℕ) → suc j < n → (k : ℕ) → k < (strip j).vertices → ((strip j).point k).x <ℤ border j
  rises : (i k : ℕ) → i ≤ k → suc k < n → border i ≤ℤ border k
  parted : (j : ℕ) → j < n → (k : ℕ) → k < (strip j).vertices → ask.point_new (strip j) k ≡ true
  west_first : (j : ℕ) → j < n → (i : ℕ) → i < (strip j).slots → ask.west_first (strip j) i ≡ true
  only : (j i : ℕ) → j < n → i < (strip j).slots → home (strip j) i ≡ true → home_slot n strip ((strip j).name i) ≡ Some (record { strip = j; slot = i })
  runs_home : (j : ℕ) → j < n → (z : ℤ) → names (strip j) (strip j).slots z ≡ true → (a : Slot) × (home_slot n strip z ≡ Some a) × Toward z a.strip j

-- ---- tests
second_is : (a b : Bool) → (not a && b) ≡ true → b ≡ true
second_is a b e = grind arith

named_low : (m : ℕ) (z : ℤ) → ask.named m z ≡ true → neg_ℤ (pos m) ≤ℤ z
named_low m z e = grind (arith, ints)

named_high : (m : ℕ) (z : ℤ) → ask.named m z ≡ true → z ≤ℤ pos m
named_high m z e = grind (arith, ints)

named_not : (m : ℕ) → ask.named m (pos 0) ≡ true → ⊥
named_not m e = grind (arith, ints)

named_positive : (m e : ℕ) → ask.named m (pos e) ≡ true → ask.positive (pos e) ≡ true
named_positive m e h = grind (arith, ints)

-- question 16, and what it tells of one slot
first_west : (h p x : Bool) → h ≡ true → p ≡ true → not ((h && p) && x) ≡ true → x ≡ false
first_west h p x d e f = grind arith

right_way : (h e w : Bool) → h ≡ true → e ≡ true → ((h && e) && not w) ≡ false → w ≡ true
right_way h e w p q r = grind arith

west_of_border : (x a c y : ℤ) → x <ℤ a → a ≤ℤ c → c ≤ℤ y → lt_z x y ≡ true
west_of_border x a c y p q r = grind (arith, ints)

not_in_both : (x a c : ℤ) → x <ℤ a → a ≤ℤ c → c ≤ℤ x → ⊥
not_in_both x a c p q r = grind (arith, ints)

same_point_true : (p q : Point) → p ≡ q → same_point p q ≡ true
same_point_true p q e = ap₂ (λ x y. x && y) (equal_same p.x q.x (ap (λ r. r.x) e)) (equal_same p.y q.y (ap (λ r. r.y) e))

-- ---- the line work, by home slots
module _ (n : ℕ) (strip : ℕ → Strip) where
  -- slot i of strip j is the home slot of z
  record Stands (z : ℤ) (j i : ℕ) : Type 0 where
    inside : j < n
    below : i < (strip j).slots
    starts : home (strip j) i ≡ true
    is : (strip j).name i ≡ z
    found : home_slot n strip z ≡ Some (record { strip = j; slot = i })

  stands_at : (z : ℤ) (a : Slot) → home_slot n strip z ≡ Some a → Stands z a.strip a.slot
  stands_at z a e = let r = at_home n strip z a e in record { inside = r.0; below = r.1; starts = r.2; is = r.3; found = e }

  abbrev lines : Linework
  lines = lines_of n strip

  held_stands : (z : ℤ) → lines.turn.held z ≡ true → (a : Slot) × Stands z a.strip a.slot
  unfolding lines_of
  held_stands z e = go (home_slot n strip z) refl e
    where
      go : (o : Option Slot) → home_slot n strip z ≡ o → is_some o ≡ true → (a : Slot) × Stands z a.strip a.slot
      go None q t = let y : ◌≡◌ {A = ℕ} 0 1 = cc in absurd (omega arith)
      go (Some a) q t = (a, stands_at z a q)

  stands_held : (z : ℤ) (a : Slot) → home_slot n strip z ≡ Some a → lines.turn.held z ≡ true
  unfolding lines_of
  stands_held z a q = ap is_some q

  not_held : (z : ℤ) → lines.turn.held z ≡ false → home_slot n strip z ≡ None
  unfolding lines_of
  not_held z e = go (home_slot n strip z) e
    where
      go : (o : Option Slot) → is_some o ≡ false → o ≡ None
      go None t = refl
      go (Some a) t = let y : ◌≡◌ {A = ℕ} 0 1 = cc in absurd (omega arith)

  -- what is not held is linked to nothing, and lies nowhere
  nothing : (z : ℤ) → lines.turn.held z ≡ false → (lines.turn.follower z ≡ pos 0) × (lines.turn.predecessor z ≡ pos 0) × (lines.points z ≡ None)
  unfolding lines_of
  nothing z e =
      let q = not_held z e in
      (ap (follower_name strip) q, ap (predecessor_name strip) q, ap (at (λ a. start (strip a.strip) a.slot)) q)

  module _ (z : ℤ) (j i : ℕ) (s : Stands z j i) where
    follower_is : lines.turn.follower z ≡ (strip j).name ((strip j).follower i)
    unfolding lines_of
    follower_is = ap (follower_name strip) s.found

    predecessor_is : lines.turn.predecessor z ≡ name_or_0 (strip j) (each (strip j).slots (λ k. not (eqb ((strip j).follower k) i)))
    unfolding lines_of
    predecessor_is = ap (predecessor_name strip) s.found

    point_is : lines.points z ≡ Some (start (strip j) i)
    unfolding lines_of
    point_is = ap (at (λ a. start (strip a.strip) a.slot)) s.found

module _ (m n : ℕ) (strip : ℕ → Strip) (border : ℕ → ℤ) (known : JudgedStrips m n strip border) where
  abbrev t : Turn
  t = (lines n strip).turn

  abbrev points : ℤ → Option Point
  points = (lines n strip).points

  -- a home slot is that of its name
  put : (j i : ℕ) → j < n → i < (strip j).slots → home (strip j) i ≡ true → Stands n strip ((strip j).name i) j i
  put j i l h e = stands_at n strip ((strip j).name i) (record { strip = j; slot = i }) (known.only j i l h e)

  held_at : (z : ℤ) (j i : ℕ) → Stands n strip z j i → t.held z ≡ true
  held_at z j i s = stands_held n strip z (record { strip = j; slot = i }) s.found

  -- ---- lawful
  name_at : (z : ℤ) (j i : ℕ) → Stands n strip z j i → ask.named m z ≡ true
  name_at z j i s = subst (λ x. ask.named m x ≡ true) s.is (known.named j s.inside i s.below)

  -- the other name of the edge: its home lies to the side of the other end
  against : (z : ℤ) (j i : ℕ) → Stands n strip z j i → (a : Slot) × (home_slot n strip (neg_ℤ z) ≡ Some a) × Toward (neg_ℤ z) a.strip j
  against z j i s = known.runs_home j s.inside (neg_ℤ z)
      (subst (λ x. names (strip j) (strip j).slots (neg_ℤ x) ≡ true) s.is (second_is (names (strip j) i ((strip j).name i)) (names (strip j) (strip j).slots (neg_ℤ ((strip j).name i))) (known.pairs j s.inside i s.below)))

  follower_at : (z : ℤ) (j i : ℕ) → Stands n strip z j i → Stands n strip (t.follower z) j ((strip j).follower i)
  follower_at z j i s =
      let u = known.turned j s.inside in
      subst (λ x. Stands n strip x j ((strip j).follower i)) (sym (follower_is n strip z j i s)) (put j ((strip j).follower i) s.inside (u.ahead i s.below s.starts) (u.kept i s.below s.starts))

  predecessor_at : (z : ℤ) (j i : ℕ) → Stands n strip z j i → (k : ℕ) × ((strip j).follower k ≡ i) × Stands n strip (t.predecessor z) j k
  predecessor_at z j i s =
      let r = before (strip j) (known.turned j s.inside) (known.small j s.inside) i s.below s.starts in
      let q : t.predecessor z ≡ (strip j).name r.0 = predecessor_is n strip z j i s ∙ ap (name_or_0 (strip j)) r.4 in
      (r.0, r.3, subst (λ x. Stands n strip x j r.0) (sym q) (put j r.0 s.inside r.1 r.2))

  undone : (z : ℤ) (j i : ℕ) → Stands n strip z j i → t.predecessor (t.follower z) ≡ z
  undone z j i s =
      let f = follower_at z j i s in
      let r = predecessor_at (t.follower z) j ((strip j).follower i) f in
      let k = r.0 in
      let q = r.2 in
      let same : k ≡ i = (known.turned j s.inside).apart k i q.below s.below q.starts s.starts r.1 in
      sym q.is ∙ ap (strip j).name same ∙ s.is

  redone : (z : ℤ) (j i : ℕ) → Stands n strip z j i → t.follower (t.predecessor z) ≡ z
  redone z j i s =
      let r = predecessor_at z j i s in
      follower_is n strip (t.predecessor z) j r.0 r.2 ∙ ap (strip j).name r.1 ∙ s.is

  lawful : Lawful m t
  lawful = record {
    no_zero = ⊎_elim (λ e. let r = held_stands n strip (pos 0) e in absurd (named_not m (name_at (pos 0) r.0.strip r.0.slot r.1))) (λ e. e) (cases_Bool (t.held (pos 0)));
    low = λ h e. let r = held_stands n strip h e in named_low m h (name_at h r.0.strip r.0.slot r.1);
    high = λ h e. let r = held_stands n strip h e in named_high m h (name_at h r.0.strip r.0.slot r.1);
    closed = λ h e. let r = held_stands n strip h e in let a = against h r.0.strip r.0.slot r.1 in stands_held n strip (neg_ℤ h) a.0 a.1;
    ahead = λ h e. let r = held_stands n strip h e in held_at (t.follower h) r.0.strip ((strip r.0.strip).follower r.0.slot) (follower_at h r.0.strip r.0.slot r.1);
    behind = λ h e. let r = held_stands n strip h e in let p = predecessor_at h r.0.strip r.0.slot r.1 in held_at (t.predecessor h) r.0.strip p.0 p.2;
    undone = λ h e. let r = held_stands n strip h e in undone h r.0.strip r.0.slot r.1;
    redone = λ h e. let r = held_stands n strip h e in redone h r.0.strip r.0.slot r.1;
    no_follower = λ h e. (nothing n strip h e).0;
    no_predecessor = λ h e. (nothing n strip h e).1;
  }

  -- ---- placed
  vertex_at : (z : ℤ) (j i : ℕ) → Stands n strip z j i → vertex (strip j) i < (strip j).vertices
  vertex_at z j i s = vertex_small (strip j) (known.turned j s.inside) (known.round j s.inside) i s.below s.starts

  alike : (z : ℤ) (j i : ℕ) → Stands n strip z j i → points (t.follower z) ≡ points z
  alike z j i s =
      point_is n strip (t.follower z) j ((strip j).follower i) (follower_at z j i s)
      ∙ ap (λ v. Some ((strip j).point v)) (vertex_alike (strip j) (known.turned j s.inside) i s.below s.starts) ∙ sym (point_is n strip z j i s)

  -- follower leads from a name to those of the slots that it leads to
  walk_slots : (j i : ℕ) → j < n → i < (strip j).slots → home (strip j) i ≡ true → (k : ℕ) → SameRound t ((strip j).name i) ((strip j).name (iterate k (strip j).follower i))
  walk_slots j i l h e zero = stay
  walk_slots j i l h e (suc k) =
      let o = home_at (strip j) (known.turned j l) i h e k in
      let x = iterate k (strip j).follower i in
      follow (walk_slots j i l h e k) (one (inl (sym (follower_is n strip ((strip j).name x) j x (put j x l o.0 o.1)))))

  -- points of two strips differ
  one_strip : (j c v w : ℕ) → j < c → c < n → v < (strip j).vertices → w < (strip c).vertices → ((strip j).point v).x ≡ ((strip c).point w).x → ⊥
  one_strip j zero v w l h p q e = omega arith
  one_strip j (suc c) v w l h p q e =
      not_in_both ((strip j).point v).x (border j) (border c) (known.eastern j (omega arith) v p) (known.rises j c (omega arith) h)
      (subst (λ x. border c ≤ℤ x) (sym e) (known.western c h w q))

  -- points of one strip differ
  one_point : (j v w : ℕ) → j < n → v < w → w < (strip j).vertices → (strip j).point v ≡ (strip j).point w → ⊥
  one_point j v w l h q e =
      bool_apart (same_point ((strip j).point v) ((strip j).point w)) (same_point_true ((strip j).point v) ((strip j).point w) e)
      (any_none (λ k. same_point ((strip j).point k) ((strip j).point w)) w (not-true _ (known.parted j l w q)) v h)

  same_vertex : (j v w : ℕ) → j < n → v < (strip j).vertices → w < (strip j).vertices → (strip j).point v ≡ (strip j).point w → v ≡ w
  same_vertex j v w l p q e = ⊎_elim (λ s. s) (⊎_elim (λ h. absurd (one_point j v w l h q e)) (λ h. absurd (one_point j w v l h p (sym e)))) (cases_order v w)

  same_strip : (g h : ℤ) (j i c k : ℕ) → Stands n strip g j i → Stands n strip h c k → start (strip j) i ≡ start (strip c) k → c ≡ j
  same_strip g h j i c k s u e = ⊎_elim (λ q. q)
      (⊎_elim
      (λ l. absurd (one_strip c j (vertex (strip c) k) (vertex (strip j) i) l s.inside (vertex_at h c k u) (vertex_at g j i s) (sym (ap (λ p. p.x) e))))
      (λ l. absurd (one_strip j c (vertex (strip j) i) (vertex (strip c) k) l u.inside (vertex_at g j i s) (vertex_at h c k u) (ap (λ p. p.x) e))))
      (cases_order c j)

  round_of : (g h : ℤ) (j i k : ℕ) → Stands n strip g j i → Stands n strip h j k → start (strip j) i ≡ start (strip j) k → SameRound t g h
  round_of g h j i k s u e =
      let v = same_vertex j (vertex (strip j) i) (vertex (strip j) k) s.inside (vertex_at g j i s) (vertex_at h j k u) e in
      let r = one_vertex (strip j) (known.turned j s.inside) i k s.below u.below s.starts u.starts v in
      let x = iterate r.0 (strip j).follower i in
      let o = home_at (strip j) (known.turned j s.inside) i s.below s.starts r.0 in
      let there = follow (walk_slots j i s.inside s.below s.starts r.0) (walk_slots j x s.inside o.0 o.1 r.1) in
      subst (λ y. SameRound t g y) (ap (strip j).name r.2 ∙ u.is) (subst (λ y. SameRound t y ((strip j).name (iterate r.1 (strip j).follower x))) s.is there)

  together : (g h : ℤ) → t.held g ≡ true → t.held h ≡ true → points g ≡ points h → same_round m t g h ≡ true
  together g h d e q =
      let a = held_stands n strip g d in
      let c = held_stands n strip h e in
      let p : start (strip a.0.strip) a.0.slot ≡ start (strip c.0.strip) c.0.slot =
      some_same _ _ (sym (point_is n strip g a.0.strip a.0.slot a.1) ∙ q ∙ point_is n strip h c.0.strip c.0.slot c.1) in
      T_true (same_round m t g h) ((round_walk m t lawful g h d).1 (go g h a.0.strip a.0.slot c.0.strip c.0.slot a.1 c.1 p))
    where
      go : (g h : ℤ) (j i c k : ℕ) → Stands n strip g j i → Stands n strip h c k → start (strip j) i ≡ start (strip c) k → SameRound t g h
      go g h j i c k s u p =
          let q = same_strip g h j i c k s u p in
          round_of g h j i k s (subst (λ x. Stands n strip h x k) q u) (subst (λ x. start (strip j) i ≡ start (strip x) k) q p)

  -- both ends of an edge in one strip: question 16
  west_here : (e j i k : ℕ) → Stands n strip (pos (suc e)) j i → Stands n strip (negsuc e) j k → west (start (strip j) i) (start (strip j) k) ≡ true
  west_here e j i k s u =
      let up : ask.positive ((strip j).name i) ≡ true = subst (λ z. ask.positive z ≡ true) (sym s.is) (named_positive m (suc e) (name_at (pos (suc e)) j i s)) in
      let none-wrong = first_west (home (strip j) i) (ask.positive ((strip j).name i)) (any_below (ask.wrong_way (strip j) i) (strip j).slots) s.starts up (known.west_first j s.inside i s.below) in
      right_way (home (strip j) k) (equal ((strip j).name k) (neg_ℤ ((strip j).name i))) (west (start (strip j) i) (start (strip j) k)) u.starts
      (equal_same ((strip j).name k) (neg_ℤ ((strip j).name i)) (u.is ∙ sym (ap neg_ℤ s.is))) (any_none (ask.wrong_way (strip j) i) (strip j).slots none-wrong k u.below)

  -- in two strips: a border lies between
  west_apart : (e j i c k : ℕ) → Stands n strip (pos (suc e)) j i → Stands n strip (negsuc e) c k → j < c → west (start (strip j) i) (start (strip c) k) ≡ true
  west_apart e j i zero k s u l = absurd (omega arith)
  west_apart e j i (suc c) k s u l =
      let h : suc c < n = u.inside in
      or_left (lt_z (start (strip j) i).x (start (strip (suc c)) k).x) _
      (west_of_border (start (strip j) i).x (border j) (border c) (start (strip (suc c)) k).x (known.eastern j (omega arith) (vertex (strip j) i) (vertex_at (pos (suc e)) j i s))
      (known.rises j c (omega arith) h) (known.western c h (vertex (strip (suc c)) k) (vertex_at (negsuc e) (suc c) k u)))

  west_there : (e j i c k : ℕ) → Stands n strip (pos (suc e)) j i → Stands n strip (negsuc e) c k → j ≤ c → west (start (strip j) i) (start (strip c) k) ≡ true
  west_there e j i c k s u l = ⊎_elim
      (λ q. subst (λ x. Stands n strip (negsuc e) x k → west (start (strip j) i) (start (strip x) k) ≡ true) q (west_here e j i k s) u)
      (λ d. west_apart e j i c k s u (omega arith))
      (cases_eq j c)

  westward : (e : ℕ) → t.held (pos e) ≡ true → told_west (points (pos e)) (points (neg_ℤ (pos e))) ≡ true
  westward zero e = absurd (bool_apart (t.held (pos 0)) e lawful.no_zero)
  westward (suc e) h =
      let a = held_stands n strip (pos (suc e)) h in
      let j = a.0.strip in
      let i = a.0.slot in
      let o = against (pos (suc e)) j i a.1 in
      let u = stands_at n strip (negsuc e) o.0 o.1 in
      ap₂ told_west (point_is n strip (pos (suc e)) j i a.1) (point_is n strip (negsuc e) o.0.strip o.0.slot u) ∙ west_there e j i o.0.strip o.0.slot a.1 u o.2

  placed : Placed m t points
  placed = record {
    nowhere = λ h e. (nothing n strip h e).2;
    somewhere = λ h e.
        let r = held_stands n strip h e in
        ap told_on_sheet (point_is n strip h r.0.strip r.0.slot r.1)
        ∙ known.sheet r.0.strip r.1.inside (vertex (strip r.0.strip) r.0.slot) (vertex_at h r.0.strip r.0.slot r.1);
    together = together;
    alike = λ h e. let r = held_stands n strip h e in alike h r.0.strip r.0.slot r.1;
    westward = westward;
  }

-- ---- the strips of an accepted file
at_least : (a x : ℤ) → le_z a x ≡ true → a ≤ℤ x
at_least a x e = grind (arith, ints)

under : (x a : ℤ) → lt_z x a ≡ true → x <ℤ a
under x a e = grind (arith, ints)

up_to : (x : ℤ) → x ≤ℤ x
up_to x = grind (arith, ints)

step_up : (a c d : ℤ) → a ≤ℤ c → lt_z c d ≡ true → a ≤ℤ d
step_up a c d p q = grind (arith, ints)

module _ (b : List ℕ) (p : Passed b) where
  -- where point k of strip j lies
  lies : (j : ℕ) → j < file.strips b → (k : ℕ) → k < (file.strip b j).vertices
      → (on_sheet ((file.strip b j).point k) ≡ true) × (ask.not_west_of (file.western b j) ((file.strip b j).point k).x ≡ true) × (ask.west_of (file.eastern b j) ((file.strip b j).point k).x ≡ true)
  lies j l k h =
      let q = (file.strip b j).point k in
      let r = and_parts (on_sheet q) (ask.not_west_of (file.western b j) q.x && ask.west_of (file.eastern b j) q.x) (p.judged.placed j l k h) in
      let s = and_parts (ask.not_west_of (file.western b j) q.x) (ask.west_of (file.eastern b j) q.x) r.1 in
      (r.0, s.0, s.1)

  eastern_of : (j : ℕ) → suc j < file.strips b → (x : ℤ) → ask.west_of (file.eastern b j) x ≡ true → x <ℤ file.border b j
  eastern_of j l x e = under x (file.border b j) (subst (λ t. ask.west_of (cond t (Some (file.border b j)) None) x ≡ true) (lt-ltb (suc j) (file.strips b) l) e)

  -- each border is above the one before
  next_border : (k : ℕ) → suc (suc k) < file.strips b → lt_z (file.border b k) (file.border b (suc k)) ≡ true
  next_border k l =
      let r = and_parts (within (file.border b (suc k))) (eqb (suc k) 0 || lt_z (file.border b (suc k - 1)) (file.border b (suc k))) (p.rises (suc k) (omega arith)) in
      let back : suc k - 1 ≡ k = omega arith in
      let later : eqb (suc k) 0 ≡ false = ne_eqb (suc k) 0 (λ e. omega arith) in
      subst (λ i. lt_z (file.border b i) (file.border b (suc k)) ≡ true) back (subst (λ t. (t || lt_z (file.border b (suc k - 1)) (file.border b (suc k))) ≡ true) later r.1)

  rise : (i k : ℕ) → i ≤ k → suc k < file.strips b → file.border b i ≤ℤ file.border b k
  rise i zero l h = let e : i ≡ 0 = omega arith in subst (λ x. file.border b x ≤ℤ file.border b 0) (sym e) (up_to (file.border b 0))
  rise i (suc k) l h = ⊎_elim
      (λ e. subst (λ x. file.border b i ≤ℤ file.border b x) e (up_to (file.border b i)))
      (λ d. step_up (file.border b i) (file.border b k) (file.border b (suc k)) (rise i k (omega arith) (omega arith)) (next_border k h))
      (cases_eq i (suc k))

  judged_strips : RunsHome b → JudgedStrips max_edge (file.strips b) (file.strip b) (file.border b)
  judged_strips r = record {
    named = p.judged.named;
    pairs = p.judged.pairs;
    turned = p.judged.turned;
    round = p.judged.round;
    small = λ j l. let s = p.shaped.small j l in omega arith;
    sheet = λ j l k h. (lies j l k h).0;
    western = λ j l k h. at_least (file.border b j) ((file.strip b (suc j)).point k).x (lies (suc j) l k h).1;
    eastern = λ j l k h. eastern_of j l ((file.strip b j).point k).x (lies j (omega arith) k h).2;
    rises = rise;
    parted = p.judged.parted;
    west_first = p.west_first;
    only = home_is b p;
    runs_home = r;
  }

  pub told_sound : RunsHome b → Sound max_edge (told_lines b)
  told_sound r = (lawful max_edge (file.strips b) (file.strip b) (file.border b) (judged_strips r), placed max_edge (file.strips b) (file.strip b) (file.border b) (judged_strips r))
