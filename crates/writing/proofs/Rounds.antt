-- A strip with the arrays that are written of it tells the strip of the line work: its names, its followers, and its rounds with their points. Assumes nothing.
use Rattle.std.proofs.Common.{◌≡◌, ℕ, zero, suc, ◌<◌, ◌≤◌, Bool, true, false, cond, not, ◌&&◌, ◌||◌, eqb, List, [], ◌∷◌, ◌++◌, length, get_or, take, ℤ, pos, Some, None, Option, sym, refl, ap, ◌∙◌, subst, ⊎_elim, add-one, arith}
use Rattle.std.proofs.lemmas.List.{take_more, take_all, append-nil}
use Rattle.std.proofs.lemmas.Bool.{cond-true, cond-false, cases_Bool, eqb-true, eqb-false, eq-eqb, ne_eqb, and_parts, and_from, both_ways}
use Rattle.flat.specs.Orbits.{◌∈◌, iterate, filter}
use Rattle.flat.specs.Whole.{equal}
use Rattle.flat.proofs.Basics.{T_true, true_T}
use Rattle.flat.proofs.Trails.{reach_steps}
use Rattle.flat.proofs.Whole.{equal_is}
use Rattle.turning.proofs.Tests.{round_walk}
use Rattle.chart.specs.declared.point.Point.{Point}
use Rattle.chart.specs.Points.{same_point, told_on_sheet}
use Rattle.chart.specs.Linework.{Linework}
use Rattle.halfedges.specs.Copies.{point_or_origin}
use Rattle.laws.specs.Keeps.{Sound}
use Rattle.strips.specs.Borders.{strip_of, x_of, home_strip, runs_through}
use Rattle.file.specs.Places.{any_below}
use Rattle.file.specs.Strips.{none, Strip, home, names, low, opens, rounds, vertex, start, Turned}
use Rattle.file.proofs.Places.{any_here, any_where, none_any}
use Rattle.file.proofs.Walking.{home_at, low_is, low_under, low_same, low_slot}
use Rattle.told.specs.Tells.{TellsStrip}
use Rattle.writing.specs.Written.{names_in, starts_in, place_in, follower_slot, start_of, starts_at, new_points, points_in}
use Rattle.writing.proofs.Listing.{in_at, apart_at, place_is, filter_join, count_rises, grown_length, grown_at}
use Rattle.writing.proofs.Slotting.{runs_home, runs_held, in_strip, strip_runs, strip_apart}
use Rattle.writing.proofs.Pointing.{point_is, is_point, starts_more, new_more}
use Rattle.writing.proofs.InArrays.{Arrayed}

same_bool : (a b : Bool) → (a ≡ true → b ≡ true) → (b ≡ true → a ≡ true) → a ≡ b
same_bool true b f g = sym (f refl)
same_bool false true f g = g refl
same_bool false false f g = refl

-- a point that is told is the one that is read of it
pub told_point : (o : Option Point) → told_on_sheet o ≡ true → o ≡ Some (point_or_origin o)
told_point None e = absurd (both_ways false refl e)
told_point (Some p) e = refl

home_not : (f : ℕ) → f ≡ none → not (eqb f none) ≡ false
home_not f e = ap not (eq-eqb f none e)

home_slot : (f : ℕ) → f < none → not (eqb f none) ≡ true
home_slot f l = ap not (ne_eqb f none (λ e. omega arith))

module _ (n : ℕ) (bs : List ℤ) (l : Linework) (sound : Sound n l) (i : ℕ) (s : Strip)
    (array : Arrayed (names_in n bs l i) (follower_slot n bs l i) (points_in n bs l i) s) (small : length (names_in n bs l i) < none) where
  abbrev hs : List ℤ
  hs = names_in n bs l i

  within : (k : ℕ) → k < s.slots → k < length hs
  within k h = omega (arith, array.slots)

  -- ---- the names
  name_in : (k : ℕ) → k < s.slots → s.name k ∈ hs
  name_in k h = subst (λ z. z ∈ hs) (sym (array.name k (within k h))) (in_at (pos 0) hs k (within k h))

  runs_at : (k : ℕ) → k < s.slots → runs_through bs l i (s.name k) ≡ true
  runs_at k h = strip_runs n bs l sound i (s.name k) (name_in k h)

  held_at : (k : ℕ) → k < s.slots → l.turn.held (s.name k) ≡ true
  held_at k h = runs_held n bs l sound i (s.name k) (runs_at k h)

  slot_of : (h : ℤ) → runs_through bs l i h ≡ true → (place_in hs h < s.slots) × (s.name (place_in hs h) ≡ h)
  slot_of h r =
      let p = place_is hs h (pos 0) (in_strip n bs l sound i h r) in
      let q : place_in hs h < length hs = p.0 in
      (omega (arith, array.slots), array.name (place_in hs h) q ∙ p.1)

  held : (h : ℤ) → names s s.slots h ≡ runs_through bs l i h
  held h = same_bool _ _
      (λ e.
      let r = any_where (λ k. equal (s.name k) h) s.slots e in
      subst (λ z. runs_through bs l i z ≡ true) ((equal_is (s.name r.0) h).0 (true_T _ r.2)) (runs_at r.0 r.1))
      (λ e.
      let p = slot_of h e in
      any_here (λ k. equal (s.name k) h) (place_in hs h) s.slots p.0 (T_true _ ((equal_is (s.name (place_in hs h)) h).1 p.1)))

  once : (k m : ℕ) → k < s.slots → m < s.slots → s.name k ≡ s.name m → k ≡ m
  once k m g h e =
      apart_at (pos 0) hs (strip_apart n bs l i) k m (within k g) (within m h) (sym (array.name k (within k g)) ∙ e ∙ array.name m (within m h))

  -- ---- the followers
  follows : (k : ℕ) → k < s.slots → s.follower k ≡ follower_slot n bs l i (s.name k)
  follows k h = array.follower k (within k h) ∙ ap (follower_slot n bs l i) (sym (array.name k (within k h)))

  -- the follower starts in the same strip
  ahead_starts : (h : ℤ) → l.turn.held h ≡ true → home_strip bs l (l.turn.follower h) ≡ home_strip bs l h
  ahead_starts h t = ap (λ o. strip_of bs (x_of o)) (sound.1.alike h t)

  led : (k : ℕ) → k < s.slots → starts_in bs l i (s.name k) ≡ true → (s.follower k < s.slots) × (s.name (s.follower k) ≡ l.turn.follower (s.name k))
  led k h e =
      let t = held_at k h in
      let f : s.follower k ≡ place_in hs (l.turn.follower (s.name k)) = follows k h ∙ cond-true (starts_in bs l i (s.name k)) _ none e in
      let r = runs_home n bs l sound (l.turn.follower (s.name k)) i (sound.0.ahead (s.name k) t) (ahead_starts (s.name k) t ∙ eqb-true _ i e) in
      let p = slot_of (l.turn.follower (s.name k)) r in
      (subst (λ j. j < s.slots) (sym f) p.0, ap s.name f ∙ p.1)

  homes : (k : ℕ) → k < s.slots → home s k ≡ starts_in bs l i (s.name k)
  homes k h = ⊎_elim
      (λ e. let p : s.follower k < s.slots = (led k h e).0 in home_slot (s.follower k) (omega (arith, array.slots)) ∙ sym e)
      (λ e. home_not (s.follower k) (follows k h ∙ cond-false (starts_in bs l i (s.name k)) _ none e) ∙ sym e)
      (cases_Bool (starts_in bs l i (s.name k)))

  led_home : (k : ℕ) → k < s.slots → home s k ≡ true → (s.follower k < s.slots) × (s.name (s.follower k) ≡ l.turn.follower (s.name k))
  led_home k h e = led k h (sym (homes k h) ∙ e)

  turned : Turned s
  turned = record {
    ahead = λ k h e. (led_home k h e).0;
    kept = λ k h e. let p = led_home k h e in
        homes (s.follower k) p.0 ∙ ap (starts_in bs l i) p.1 ∙ ap (λ j. eqb j i) (ahead_starts (s.name k) (held_at k h)) ∙ sym (homes k h) ∙ e;
    apart = λ k m g h d e q.
        once k m g h
        (sym (sound.0.undone (s.name k) (held_at k g))
        ∙ ap l.turn.predecessor (sym (led_home k g d).1 ∙ ap s.name q ∙ (led_home m h e).1) ∙ sound.0.undone (s.name m) (held_at m h));
  }

  -- ---- the rounds
  -- a walk of slots is a walk of names
  walked : (k : ℕ) → k < s.slots → home s k ≡ true → (m : ℕ) → s.name (iterate m s.follower k) ≡ iterate m l.turn.follower (s.name k)
  walked k h e zero = refl
  walked k h e (suc m) = let r = home_at s turned k h e m in (led_home _ r.0 r.1).1 ∙ ap l.turn.follower (walked k h e m)

  -- along which the point stays
  stays : (k : ℕ) → k < s.slots → home s k ≡ true → (m : ℕ) → l.points (s.name (iterate m s.follower k)) ≡ l.points (s.name k)
  stays k h e zero = refl
  stays k h e (suc m) =
      let r = home_at s turned k h e m in
      ap l.points (led_home _ r.0 r.1).1 ∙ sound.1.alike _ (held_at _ r.0) ∙ stays k h e m

  low_point : (k : ℕ) → k < s.slots → home s k ≡ true → l.points (s.name (low s k)) ≡ l.points (s.name k)
  low_point k h e = let d = low_is s turned k in ap (λ j. l.points (s.name j)) d.2 ∙ stays k h e d.0

  -- one point, one round
  low_together : (k m : ℕ) → k < s.slots → m < s.slots → home s k ≡ true → home s m ≡ true → l.points (s.name k) ≡ l.points (s.name m) → low s m ≡ low s k
  low_together k m g h d e q =
      let t = sound.1.together (s.name k) (s.name m) (held_at k g) (held_at m h) q in
      let w = reach_steps l.turn.follower (s.name k) (s.name m) ((round_walk n l.turn sound.0 (s.name k) (s.name m) (held_at k g)).0 (true_T _ t)) in
      let there : iterate w.0 s.follower k ≡ m = once _ m (home_at s turned k g d w.0).0 h (walked k g d w.0 ∙ w.1) in
      ap (low s) (sym there) ∙ low_same s turned k g d w.0

  -- ---- the vertices
  -- where the halfedge of slot k starts
  abbrev at : ℕ → Point
  at k = start_of l (s.name k)

  told_at : (k : ℕ) → k < s.slots → l.points (s.name k) ≡ Some (at k)
  told_at k h = told_point (l.points (s.name k)) (sound.1.somewhere (s.name k) (held_at k h))

  -- one of the lowest m slots is home and starts at p
  abbrev taken : ℕ → Point → Bool
  taken m p = any_below (λ j. home s j && same_point (at j) p) m

  low_taken : (k : ℕ) → k < s.slots → home s k ≡ true → low s k ≡ k → taken k (at k) ≡ false
  low_taken k h e q = none_any (λ j. home s j && same_point (at j) (at k)) k (λ j g. ⊎_elim (λ t. absurd (clash j g t)) (λ f. f) (cases_Bool (home s j && same_point (at j) (at k))))
    where
      clash : (j : ℕ) → j < k → (home s j && same_point (at j) (at k)) ≡ true → ⊥
      clash j g t =
          let r = and_parts (home s j) (same_point (at j) (at k)) t in
          let m : j < s.slots = omega arith in
          let p : l.points (s.name j) ≡ l.points (s.name k) = told_at j m ∙ ap Some (point_is (at j) (at k) r.1) ∙ sym (told_at k h) in
          let u : low s k ≡ low s j = low_together j k m h r.0 e p in
          let v : low s j ≤ j = low_under s turned j m r.0 0 in
          omega arith

  high_taken : (k : ℕ) → k < s.slots → home s k ≡ true → (low s k ≡ k → ⊥) → taken k (at k) ≡ true
  high_taken k h e d =
      let u : low s k ≤ k = low_under s turned k h e 0 in
      let r = low_slot s turned k h e in
      any_here (λ j. home s j && same_point (at j) (at k)) (low s k) k (omega arith) (and_from _ _ r.1 (is_point (at (low s k)) (at k) (ap point_or_origin (low_point k h e))))

  -- a home slot opens a round exactly where no lower one starts at its point
  opens_new : (k : ℕ) → k < s.slots → home s k ≡ true → opens s k ≡ not (taken k (at k))
  opens_new k h e = ap (λ b. b && eqb (low s k) k) e ∙ ⊎_elim
      (λ t. t ∙ sym (ap not (low_taken k h e (eqb-true (low s k) k t))))
      (λ f. f ∙ sym (ap not (high_taken k h e (eqb-false (low s k) k f))))
      (cases_Bool (eqb (low s k) k))

  opens_away : (k : ℕ) → home s k ≡ false → opens s k ≡ false
  opens_away k e = ap (λ b. b && eqb (low s k) k) e

  -- the home names of the lowest k slots, and their points
  abbrev home_names : ℕ → List ℤ
  home_names k = filter (starts_in bs l i) (take k hs)

  abbrev grown : ℕ → List Point
  grown k = new_points l [] (home_names k)

  names_more : (k : ℕ) → k < s.slots → home_names (suc k) ≡ home_names k ++ cond (home s k) (s.name k ∷ []) []
  names_more k h =
      ap (filter (starts_in bs l i)) (ap (λ m. take m hs) (sym (add-one k)) ∙ take_more hs k (pos 0) (within k h)) ∙ filter_join (starts_in bs l i) (take k hs) (get_or hs k (pos 0) ∷ [])
      ∙ ap (λ z. home_names k ++ filter (starts_in bs l i) (z ∷ [])) (sym (array.name k (within k h)))
      ∙ ap (λ b. home_names k ++ cond b (s.name k ∷ []) []) (sym (homes k h))

  starts_below : (k : ℕ) (p : Point) → k ≤ s.slots → starts_at l (home_names k) p ≡ taken k p
  starts_below zero p h = refl
  starts_below (suc k) p h = ap (λ xs. starts_at l xs p) (names_more k (omega arith)) ∙ go (home s k) (starts_below k p (omega arith))
    where
      go : (b : Bool) → starts_at l (home_names k) p ≡ taken k p → starts_at l (home_names k ++ cond b (s.name k ∷ []) []) p ≡ ((b && same_point (at k) p) || taken k p)
      go true rec = starts_more l (home_names k) (s.name k) p ∙ ap (λ b. same_point (at k) p || b) rec
      go false rec = ap (λ xs. starts_at l xs p) (append-nil (home_names k)) ∙ rec

  grown_more : (k : ℕ) → k < s.slots → grown (suc k) ≡ grown k ++ cond (opens s k) (at k ∷ []) []
  grown_more k h = ap (new_points l []) (names_more k h) ∙ ⊎_elim
      (λ e.
      ap (λ b. new_points l [] (home_names k ++ cond b (s.name k ∷ []) [])) e ∙ new_more l [] (home_names k) (s.name k)
      ∙ ap (λ b. grown k ++ cond b [] (at k ∷ [])) (starts_below k (at k) (omega arith)) ∙ turn_about (taken k (at k)) ∙ ap (λ b. grown k ++ cond b (at k ∷ []) []) (sym (opens_new k h e)))
      (λ e.
      ap (λ b. new_points l [] (home_names k ++ cond b (s.name k ∷ []) [])) e ∙ ap (new_points l []) (append-nil (home_names k)) ∙ sym (append-nil (grown k))
      ∙ ap (λ b. grown k ++ cond b (at k ∷ []) []) (sym (opens_away k e)))
      (cases_Bool (home s k))
    where
      turn_about : (b : Bool) → grown k ++ cond b [] (at k ∷ []) ≡ grown k ++ cond (not b) (at k ∷ []) []
      turn_about true = refl
      turn_about false = refl

  grown_all : grown s.slots ≡ points_in n bs l i
  unfolding points_in
  grown_all = ap (λ xs. new_points l [] (filter (starts_in bs l i) xs)) (take_all s.slots hs (omega (arith, array.slots)))

  round : rounds s ≡ s.vertices
  unfolding rounds
  round = sym (array.vertices ∙ ap length (sym grown_all) ∙ grown_length grown (opens s) at s.slots refl grown_more (point_or_origin None) s.slots (omega arith))

  starts : (k : ℕ) → k < s.slots → home s k ≡ true → l.points (s.name k) ≡ Some (start s k)
  unfolding vertex rounds
  starts k h e =
      let r = low_slot s turned k h e in
      let o : opens s (low s k) ≡ true = and_from (home s (low s k)) _ r.1 (eq-eqb _ _ r.2) in
      let c : vertex s k < s.vertices = subst (λ m. vertex s k < m) round (count_rises (opens s) s.slots (low s k) r.0 o) in
      let p : start s k ≡ at (low s k) =
      array.point (vertex s k) (omega (arith, array.vertices)) ∙ ap (λ ps. get_or ps (vertex s k) (point_or_origin None)) (sym grown_all)
      ∙ grown_at grown (opens s) at s.slots refl grown_more (point_or_origin None) s.slots (low s k) (omega arith) r.0 o in
      sym (low_point k h e) ∙ told_at (low s k) r.0 ∙ ap Some (sym p)

  pub strip_tells : TellsStrip bs l i s
  strip_tells = record {
    held = held;
    once = once;
    homes = homes;
    inside = λ k h e. (led_home k h e).0;
    leads = λ k h e. (led_home k h e).1;
    round = round;
    starts = starts;
  }
