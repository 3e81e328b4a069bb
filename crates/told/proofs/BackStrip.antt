-- A strip that tells a strip of sound line work: its slots by name, and its rounds. Assumes nothing.
use Rattle.std.proofs.Common.{◌≡◌, ℕ, ◌<◌, ◌≤◌, true, not, eqb, List, [], ◌∷◌, ℤ, Some, sym, refl, ap, ◌∙◌, subst, inl, inr, arith}
use Rattle.std.proofs.lemmas.Bool.{and_parts, eqb-true, eq-eqb}
use Rattle.std.proofs.lemmas.Bool.Decides.{nat_tests}
use Rattle.flat.specs.Orbits.{Reach, stay, walk}
use Rattle.flat.specs.Whole.{equal}
use Rattle.chart.specs.Points.{on_sheet, told_on_sheet}
use Rattle.chart.specs.Linework.{Linework}
use Rattle.laws.specs.Keeps.{Sound}
use Rattle.strips.specs.Borders.{strip_of, x_of, home_strip, runs_through}
use Rattle.file.specs.Places.{count_below}
use Rattle.file.specs.Strips.{none, Strip, home, low, opens, rounds, vertex, Turned}
use Rattle.file.proofs.Places.{any_here, any_where}
use Rattle.file.proofs.Walking.{low_same}
use Rattle.told.specs.Tells.{TellsStrip}
use Rattle.told.proofs.BackPlaces.{equal_same, equal_true, counted}
use Rattle.told.proofs.BackSpans.{runs_parts, home_runs, home_alike, home_before}

slot_home : (f m h : ℕ) → m < h → h ≤ none → f ≡ m → not (eqb f none) ≡ true
slot_home f m h l few e = grind (arith, nat_tests)

module _ (n : ℕ) (bs : List ℤ) (l : Linework) (sound : Sound n l) (i : ℕ) (s : Strip) (few : s.slots ≤ none) (told : TellsStrip bs l i s) where
  -- ---- slots by name
  pub name_runs : (k : ℕ) → k < s.slots → runs_through bs l i (s.name k) ≡ true
  name_runs k h = sym (told.held (s.name k)) ∙ any_here (λ m. equal (s.name m) (s.name k)) k s.slots h (equal_same (s.name k) (s.name k) refl)

  pub name_held : (k : ℕ) → k < s.slots → l.turn.held (s.name k) ≡ true
  name_held k h = (runs_parts bs l i (s.name k) (name_runs k h)).0

  pub found : (z : ℤ) → runs_through bs l i z ≡ true → (k : ℕ) × (k < s.slots) × (s.name k ≡ z)
  found z r =
      let w = any_where (λ m. equal (s.name m) z) s.slots (told.held z ∙ r) in
      (w.0, w.1, equal_true (s.name w.0) z w.2)

  pub starts_in : (k : ℕ) → k < s.slots → home s k ≡ true → home_strip bs l (s.name k) ≡ i
  starts_in k h e = eqb-true (home_strip bs l (s.name k)) i (sym (told.homes k h) ∙ e)

  is_home : (k : ℕ) → k < s.slots → home_strip bs l (s.name k) ≡ i → home s k ≡ true
  is_home k h e = told.homes k h ∙ eq-eqb (home_strip bs l (s.name k)) i e

  -- a name that starts in the strip has a home slot there
  pub found_home : (z : ℤ) → l.turn.held z ≡ true → home_strip bs l z ≡ i → (k : ℕ) × (k < s.slots) × (s.name k ≡ z) × (home s k ≡ true)
  found_home z held e =
      let w = found z (home_runs n bs l sound z held i e) in
      (w.0, w.1, w.2, is_home w.0 w.1 (ap (home_strip bs l) w.2 ∙ e))

  -- ---- followers
  pub turned : Turned s
  turned = record {
    ahead = told.inside;
    kept = λ k h e. is_home (s.follower k) (told.inside k h e) (ap (home_strip bs l) (told.leads k h e) ∙ home_alike n bs l sound (s.name k) (name_held k h) ∙ starts_in k h e);
    apart = λ k m h g d e p. told.once k m h g
        (sym (sound.0.undone (s.name k) (name_held k h)) ∙ ap l.turn.predecessor (sym (told.leads k h d) ∙ ap s.name p ∙ told.leads m g e)
        ∙ sound.0.undone (s.name m) (name_held m g));
  }

  -- what leads to a slot is home
  pub leads_home : (k m : ℕ) → m < s.slots → s.follower k ≡ m → home s k ≡ true
  leads_home k m h e = slot_home (s.follower k) m s.slots h few e

  -- the slot that a home slot follows
  pub before : (k : ℕ) → k < s.slots → home s k ≡ true → (m : ℕ) × (m < s.slots) × (s.follower m ≡ k) × (s.name m ≡ l.turn.predecessor (s.name k))
  before k h e =
      let held = name_held k h in
      let r = found_home (l.turn.predecessor (s.name k)) (sound.0.behind (s.name k) held) (home_before n bs l sound (s.name k) held ∙ starts_in k h e) in
      let led : s.name (s.follower r.0) ≡ s.name k = told.leads r.0 r.1 r.3 ∙ ap l.turn.follower r.2 ∙ sound.0.redone (s.name k) held in
      (r.0, r.1, told.once (s.follower r.0) k (told.inside r.0 r.1 r.3) h led, r.2)

  -- no other slot leads there
  pub before_one : (k m m' : ℕ) → k < s.slots → m < s.slots → m' < s.slots → s.follower m ≡ k → s.follower m' ≡ k → m ≡ m'
  before_one k m m' h g g' e e' = turned.apart m m' g g' (leads_home m k h e) (leads_home m' k h e') (e ∙ sym e')

  -- ---- rounds
  -- a walk along followers stays on the round
  walked : {g h : ℤ} → Reach (l.turn.follower ∷ []) g h → (k : ℕ) → k < s.slots → home s k ≡ true → s.name k ≡ g → (m : ℕ) × (m < s.slots) × (s.name m ≡ h) × (low s m ≡ low s k)
  walked stay k h e q = (k, h, q, refl)
  walked (walk (inl p) r) k h e q =
      let w = walked r (s.follower k) (told.inside k h e) (turned.kept k h e) (told.leads k h e ∙ ap l.turn.follower q ∙ sym p) in
      (w.0, w.1, w.2, w.3 ∙ low_same s turned k h e 1)
  walked (walk (inr p) r) k h e q = absurd p

  pub round_low : (k m : ℕ) → k < s.slots → m < s.slots → home s k ≡ true → Reach (l.turn.follower ∷ []) (s.name k) (s.name m) → low s m ≡ low s k
  round_low k m h g e r = let w = walked r k h e refl in ap (low s) (told.once m w.0 g w.1 (sym w.2)) ∙ w.3

  -- each vertex has a round, which its lowest slot opens
  pub opened : (v : ℕ) → v < s.vertices → (k : ℕ) × (k < s.slots) × (home s k ≡ true) × (low s k ≡ k) × (vertex s k ≡ v)
  unfolding rounds vertex
  opened v h =
      let r = counted (opens s) s.slots v (subst (λ c. v < c) (sym told.round) h) in
      let o = and_parts (home s r.0) (eqb (low s r.0) r.0) r.2 in
      let e = eqb-true (low s r.0) r.0 o.1 in
      (r.0, r.1, o.0, e, ap (count_below (opens s)) e ∙ r.3)

  pub point_told : (v k : ℕ) → k < s.slots → home s k ≡ true → vertex s k ≡ v → l.points (s.name k) ≡ Some (s.point v)
  point_told v k h e q = told.starts k h e ∙ ap (λ w. Some (s.point w)) q

  -- the point of a vertex is on the sheet and in the strip
  pub vertex_lies : (v : ℕ) → v < s.vertices → (on_sheet (s.point v) ≡ true) × (strip_of bs (s.point v).x ≡ i)
  vertex_lies v h =
      let r = opened v h in
      let p = point_told v r.0 r.1 r.2 r.4 in (
        subst (λ o. told_on_sheet o ≡ true) p (sound.1.somewhere (s.name r.0) (name_held r.0 r.1)),
        subst (λ o. strip_of bs (x_of o) ≡ i) p (starts_in r.0 r.1 r.2),
      )
