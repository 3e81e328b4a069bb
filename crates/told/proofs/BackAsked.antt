-- The questions of one strip, asked of a strip that tells a strip of sound line work: all are answered yes. Assumes nothing.
use Rattle.std.proofs.Common.{◌≡◌, ℕ, zero, suc, ◌<◌, ◌≤◌, Bool, true, false, not, ◌&&◌, eqb, ltb, ◌⊎◌, List, [], ◌∷◌, ℤ, pos, negsuc, neg_ℤ, Some, None, Option, sym, refl, ap, ◌∙◌, subst, inl, inr, arith}
use Rattle.std.proofs.lemmas.Bool.{cases_Bool, both_ways, and_parts, and_from, or_left, or_right, not-true, not-false, not_from_false, eqb-true, eq-eqb, lt-ltb}
use Rattle.std.proofs.lemmas.Bool.Decides.{nat_tests}
use Rattle.flat.specs.Orbits.{indicator}
use Rattle.flat.specs.Whole.{equal}
use Rattle.flat.proofs.Basics.{true_T}
use Rattle.turning.specs.Limits.{max_edge}
use Rattle.turning.specs.Counts.{same_round}
use Rattle.turning.proofs.Listed.{Named, held_named}
use Rattle.turning.proofs.Tests.{round_walk}
use Rattle.chart.specs.Points.{same_point, told_west, west}
use Rattle.chart.specs.Linework.{Linework}
use Rattle.laws.specs.Keeps.{Sound}
use Rattle.file.specs.declared.questions.StripQuestion.TheVariants.{Names, Pairs, Followers, Followed, Rounds, Points, NewPoints}
use Rattle.file.specs.Places.{at, first_bad, any_below}
use Rattle.file.specs.Strips.{none, Strip, home, names, followed, vertex, rounds, start}
use Rattle.file.specs.Questions.{named, name_good, paired, follower_good, followed_right, point_good, point_new, positive, wrong_way, west_first}
use Rattle.file.specs.Verdict.{strip_fault, q6, q7, q8, q9, q10, q11, q12, strip_verdict}
use Rattle.file.proofs.Places.{none_any, any_where, first_bad_none, once_right, skip}
use Rattle.told.specs.Tells.{TellsStrip}
use Rattle.told.proofs.BackPlaces.{equal_true, point_true, refuted, count_none, count_once}
use Rattle.told.proofs.BackSpans.{runs_opposite}
use Rattle.told.proofs.BackStrip.{name_runs, name_held, turned, leads_home, before, before_one, round_low, opened, point_told}

named_good : (n : ℕ) (z : ℤ) → Named n z → named n z ≡ true
named_good n (pos k) p = grind (arith, nat_tests)
named_good zero (negsuc k) p = absurd (omega arith)
named_good (suc n) (negsuc k) p = grind (arith, nat_tests)

module _ (n : ℕ) (bs : List ℤ) (l : Linework) (sound : Sound n l) (i : ℕ) (s : Strip) (few : s.slots ≤ none) (told : TellsStrip bs l i s) where
  names_good : (k : ℕ) → k < s.slots → name_good n s k ≡ true
  names_good k h = named_good n (s.name k) (held_named n l.turn sound.0 (s.name k) (name_held n bs l sound i s few told k h))

  all_paired : (k : ℕ) → k < s.slots → paired s k ≡ true
  all_paired k h =
      and_from (not (names s k (s.name k))) (names s s.slots (neg_ℤ (s.name k)))
      (not_from_false _ (none_any (λ m. equal (s.name m) (s.name k)) k (λ m g. refuted (equal (s.name m) (s.name k)) (λ e. let q = told.once m k (omega arith) h (equal_true (s.name m) (s.name k) e) in omega arith))))
      (told.held (neg_ℤ (s.name k)) ∙ runs_opposite n bs l sound i (s.name k) (name_runs n bs l sound i s few told k h))

  followers_good : (k : ℕ) → k < s.slots → follower_good s k ≡ true
  followers_good k h = go (cases_Bool (home s k))
    where
      go : (home s k ≡ true) ⊎ (home s k ≡ false) → follower_good s k ≡ true
      go (inl e) = or_left (ltb (s.follower k) s.slots) (eqb (s.follower k) none) (lt-ltb (s.follower k) s.slots (told.inside k h e))
      go (inr e) = or_right (ltb (s.follower k) s.slots) (eqb (s.follower k) none) (not-false (eqb (s.follower k) none) e)

  all_followed : (k : ℕ) → k < s.slots → followed_right s k ≡ true
  all_followed k h = go (cases_Bool (home s k))
    where
      go : (home s k ≡ true) ⊎ (home s k ≡ false) → followed_right s k ≡ true
      go (inl e) =
          let r = before n bs l sound i s few told k h e in
          let one : followed s k ≡ 1 = count_once (λ m. eqb (s.follower m) k) r.0 s.slots r.1 (eq-eqb (s.follower r.0) k r.2)
          (λ m g q. before_one n bs l sound i s few told k m r.0 h g r.1 (eqb-true (s.follower m) k q) r.2) in
          eq-eqb (followed s k) (indicator (home s k)) (one ∙ sym (ap indicator e))
      go (inr e) =
          let t = turned n bs l sound i s few told in
          let no : followed s k ≡ 0 = count_none (λ m. eqb (s.follower m) k) s.slots
          (λ m g. refuted (eqb (s.follower m) k)
          (λ q. let p = eqb-true (s.follower m) k q in
          both_ways (home s k) e (subst (λ x. home s x ≡ true) p (t.kept m g (leads_home n bs l sound i s few told m k h p))))) in
          eq-eqb (followed s k) (indicator (home s k)) (no ∙ sym (ap indicator e))

  -- two vertices with one point would have one round
  clash : (m v : ℕ) → m < v → v < s.vertices → same_point (s.point m) (s.point v) ≡ true → ⊥
  clash m v g h e =
      let a = opened n bs l sound i s few told m (omega arith) in
      let c = opened n bs l sound i s few told v h in
      let held = name_held n bs l sound i s few told a.0 a.1 in
      let points : l.points (s.name a.0) ≡ l.points (s.name c.0) =
      point_told n bs l sound i s few told m a.0 a.1 a.2 a.4 ∙ ap Some (point_true (s.point m) (s.point v) e)
      ∙ sym (point_told n bs l sound i s few told v c.0 c.1 c.2 c.4) in
      let test = sound.1.together (s.name a.0) (s.name c.0) held (name_held n bs l sound i s few told c.0 c.1) points in
      let reach = (round_walk n l.turn sound.0 (s.name a.0) (s.name c.0) held).0 (true_T (same_round n l.turn (s.name a.0) (s.name c.0)) test) in
      let slot : c.0 ≡ a.0 = sym c.3 ∙ round_low n bs l sound i s few told a.0 c.0 a.1 c.1 a.2 reach ∙ a.3 in
      let same : v ≡ m = sym c.4 ∙ ap (vertex s) slot ∙ a.4 in
      omega arith

  points_new : (v : ℕ) → v < s.vertices → point_new s v ≡ true
  points_new v h = not_from_false _ (none_any (λ m. same_point (s.point m) (s.point v)) v (λ m g. refuted (same_point (s.point m) (s.point v)) (clash m v g h)))

  -- ---- question 16
  west_told : (z : ℤ) → positive z ≡ true → l.turn.held z ≡ true → told_west (l.points z) (l.points (neg_ℤ z)) ≡ true
  west_told (pos e) p held = sound.1.westward e held
  west_told (negsuc e) p held = absurd (both_ways false refl p)

  wrong : (k m : ℕ) → k < s.slots → m < s.slots → home s k ≡ true → positive (s.name k) ≡ true → wrong_way s k m ≡ true → ⊥
  wrong k m h g e p w =
      let a = and_parts (home s m && equal (s.name m) (neg_ℤ (s.name k))) (not (west (start s k) (start s m))) w in
      let c = and_parts (home s m) (equal (s.name m) (neg_ℤ (s.name k))) a.0 in
      let here : l.points (s.name k) ≡ Some (start s k) = told.starts k h e in
      let there : l.points (neg_ℤ (s.name k)) ≡ Some (start s m) = ap l.points (sym (equal_true (s.name m) (neg_ℤ (s.name k)) c.1)) ∙ told.starts m g c.0 in
      let way : west (start s k) (start s m) ≡ true = subst (λ o. told_west (Some (start s k)) o ≡ true) there
      (subst (λ o. told_west o (l.points (neg_ℤ (s.name k))) ≡ true) here (west_told (s.name k) p (name_held n bs l sound i s few told k h))) in
      both_ways _ (not-true _ a.1) way

  pub all_west_first : (k : ℕ) → k < s.slots → west_first s k ≡ true
  all_west_first k h = not_from_false _ (refuted ((home s k && positive (s.name k)) && any_below (wrong_way s k) s.slots) go)
    where
      go : ((home s k && positive (s.name k)) && any_below (wrong_way s k) s.slots) ≡ true → ⊥
      go e =
          let a = and_parts (home s k && positive (s.name k)) (any_below (wrong_way s k) s.slots) e in
          let c = and_parts (home s k) (positive (s.name k)) a.0 in
          let r = any_where (wrong_way s k) s.slots a.1 in
          wrong k r.0 h r.1 c.0 c.1 r.2

-- a question that is answered yes at every place
pub all_good : {F : Type 0} (f : ℕ → F) (n : ℕ) (good : ℕ → Bool) → ((k : ℕ) → k < n → good k ≡ true) → at f (first_bad good 0 n) ≡ None
all_good f n good all = ap (at f) (first_bad_none good n all)

-- questions 6 to 12, the points being in their strip
pub strip_passes : (bs : List ℤ) (l : Linework) → Sound max_edge l → (i : ℕ) (s : Strip) → s.slots ≤ none → TellsStrip bs l i s
    → (w e : Option ℤ) → ((v : ℕ) → v < s.vertices → point_good w e s v ≡ true) → (j : ℕ) → strip_verdict w e s j ≡ None
unfolding strip_verdict
strip_passes bs l sound i s few told w e lies j =
    skip (q6 s j) (q7 s j ∷ q8 s j ∷ q9 s j ∷ q10 s j ∷ q11 w e s j ∷ q12 s j ∷ []) (all_good (strip_fault Names j) s.slots (name_good max_edge s) (names_good max_edge bs l sound i s few told))
    ∙ skip (q7 s j) (q8 s j ∷ q9 s j ∷ q10 s j ∷ q11 w e s j ∷ q12 s j ∷ []) (all_good (strip_fault Pairs j) s.slots (paired s) (all_paired max_edge bs l sound i s few told))
    ∙ skip (q8 s j) (q9 s j ∷ q10 s j ∷ q11 w e s j ∷ q12 s j ∷ []) (all_good (strip_fault Followers j) s.slots (follower_good s) (followers_good max_edge bs l sound i s few told))
    ∙ skip (q9 s j) (q10 s j ∷ q11 w e s j ∷ q12 s j ∷ []) (all_good (strip_fault Followed j) s.slots (followed_right s) (all_followed max_edge bs l sound i s few told))
    ∙ skip (q10 s j) (q11 w e s j ∷ q12 s j ∷ []) (once_right (λ _. strip_fault Rounds j 0) (eqb (rounds s) s.vertices) (eq-eqb (rounds s) s.vertices told.round))
    ∙ skip (q11 w e s j) (q12 s j ∷ []) (all_good (strip_fault Points j) s.vertices (point_good w e s) lies)
    ∙ skip (q12 s j) [] (all_good (strip_fault NewPoints j) s.vertices (point_new s) (points_new max_edge bs l sound i s few told))
