-- The vertices of a strip, name by name: a name is the first of its vertex where its round is not yet marked. Assumes nothing.
use Rattle.std.proofs.Common.{◌≡◌, ℕ, ◌+◌, ◌<◌, ◌≤◌, Bool, true, false, cond, ◌||◌, T, ◌⊎◌, List, [], ◌∷◌, ◌++◌, map, length, get_or, drop, ℤ, pos, Some, None, Option, sym, refl, ap, ◌∙◌, subst, ap₂, inl, inr, arith}
use Rattle.std.proofs.lemmas.List.{append_assoc, length-append, append-nil, map_push, drop_more, drop_all}
use Rattle.std.proofs.lemmas.Bool.{both_ways, and_parts, and_from, cond-true, cond-false}
use Rattle.flat.specs.Orbits.{Reach, stay, walk, filter}
use Rattle.flat.specs.Whole.{equal}
use Rattle.flat.proofs.Basics.{T_true, T_same, or_left, or_right, or_cases, not_T_false}
use Rattle.flat.proofs.Whole.{equal_is}
use Rattle.turning.specs.Turn.{Lawful}
use Rattle.turning.proofs.Listed.{true_T}
use Rattle.turning.proofs.Tests.{round_walk}
use Rattle.chart.specs.declared.point.Point.{Point}
use Rattle.chart.specs.Points.{same_point, told_on_sheet}
use Rattle.chart.specs.Linework.{Linework, Placed}
use Rattle.search.specs.Marks.{marked, Clean, Spreads}
use Rattle.search.proofs.Marking.{unmarked_clean}
use Rattle.writing.specs.Written.{names_in, starts_in, start_of, starts_at, new_points, points_in}

same_refl : (p : Point) → T (same_point p p)
same_refl p = true_T _ (and_from _ _ (T_true _ ((equal_is p.x p.x).1 refl)) (T_true _ ((equal_is p.y p.y).1 refl)))

same_eq : (p q : Point) → T (same_point p q) → p ≡ q
same_eq p q t =
    let both = and_parts (equal p.x q.x) (equal p.y q.y) (T_true _ t) in
    ap₂ (λ x y. record { x = x; y = y }) ((equal_is p.x q.x).0 (true_T _ both.0)) ((equal_is p.y q.y).0 (true_T _ both.1))

-- of the names below place k, the first of each vertex is in the list, and their rounds are marked
pub record Firsts (n : ℕ) (l : Linework) (bs : List ℤ) (i : ℕ) (names : List ℤ) (k : ℕ) (marks : List ℕ) (firsts : List ℤ) : Type 0 where
  pub before : List ℤ
  pub started : map (start_of l) firsts ++ new_points l before (filter (starts_in bs l i) (drop k names)) ≡ new_points l [] (filter (starts_in bs l i) names)
  pub marks_tell : (z : ℤ) → l.turn.held z ≡ true → marked n marks z ≡ starts_at l before (start_of l z)
  pub few : length firsts ≤ k

module _ (n : ℕ) (l : Linework) (law : Lawful n l.turn) (placed : Placed n l.turn l.points) where
  -- a held name starts at a point that is told
  told : (h : ℤ) → l.turn.held h ≡ true → l.points h ≡ Some (start_of l h)
  told h held = go (l.points h) refl
    where
      go : (o : Option Point) → l.points h ≡ o → l.points h ≡ Some (start_of l h)
      go None e = absurd (both_ways _ (ap told_on_sheet e) (placed.somewhere h held))
      go (Some p) e = e ∙ ap Some (sym (ap (λ o. start_of (record { turn = l.turn; points = λ _. o }) h) e))

  along_round : {h k : ℤ} → l.turn.held h ≡ true → Reach (l.turn.follower ∷ []) h k → start_of l h ≡ start_of l k
  along_round held stay = refl
  along_round held (walk {x = x} {y = y} (inl e) p) =
      let y_held : l.turn.held y ≡ true = ap l.turn.held e ∙ law.ahead x held in
      let point : start_of l x ≡ start_of l y = ap (λ o. start_of (record { turn = l.turn; points = λ _. o }) x) (sym (placed.alike x held) ∙ ap l.points (sym e)) in
      point ∙ along_round y_held p
  along_round held (walk (inr e) p) = absurd e

  -- two held names start at one point just where they share a round
  round_start : (h z : ℤ) → l.turn.held h ≡ true → l.turn.held z ≡ true → Reach (l.turn.follower ∷ []) h z → T (same_point (start_of l h) (start_of l z))
  round_start h z held other p = subst (λ q. T (same_point (start_of l h) q)) (along_round held p) (same_refl (start_of l h))

  start_round : (h z : ℤ) → l.turn.held h ≡ true → l.turn.held z ≡ true → T (same_point (start_of l h) (start_of l z)) → Reach (l.turn.follower ∷ []) h z
  start_round h z held other t =
      let e : l.points h ≡ l.points z = told h held ∙ ap Some (same_eq _ _ t) ∙ sym (told z other) in
      (round_walk n l.turn law h z held).0 (true_T _ (placed.together h z held other e))

  module _ (bs : List ℤ) (i : ℕ) (names : List ℤ) where
    pub firsts_none : (marks : List ℕ) → Clean marks → Firsts n l bs i names 0 marks []
    firsts_none marks clean = record { before = []; started = refl; marks_tell = λ z held. not_T_false _ (unmarked_clean n marks z clean); few = omega arith }

    module _ (k : ℕ) (marks : List ℕ) (firsts : List ℤ) (below : k < length names) (f : Firsts n l bs i names k marks firsts) where
      h : ℤ
      h = get_or names k (pos 0)

      rest : List ℤ
      rest = filter (starts_in bs l i) (drop (k + 1) names)

      split : (b : Bool) → starts_in bs l i h ≡ b → filter (starts_in bs l i) (drop k names) ≡ cond b (h ∷ rest) rest
      unfolding h rest
      split b e = ap (filter (starts_in bs l i)) (drop_more names k (pos 0) below) ∙ ap (λ c. cond c (h ∷ rest) rest) e

      -- the name starts in another strip
      pub firsts_past : starts_in bs l i (get_or names k (pos 0)) ≡ false → Firsts n l bs i names (k + 1) marks firsts
      unfolding h rest
      firsts_past e =
          let few : length firsts ≤ k = f.few in
          record {
            before = f.before;
            started = ap (λ zs. map (start_of l) firsts ++ new_points l f.before zs) (sym (split false e)) ∙ f.started;
            marks_tell = f.marks_tell;
            few = omega arith;
          }

      -- the vertex of the name is known
      pub firsts_old : l.turn.held (get_or names k (pos 0)) ≡ true → starts_in bs l i (get_or names k (pos 0)) ≡ true → marked n marks (get_or names k (pos 0)) ≡ true → Firsts n l bs i names (k + 1) marks firsts
      unfolding h rest
      firsts_old held e old =
          let few : length firsts ≤ k = f.few in
          let known : starts_at l f.before (start_of l h) ≡ true = sym (f.marks_tell h held) ∙ old in
          record {
            before = f.before;
            started =
                ap (λ zs. map (start_of l) firsts ++ zs)
                (sym (ap (new_points l f.before) (split true e) ∙ cond-true (starts_at l f.before (start_of l h)) _ _ known))
                ∙ f.started;
            marks_tell = f.marks_tell;
            few = omega arith;
          }

      -- the name is the first of its vertex: it is put into the list, and its round is marked
      pub firsts_new : l.turn.held (get_or names k (pos 0)) ≡ true → starts_in bs l i (get_or names k (pos 0)) ≡ true → marked n marks (get_or names k (pos 0)) ≡ false
          → (marks' : List ℕ) → Spreads n l.turn (l.turn.follower ∷ []) (get_or names k (pos 0)) marks marks' → Firsts n l bs i names (k + 1) marks' (firsts ++ (get_or names k (pos 0) ∷ []))
      unfolding h rest
      firsts_new held e new marks' spread =
          let few : length firsts ≤ k = f.few in
          let long = length-append firsts (h ∷ []) in
          let unknown : starts_at l f.before (start_of l h) ≡ false = sym (f.marks_tell h held) ∙ new in
          let later : new_points l f.before (filter (starts_in bs l i) (drop k names)) ≡ start_of l h ∷ new_points l (h ∷ f.before) rest =
          ap (new_points l f.before) (split true e) ∙ cond-false (starts_at l f.before (start_of l h)) _ _ unknown in
          record {
            before = h ∷ f.before;
            started =
                ap (λ zs. zs ++ new_points l (h ∷ f.before) rest) (map_push (start_of l) firsts h)
                ∙ append_assoc (map (start_of l) firsts) (start_of l h ∷ []) (new_points l (h ∷ f.before) rest)
                ∙ ap (λ zs. map (start_of l) firsts ++ zs) (sym later)
                ∙ f.started;
            marks_tell = λ z other. T_same _ _ (to z other) (from z other);
            few = omega arith;
          }
        where
          to : (z : ℤ) → l.turn.held z ≡ true → T (marked n marks' z) → T (same_point (start_of l h) (start_of l z) || starts_at l f.before (start_of l z))
          to z other t = go ((spread z other).0 t)
            where
              go : T (marked n marks z) ⊎ Reach (l.turn.follower ∷ []) h z → T (same_point (start_of l h) (start_of l z) || starts_at l f.before (start_of l z))
              go (inl p) = or_right (same_point (start_of l h) (start_of l z)) _ (subst T (f.marks_tell z other) p)
              go (inr p) = or_left _ (starts_at l f.before (start_of l z)) (round_start h z held other p)

          from : (z : ℤ) → l.turn.held z ≡ true → T (same_point (start_of l h) (start_of l z) || starts_at l f.before (start_of l z)) → T (marked n marks' z)
          from z other t = go (or_cases (same_point (start_of l h) (start_of l z)) (starts_at l f.before (start_of l z)) t)
            where
              go : T (same_point (start_of l h) (start_of l z)) ⊎ T (starts_at l f.before (start_of l z)) → T (marked n marks' z)
              go (inl p) = (spread z other).1 (inr (start_round h z held other p))
              go (inr p) = (spread z other).1 (inl (subst T (sym (f.marks_tell z other)) p))

    pub firsts_all : (k : ℕ) (marks : List ℕ) (firsts : List ℤ) → length names ≤ k → Firsts n l bs i names k marks firsts → names ≡ names_in n bs l i
        → map (start_of l) firsts ≡ points_in n bs l i
    unfolding points_in
    firsts_all k marks firsts past f is =
        sym (append-nil (map (start_of l) firsts))
        ∙ ap (λ zs. map (start_of l) firsts ++ new_points l f.before (filter (starts_in bs l i) zs)) (sym (drop_all k names past))
        ∙ f.started ∙ ap (λ zs. new_points l [] (filter (starts_in bs l i) zs)) is
