-- Where no strip has a fault, what holds of each. Assumes nothing.
use Rattle.std.proofs.Common.{◌≡◌, ℕ, ◌+◌, ◌<◌, Bool, true, false, List, [], ◌∷◌, ℤ, None, Option, sym, refl, ◌∙◌, arith}
use Rattle.std.proofs.lemmas.Bool.{eqb-true}
use Rattle.turning.specs.Limits.{max_edge}
use Rattle.file.specs.declared.questions.StripQuestion.TheVariants.{Names, Pairs, Followers, Followed, Rounds, Points, NewPoints}
use Rattle.file.specs.Places.{once, at}
use Rattle.file.specs.Layout.{strips, strip, western, eastern}
use Rattle.file.specs.Strips.{Strip, rounds}
use Rattle.file.specs.Questions.{name_good, paired, follower_good, followed_right, point_good, point_new}
use Rattle.file.specs.Judged.{Judged}
use Rattle.file.specs.Verdict.{q6, q7, q8, q9, q10, q11, q12, strip_fault, strip_verdict, strips_verdict}
use Rattle.file.proofs.Places.{both_none, each_good, none_below, last_one}
use Rattle.file.proofs.Walking.{turned}

once_true : {F : Type 0} (f : ℕ → F) (b : Bool) → at f (once b) ≡ None → b ≡ true
once_true f true e = refl
once_true f false e = let y : ◌≡◌ {A = ℕ} 0 1 = cc in absurd (omega arith)

abbrev AllNone : Option ℤ → Option ℤ → Strip → ℕ → Type 0
AllNone w e s j = (q6 s j ≡ None) × ((q7 s j ≡ None) × ((q8 s j ≡ None) × ((q9 s j ≡ None) × ((q10 s j ≡ None) × ((q11 w e s j ≡ None) × (q12 s j ≡ None))))))

module _ (w e : Option ℤ) (s : Strip) (j : ℕ) (v : strip_verdict w e s j ≡ None) where
  seven_none : AllNone w e s j
  unfolding strip_verdict
  seven_none =
      let a = both_none (q6 s j) (q7 s j ∷ q8 s j ∷ q9 s j ∷ q10 s j ∷ q11 w e s j ∷ q12 s j ∷ []) v in
      let b = both_none (q7 s j) (q8 s j ∷ q9 s j ∷ q10 s j ∷ q11 w e s j ∷ q12 s j ∷ []) a.1 in
      let c = both_none (q8 s j) (q9 s j ∷ q10 s j ∷ q11 w e s j ∷ q12 s j ∷ []) b.1 in
      let d = both_none (q9 s j) (q10 s j ∷ q11 w e s j ∷ q12 s j ∷ []) c.1 in
      let f = both_none (q10 s j) (q11 w e s j ∷ q12 s j ∷ []) d.1 in
      let g = both_none (q11 w e s j) (q12 s j ∷ []) f.1 in
      (a.0, (b.0, (c.0, (d.0, (f.0, (g.0, sym (last_one (q12 s j)) ∙ g.1))))))

pub judged : (b : List ℕ) (n : ℕ) → n ≡ strips b → strips_verdict b ≡ None → Judged b n
unfolding strips_verdict
judged b n c v = record {
  named = λ j h. each_good (strip_fault Names (j + 1)) (strip b j).slots (name_good max_edge (strip b j)) (at_strip j h).0;
  pairs = λ j h. each_good (strip_fault Pairs (j + 1)) (strip b j).slots (paired (strip b j)) (at_strip j h).1.0;
  turned = λ j h. turned (strip b j)
      (each_good (strip_fault Followers (j + 1)) (strip b j).slots (follower_good (strip b j)) (at_strip j h).1.1.0)
      (each_good (strip_fault Followed (j + 1)) (strip b j).slots (followed_right (strip b j)) (at_strip j h).1.1.1.0);
  round = λ j h. eqb-true (rounds (strip b j)) (strip b j).vertices (once_true (λ _. strip_fault Rounds (j + 1) 0) _ (at_strip j h).1.1.1.1.0);
  placed = λ j h. each_good (strip_fault Points (j + 1)) (strip b j).vertices (point_good (western b j) (eastern b j) (strip b j)) (at_strip j h).1.1.1.1.1.0;
  parted = λ j h. each_good (strip_fault NewPoints (j + 1)) (strip b j).vertices (point_new (strip b j)) (at_strip j h).1.1.1.1.1.1;
}
  where
    at_strip : (j : ℕ) → j < n → AllNone (western b j) (eastern b j) (strip b j) (j + 1)
    at_strip j h = seven_none (western b j) (eastern b j) (strip b j) (j + 1)
        (none_below (λ k. strip_verdict (western b k) (eastern b k) (strip b k) (k + 1)) 0 (strips b) v j (omega arith) (omega arith))
