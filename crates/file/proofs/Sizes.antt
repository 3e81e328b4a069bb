-- What the questions of the whole file tell of its sizes, and the strip that is lent.
-- Assumes nothing.
use Rattle.std.proofs.Common.{◌≡◌, ℕ, ◌+◌, ◌*◌, ◌<◌, ◌≤◌, true, List, [], ◌∷◌, length, None, ap, ◌∙◌, arith}
use Rattle.std.specs.List.{between}
use Rattle.std.proofs.lemmas.Bool.Decides.{nat_tests}
use Rattle.turning.specs.Limits.{slots as max_slots, max_strips}
use Rattle.file.specs.declared.questions.FileQuestion.TheVariants.{SizesFit}
use Rattle.file.specs.Bytes.{u16_at}
use Rattle.file.specs.Places.{first_of, at}
use Rattle.file.specs.Layout.{strips, slots_in, vertices_in, strip_at, strip_length, strip_part, strip}
use Rattle.file.specs.Shapes.{Shaped}
use Rattle.file.specs.Strips.{strip_of}
use Rattle.file.specs.Questions.{size_good}
use Rattle.file.specs.Verdict.{q1, q2, q3, q4, q5, file_verdict, file_fault}
use Rattle.file.proofs.Places.{good_below, place_none}

pub file_none : (b : List ℕ) → q1 b ≡ None → q2 b ≡ None → q3 b ≡ None → q4 b ≡ None → q5 b ≡ None → file_verdict b ≡ None
unfolding file_verdict
file_none b p q r s t =
    ap (λ o. first_of (o ∷ q2 b ∷ q3 b ∷ q4 b ∷ q5 b ∷ [])) p ∙ ap (λ o. first_of (o ∷ q3 b ∷ q4 b ∷ q5 b ∷ [])) q
    ∙ ap (λ o. first_of (o ∷ q4 b ∷ q5 b ∷ [])) r ∙ ap (λ o. first_of (o ∷ q5 b ∷ [])) s ∙ ap (λ o. first_of (o ∷ [])) t

size_at : (b : List ℕ) → q3 b ≡ None → (j : ℕ) → j < strips b → size_good b j ≡ true
size_at b e j h = good_below (size_good b) 0 (strips b) (place_none (λ k. file_fault SizesFit (k + 1) 0) _ e) j (omega arith) (omega arith)

pub shaped : (b : List ℕ) (n : ℕ) → n ≡ strips b → 1 ≤ n → n ≤ max_strips → length b ≡ strip_at b n → q3 b ≡ None → Shaped b n
shaped b n c s f w e = record {
  count = c;
  some = s;
  few = f;
  whole = w;
  small = λ j h. small j (size_at b e j (omega arith));
  fewer = λ j h. fewer j (size_at b e j (omega arith));
}
  where
    small : (j : ℕ) → size_good b j ≡ true → slots_in b j ≤ max_slots
    small j g = grind (arith, nat_tests)

    fewer : (j : ℕ) → size_good b j ≡ true → vertices_in b j ≤ slots_in b j
    fewer j g = grind (arith, nat_tests)

pub strip_is : (b part rb : List ℕ) (at h v h' v' j : ℕ) → part ≡ between at (at + (4 * h + 8 * v)) rb → rb ≡ b → at ≡ strip_at b j → h ≡ slots_in b j → v ≡ vertices_in b j
    → h' ≡ h → v' ≡ v → strip_of part h' v' ≡ strip b j
strip_is b part rb at h v h' v' j p r a s t s' t' =
    let whole : part ≡ strip_part b j =
    p ∙ ap (λ k. between k (k + (4 * h + 8 * v)) rb) a ∙ ap (λ k. between (strip_at b j) (strip_at b j + (4 * k + 8 * v)) rb) s
    ∙ ap (λ k. between (strip_at b j) (strip_at b j + (4 * slots_in b j + 8 * k)) rb) t ∙ ap (between (strip_at b j) (strip_at b j + strip_length b j)) r in
    ap (λ q. strip_of q h' v') whole ∙ ap (λ k. strip_of (strip_part b j) k v') (s' ∙ s) ∙ ap (strip_of (strip_part b j) (slots_in b j)) (t' ∙ t)

-- the sizes of strip j, as the reader gave them
pub read_sizes : (b rb : List ℕ) (at v h j : ℕ) → rb ≡ b → at ≡ 2 + 4 * j → v ≡ u16_at rb at → h ≡ u16_at rb (at + 2) → (v ≡ vertices_in b j) × (h ≡ slots_in b j)
read_sizes b rb at v h j p q r s =
    let e : at + 2 ≡ 4 + 4 * j = omega arith in
    (r ∙ ap (λ x. u16_at x at) p ∙ ap (u16_at b) q, s ∙ ap (λ x. u16_at x (at + 2)) p ∙ ap (u16_at b) e)
