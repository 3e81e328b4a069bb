-- Borders put in, taken out and looked for by the library's words. Assumes nothing.
use Rattle.std.proofs.Common.{◌≡◌, ℕ, zero, suc, ◌+◌, Bool, true, false, cond, not, ◌||◌, List, [], ◌∷◌, filter, int_eq, ℤ, sym, refl, ap, ◌∙◌, ap₂, arith}
use lib.Signed.{lt_z, le_z}
use Rattle.std.specs.List.{prefix_len, insert, list_any}
use Rattle.std.proofs.lemmas.Int.{ints}
use Rattle.std.proofs.lemmas.Bool.Decides.{Decides-int_eq}
use Rattle.laws.proofs.Equal.{tell}
use Rattle.flat.specs.Whole.{equal}
use Rattle.strips.specs.Borders.{strip_of}
use Rattle.strips.specs.Seams.{with_border, without_border, is_border}
use Rattle.strips.proofs.Cutting.{strip_none, strip_west, strip_east, strip_low}
use Rattle.strips.proofs.Stitching.{with_none, with_here, with_later}

not_west : (b x : ℤ) → lt_z x b ≡ false → le_z b x ≡ true
not_west b x e = grind (arith, ints)

west_of : (b x : ℤ) → lt_z x b ≡ true → le_z b x ≡ false
west_of b x e = grind (arith, ints)

-- the strip of x is past the borders that are not above it
pub strip_passed : (bs : List ℤ) (x : ℤ) → strip_of bs x ≡ suc (prefix_len (λ b. le_z b x) bs)
strip_passed [] x = strip_none x
strip_passed (b ∷ bs) x = go (lt_z x b) refl (strip_passed bs x)
  where
    go : (t : Bool) → lt_z x b ≡ t → strip_of bs x ≡ suc (prefix_len (λ c. le_z c x) bs) → strip_of (b ∷ bs) x ≡ suc (prefix_len (λ c. le_z c x) (b ∷ bs))
    go true e rec = strip_west b bs x e ∙ sym (ap (λ t. suc (cond t (1 + prefix_len (λ c. le_z c x) bs) 0)) (west_of b x e))
    go false e rec =
        strip_east b bs x e ∙ ap suc (rec ∙ one (prefix_len (λ c. le_z c x) bs)) ∙ sym (ap (λ t. suc (cond t (1 + prefix_len (λ c. le_z c x) bs) 0)) (not_west b x e))
      where
        one : (n : ℕ) → suc n ≡ 1 + n
        one n = omega arith

-- x is put in at the place of its strip
pub with_inserted : (x : ℤ) (bs : List ℤ) (i : ℕ) → suc i ≡ strip_of bs x → with_border x bs ≡ insert bs i x
with_inserted x [] i l = with_none x ∙ ap (λ k. insert [] k x) (let s = strip_none x in let z : 0 ≡ i = omega arith in z)
with_inserted x (b ∷ bs) i l = go (lt_z x b) refl i l (with_inserted x bs)
  where
    go : (t : Bool) → lt_z x b ≡ t → (i : ℕ) → suc i ≡ strip_of (b ∷ bs) x → ((j : ℕ) → suc j ≡ strip_of bs x → with_border x bs ≡ insert bs j x) → with_border x (b ∷ bs) ≡ insert (b ∷ bs) i x
    go true e zero l rec = with_here x b bs e
    go true e (suc j) l rec = absurd (let s = strip_west b bs x e in omega arith)
    go false e zero l rec = absurd (let s = strip_east b bs x e in let t = strip_low bs x in omega arith)
    go false e (suc j) l rec = with_later x b bs e ∙ ap (λ cs. b ∷ cs) (rec j (let s = strip_east b bs x e in omega arith))

pub same_test : (x b : ℤ) → int_eq b x ≡ equal x b
same_test x b = grind (arith, Decides-int_eq b x, tell x b)

-- a border is one that the library's search finds
pub border_found : (x : ℤ) (is : ℤ → Bool) (bs : List ℤ) → ((b : ℤ) → is b ≡ equal x b) → list_any is bs ≡ is_border x bs
unfolding is_border
border_found x is [] same = refl
border_found x is (b ∷ bs) same = ap₂ (λ s t. s || t) (same b) (border_found x is bs same)

-- what is left without x is what passes the library's filter
pub without_filtered : (x : ℤ) (keep : ℤ → Bool) (bs : List ℤ) → ((b : ℤ) → keep b ≡ not (equal x b)) → filter keep bs ≡ without_border x bs
unfolding without_border
without_filtered x keep [] same = refl
without_filtered x keep (b ∷ bs) same = ap₂ (λ t cs. cond t (b ∷ cs) cs) (same b) (without_filtered x keep bs same)
