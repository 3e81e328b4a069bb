-- Bytes that are written word by word: one word more, and what they are where the words are known. Assumes nothing.
use Rattle.std.proofs.Common.{◌≡◌, ℕ, suc, ◌<◌, List, [], ◌∷◌, ◌++◌, length, get_or, sym, refl, ap, ◌∙◌, ap₂, arith}
use Rattle.std.specs.List.{flat_map}
use Rattle.std.proofs.lemmas.List.{append_assoc, append-nil}
use Rattle.writing.specs.Words.{WritesEach}

module _ {A : Type 0} (R : A → List ℕ → Type 0) where
  -- one item more
  pub each_more : (xs : List A) (x : A) (bytes word : List ℕ) → WritesEach R xs bytes → R x word → WritesEach R (xs ++ x ∷ []) (bytes ++ word)
  each_more [] x bytes word e r = (word, ([], (r, (ap (λ b. b ++ word) e ∙ sym (append-nil word), refl))))
  each_more (y ∷ ys) x bytes word (w, (rest, (own, (e, others)))) r =
      (w, (rest ++ word, (own, (ap (λ b. b ++ word) e ∙ append_assoc w rest word, each_more ys x rest word others r))))

  -- words that are known
  pub each_is : (f : A → List ℕ) (xs : List A) (bytes : List ℕ)
      → ((k : ℕ) (d : A) → k < length xs → (word : List ℕ) → R (get_or xs k d) word → word ≡ f (get_or xs k d)) → WritesEach R xs bytes → bytes ≡ flat_map f xs
  each_is f [] bytes known e = e
  each_is f (x ∷ xs) bytes known (w, (rest, (own, (e, others)))) =
      e ∙ ap₂ (λ a b. a ++ b) (known 0 x (omega arith) w own) (each_is f xs rest (λ k d lt. known (suc k) d (omega arith)) others)
