-- Bytes that are written word by word. Assumes nothing.
use Rattle.std.specs.Prelude.{◌≡◌, ℕ, List, [], ◌∷◌, ◌++◌}

-- the bytes are a word of each item, one after the other; R tells which words an item may have
abbrev pub WritesEach : {A : Type 0} → (A → List ℕ → Type 0) → List A → List ℕ → Type 0
WritesEach R [] bytes = bytes ≡ []
WritesEach R (x ∷ xs) bytes = (word : List ℕ) × ((rest : List ℕ) × (R x word × ((bytes ≡ word ++ rest) × WritesEach R xs rest)))
