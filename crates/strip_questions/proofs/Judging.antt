-- The verdict on a strip as it was lent. Assumes nothing.
use Rattle.std.proofs.Common.{◌≡◌, ℕ, ◌+◌, List, ℤ, Option, sym, ap, ◌∙◌}
use Rattle.file.specs.Strips.{Strip}
use Rattle.file.specs.Layout.{strip, western, eastern}
use Rattle.file.specs.Verdict.{strip_verdict}

-- the verdict on strip j of a file, asked of its borders and arrays as they were lent
pub of_strip : (b : List ℕ) (j : ℕ) (w e : Option ℤ) (s : Strip) → w ≡ western b j → e ≡ eastern b j → s ≡ strip b j
    → strip_verdict (western b j) (eastern b j) (strip b j) (j + 1) ≡ strip_verdict w e s (j + 1)
of_strip b j w e s p q r = sym (ap (λ x. strip_verdict x e s (j + 1)) p ∙ ap (λ x. strip_verdict (western b j) x s (j + 1)) q ∙ ap (λ x. strip_verdict (western b j) (eastern b j) x (j + 1)) r)
