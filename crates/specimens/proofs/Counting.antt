-- What counts at a small limit say at the real one.
-- Assumes nothing.
use Rattle.std.proofs.Common.{◌≡◌, ℕ, ◌+◌, ◌*◌, ◌≤◌, eqb, sym, ap, ◌∙◌, subst}
use Rattle.turning.specs.Limits.{max_edge}
use Rattle.turning.specs.Turn.{Turn}
use Rattle.turning.specs.Counts.{Flat}
use Rattle.questions.specs.declared.Counts.{Counts}
use Rattle.questions.specs.Counting.{counted}
use Rattle.file.specs.Lines.{flat}
use Rattle.specimens.specs.Drawn.{so_many, Numbers}
use Rattle.specimens.proofs.Limits.{Bounded, counted_limit}

pub counted_at : (m : ℕ) (t : Turn) (v e l p : ℕ) → Bounded m t → m ≤ max_edge → counted m t ≡ so_many v e l p → Numbers t v e l p
counted_at m t v e l p few le c = counted_limit m max_edge t few le ∙ c

-- flat, by the counts
abbrev FlatBy : Counts → Type 0
FlatBy c = c.vertices + c.loops ≡ c.edges + 2 * c.pieces

module _ (t : Turn) (v e l p : ℕ) (c : Numbers t v e l p) where
  pub flat_from : v + l ≡ e + 2 * p → Flat max_edge t
  flat_from = subst FlatBy (sym c)

  pub flat_to : Flat max_edge t → v + l ≡ e + 2 * p
  flat_to = subst FlatBy c

  pub flat_says : flat max_edge t ≡ eqb (v + l) (e + 2 * p)
  unfolding flat
  flat_says = ap (λ k. eqb (k.vertices + k.loops) (k.edges + 2 * k.pieces)) c
