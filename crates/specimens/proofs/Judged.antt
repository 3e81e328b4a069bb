-- The files of the examples: their verdicts, and what is counted over the line work that they tell.
-- Assumes nothing.
use Rattle.std.proofs.Common.{◌≡◌, ℕ, ◌+◌, ◌*◌, ◌≤◌, Bool, true, false, cond, eqb, List, [], ◌∷◌, Some, None, refl, ◌∙◌, ap₂, arith}
use Rattle.flat.specs.Orbits.{orbits, classes, linked, closure}
use Rattle.turning.specs.Limits.{max_edge}
use Rattle.turning.specs.Counts.{names, holding, rounds, edges, pieces}
use Rattle.questions.specs.Counting.{counted}
use Rattle.file.specs.declared.fault.Fault.{Fault}
use Rattle.file.specs.declared.fault.Layer.TheVariants.{Flat}
use Rattle.file.specs.Places.{at, once, first_of}
use Rattle.file.specs.Bytes.{i16_at, i32_at}
use Rattle.file.specs.Strips as of
use Rattle.file.specs.Lines.{home_slot, lines_of}
use Rattle.file.specs.Verdict.{file_verdict, strips_verdict, strip_verdict, seam_verdict, q13, q14, q15, q16, shape_verdict, told_lines, verdict}
use Rattle.specimens.specs.Files.{one_edge, half_edge}
use Rattle.specimens.specs.Drawn.{so_many, Numbers}
use Rattle.specimens.specs.Files.{twisted, theta}
use Rattle.specimens.specs.Examples.{EdgeAccepted, HalfRefused, TwistedRefused, ThetaAccepted}
use Rattle.specimens.proofs.Bounds.{misnamed, told_bounded}
use Rattle.specimens.proofs.Counting.{counted_at, flat_from, flat_to, flat_says}

-- ---- any file
-- its questions 1 to 16 are answered yes, its names are of the edges 1 to m, and there are so many vertices, edges, loops and pieces
pub record Computed (b : List ℕ) (m v e l p : ℕ) : Type 0 where
  shape : shape_verdict b ≡ None
  named : misnamed m b ≡ None
  few : m ≤ max_edge
  counts : counted m (told_lines b).turn ≡ so_many v e l p

-- the fault of a file that is not flat
abbrev not_flat : Fault
not_flat = record { layer = Flat; number = 17; strip = 0; place = 0 }

module _ (b : List ℕ) (m v e l p : ℕ) (c : Computed b m v e l p) where
  numbered : Numbers (told_lines b).turn v e l p
  numbered = counted_at m (told_lines b).turn v e l p (told_bounded m b c.named) c.few c.counts

  -- flat decides
  judged : verdict b ≡ cond (eqb (v + l) (e + 2 * p)) None (Some not_flat)
  unfolding verdict
  judged = ap₂ (λ o r. first_of (o ∷ (at (λ _. not_flat) (once r) ∷ []))) c.shape (flat_says (told_lines b).turn v e l p numbered) ∙ last (eqb (v + l) (e + 2 * p))
    where
      last : (r : Bool) → first_of (at (λ _. not_flat) (once r) ∷ []) ≡ cond r None (Some not_flat)
      last true = refl
      last false = refl

-- ---- one edge
edge_computed : Computed one_edge 1 2 1 1 1
unfolding one_edge shape_verdict file_verdict strips_verdict strip_verdict seam_verdict q13 q14 q15 q16 of.rounds of.vertex of.low i16_at i32_at home_slot lines_of names holding rounds edges pieces orbits classes linked closure
edge_computed = record { shape = refl; named = refl; few = omega arith; counts = refl }

pub edge_accepted : EdgeAccepted
unfolding one_edge of.rounds of.vertex of.low i16_at i32_at home_slot lines_of
edge_accepted = (judged one_edge 1 2 1 1 1 edge_computed, refl, numbered one_edge 1 2 1 1 1 edge_computed, refl, refl)

pub half_refused : HalfRefused
unfolding verdict half_edge shape_verdict file_verdict strips_verdict strip_verdict seam_verdict q13 q14 q15 q16 of.rounds of.vertex of.low i16_at i32_at
half_refused = refl

-- ---- three edges between two vertices
twisted_computed : Computed twisted 3 2 3 1 1
unfolding twisted shape_verdict file_verdict strips_verdict strip_verdict seam_verdict q13 q14 q15 q16 of.rounds of.vertex of.low i16_at i32_at home_slot lines_of names holding rounds edges pieces orbits classes linked closure
twisted_computed = record { shape = refl; named = refl; few = omega arith; counts = refl }

pub twisted_refused : TwistedRefused
unfolding twisted i16_at home_slot lines_of
twisted_refused = (
  (refl, (refl, refl)),
  (refl, (refl, refl)),
  numbered twisted 3 2 3 1 1 twisted_computed,
  λ f. let e = flat_to (told_lines twisted).turn 2 3 1 1 (numbered twisted 3 2 3 1 1 twisted_computed) f in omega arith,
  judged twisted 3 2 3 1 1 twisted_computed,
)

theta_computed : Computed theta 3 2 3 3 1
unfolding theta shape_verdict file_verdict strips_verdict strip_verdict seam_verdict q13 q14 q15 q16 of.rounds of.vertex of.low i16_at i32_at home_slot lines_of names holding rounds edges pieces orbits classes linked closure
theta_computed = record { shape = refl; named = refl; few = omega arith; counts = refl }

pub theta_accepted : ThetaAccepted
unfolding theta i16_at home_slot lines_of
theta_accepted = (
  (refl, (refl, refl)),
  (refl, (refl, refl)),
  numbered theta 3 2 3 3 1 theta_computed,
  flat_from (told_lines theta).turn 2 3 3 1 (numbered theta 3 2 3 3 1 theta_computed) refl,
  judged theta 3 2 3 3 1 theta_computed,
)
