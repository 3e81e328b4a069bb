-- An edge alone, and two edges with a bridge between them.
-- Assumes nothing.
use Rattle.std.proofs.Common.{◌≡◌, ℕ, true, List, [], ◌∷◌, ℤ, pos, neg_ℤ, Err, refl, arith}
use Rattle.flat.specs.Orbits.{orbits, classes, linked, closure}
use Rattle.turning.specs.Limits.{max_edge}
use Rattle.turning.specs.declared.refusal.Refusal.TheVariants.{PointTaken, NotInside}
use Rattle.turning.specs.Refusals.{Outcome, granted}
use Rattle.turning.specs.Counts.{names, holding, rounds, edges, pieces, same_loop, same_piece}
use Rattle.search.specs.Buffers.{enough}
use Rattle.questions.specs.Counting.{counted}
use Rattle.chart.specs.declared.point.Point.{Point}
use Rattle.chart.specs.Linework.{no_lines}
use Rattle.edits.specs.Edits.{starts, splits, removes}
use Rattle.specimens.specs.Drawn.{point, west_end, east_end, edge, bridge_edits, bridged, parted, so_many, Answers}
use Rattle.specimens.specs.Examples.{EdgeIs, EdgesBridged, EdgeSplit}
use Rattle.specimens.proofs.Limits.{Bounded}
use Rattle.specimens.proofs.Counting.{counted_at}
use Rattle.specimens.proofs.Bounds.{none_bounded, made_bounded, drawn_bounded}
use Rattle.specimens.proofs.Asked.{answers, SmallAnswers, InTurn, Grants, granted_all}

-- ---- one edge
pub edge_is : EdgeIs
unfolding edge
edge_is = (refl, refl)

edge_bounded : Bounded 3 edge.turn
unfolding edge
edge_bounded = drawn_bounded 3 (starts 1 west_end east_end ∷ []) no_lines (omega arith, tt) (none_bounded 3)

split : (p : Point) (r : Outcome) → SmallAnswers 3 edge (splits 1 2 p) r → Answers edge (splits 1 2 p) r
split p r = answers 3 edge (splits 1 2 p) r edge_bounded (omega arith) (omega arith) tt

pub edge_split : EdgeSplit
unfolding edge names holding
edge_split = (split (point (neg_ℤ (pos 5)) (pos 1)) granted (λ f. refl), split (point (pos 5) (pos 0)) (Err PointTaken) (λ f. refl), split (point (pos 6) (pos 0)) (Err NotInside) (λ f. refl))

-- ---- two edges
drawn_small : (marks : List ℕ) (line : List ℤ) → enough max_edge marks line ≡ true → InTurn (Grants 3) (bridge_edits marks line) no_lines
unfolding names holding same_loop same_piece linked closure
drawn_small marks line e = ((omega arith, tt, λ f. refl), ((omega arith, tt, λ f. refl), ((omega arith, e, λ f. refl), tt)))

bridged_bounded : Bounded 3 bridged.turn
unfolding bridged
bridged_bounded = drawn_bounded 3 (bridge_edits [] []) no_lines (omega arith, (omega arith, (omega arith, tt))) (none_bounded 3)

bridged_small : counted 3 bridged.turn ≡ so_many 4 3 1 1
unfolding bridged names holding rounds edges pieces orbits classes linked closure
bridged_small = refl

removes_small : SmallAnswers 3 bridged (removes 3) granted
unfolding bridged
removes_small f = refl

parted_bounded : Bounded 3 parted.turn
unfolding parted
parted_bounded = made_bounded 3 (removes 3) bridged tt bridged_bounded

parted_small : counted 3 parted.turn ≡ so_many 4 2 2 2
unfolding parted bridged names holding rounds edges pieces orbits classes linked closure
parted_small = refl

pub edges_bridged : EdgesBridged
edges_bridged = (
  λ marks line e. granted_all 3 (bridge_edits marks line) no_lines (none_bounded 3) (omega arith) (drawn_small marks line e),
  counted_at 3 bridged.turn 4 3 1 1 bridged_bounded (omega arith) bridged_small,
  answers 3 bridged (removes 3) granted bridged_bounded (omega arith) tt tt removes_small,
  counted_at 3 parted.turn 4 2 2 2 parted_bounded (omega arith) parted_small,
)
