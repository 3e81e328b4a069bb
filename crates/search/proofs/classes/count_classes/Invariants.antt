use Rattle.turning.specs.Limits.{max_edge}
use Rattle.search.proofs.Sweeps.{Sweep}
use Rattle.search.proofs.classes.count_classes.Given as goal

abbrev pub invariant-loop-e : goal.invariant-loop-e
invariant-loop-e g l =
    let t = g.T.Turning.turn l.t in
    let law = g.T.Turning.lawful l.t in
    Sweep max_edge t law (g.S.Search.steps t) (g.S.Search.fair t law) l.marks l.count l.e
