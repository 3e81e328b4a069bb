use Rattle.std.proofs.Common.{◌≡◌, ◌+◌, ◌*◌, true, eqb, ap, ◌∙◌, arith}
use Rattle.turning.specs.Limits.{max_edge}
use Rattle.search.specs.Buffers.{enough}
use Rattle.search.proofs.Buffers.{enough_both}
use Rattle.file.specs.Lines.{flat}
use Rattle.reading.proofs.Deciding.{granted_is}
use Rattle.reading.proofs.is_flat.Goals as goal

pub returns : goal.returns
unfolding flat
returns c =
    let m = c.args.marks.now in
    let l = c.args.line.now in
    let e : enough max_edge m l ≡ true = enough_both max_edge m l (omega arith) (omega arith) in
    c.is_flat.ensures ∙ ap (λ k. eqb (k.vertices + k.loops) (k.edges + 2 * k.pieces)) (granted_is (enough max_edge m l) _ _ _ e c.in-Ok.ensures.answer)
