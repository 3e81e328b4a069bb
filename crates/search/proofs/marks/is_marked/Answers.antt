use Rattle.std.proofs.Common.{not, eqb, get_or, ap, rules}
use Rattle.search.specs.Marks.{marked}
use Rattle.search.proofs.marks.is_marked.Goals as goal

pub returns : goal.returns
unfolding marked
returns c = ap (λ i. not (eqb (get_or c.args.marks.now i 0) 0)) (search rules)
