use Rattle.std.proofs.Common.{◌<◌, true, sym, ◌∙◌, arith, rules}
use Rattle.file.proofs.Places.{first_bad_is, first_bad_none}
use Rattle.file.proofs.asking.first_no.Goals as goal

pub returns-then-not-good : goal.returns-then-not-good
returns-then-not-good g c = λ yes told.
    let inside : c.loop-k.k < c.args.n = c.loop-k-test.true in
    sym (first_bad_is yes c.args.n c.loop-k.k inside (λ i h. sym (told i true (omega arith) (c.loop-k.invariant i h)))
    (sym (told c.loop-k.k _ inside c.good.ensures) ∙ c.if-not-good.true))

pub returns : goal.returns
returns g c = λ yes told. sym (first_bad_none yes c.args.n (λ i h. sym (told i true h (c.loop-k.invariant i (search rules)))))
