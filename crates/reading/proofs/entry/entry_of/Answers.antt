use Rattle.std.proofs.Common.{◌≡◌, true, false, get_or, sym, ap, ◌∙◌, None, w16}
use Rattle.std.proofs.lemmas.Int.{to_z-of_z}
use Rattle.turning.specs.Limits.{max_edge}
use Rattle.search.specs.Marks.{place as mark_at}
use Rattle.file.specs.Questions.{named}
use Rattle.reading.proofs.Telling.{entry_at, entry_off}
use Rattle.reading.proofs.entry.entry_of.Goals as goal

pub returns-then-not-name_good : goal.returns-then-not-name_good
returns-then-not-name_good c =
    let h = c.args.h in
    let e : named max_edge h ≡ false = ap (named max_edge) (sym (to_z-of_z w16 h c.ranges.h)) ∙ sym c.name_good.ensures ∙ c.if-not-name_good.true in
    sym (entry_off c.args.entries.now h e)

pub returns : goal.returns
returns c =
    let h = c.args.h in
    let es = c.args.entries.now in
    let q = to_z-of_z w16 h c.ranges.h in
    let e : named max_edge h ≡ true = ap (named max_edge) (sym q) ∙ sym c.name_good.ensures ∙ c.if-not-name_good.false in
    ap (λ k. get_or es k None) (c.place_of.ensures.value ∙ ap (mark_at max_edge) q) ∙ sym (entry_at es h e)
