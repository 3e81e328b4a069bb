use Rattle.std.proofs.Common.{◌≡◌, true, cond, length, get_or, replicate, ap, ◌∙◌, arith, rules}
use Rattle.std.proofs.lemmas.List.{get_or-replicate}
use Rattle.turning.specs.Limits.{max_edge, marks_for}
use Rattle.file.specs.Strips.{names}
use Rattle.file.specs.Views.{told}
use Rattle.search.specs.Marks.{place as mark_at}
use Rattle.strip_questions.proofs.Marks.{mark_within}
use Rattle.strip_questions.proofs.paired.names_paired.Goals as goal

pub find_unpaired-requires-clause-marked : goal.find_unpaired-requires-clause-marked
find_unpaired-requires-clause-marked c = λ z g.
    let m = c.fill.new.self in
    let clean : m ≡ replicate (length m) 0 = search rules in
    let long : length m ≡ marks_for max_edge = search rules in
    let none : get_or m (mark_at max_edge z) 0 ≡ 0 = ap (λ l. get_or l (mark_at max_edge z) 0) clean ∙ get_or-replicate (length m) (mark_at max_edge z) 0 0 (omega (arith, mark_within z g)) in
    c.mark_names.ensures (λ _. true) (λ h b p. search rules) z g ∙ ap (cond (names (told c.args.s) c.args.s.slots z) 1) none
