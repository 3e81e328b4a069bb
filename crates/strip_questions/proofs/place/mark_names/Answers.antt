use Rattle.std.proofs.Common.{◌≡◌, length, get_or, set, ℤ, sym, ap, ◌∙◌, rules}
use Rattle.turning.specs.Limits.{max_edge, marks_for}
use Rattle.file.specs.Views.{told}
use Rattle.search.specs.Marks.{place as mark_at}
use Rattle.strip_questions.proofs.Marks.{name_is, wanted_marked, wanted_passed}
use Rattle.strip_questions.proofs.place.mark_names.Goals as goal
use Rattle.strip_questions.proofs.place.mark_names.Goals.{then-wanted, else-wanted}

pub loop-i-preserved : goal.loop-i-preserved
loop-i-preserved g c = λ yes told_by.
    let s = told c.args.s in
    let good = c.requires.named c.loop-i.i c.loop-i-test.true in
    let asked : c.wanted.result ≡ yes (s.name c.loop-i.i) = told_by _ _ c.wanted.ensures ∙ ap yes (name_is _ _ c.name.ensures good) in
    let old : ℤ → _ = λ z. get_or c.args.marks.now (mark_at max_edge z) 0 in
    let long : length c.loop-i.marks ≡ marks_for max_edge = search rules in
    let before = c.loop-i.invariant yes told_by in
    elim c.if-wanted.branch [
      | then-wanted w ↦
          let e : c.if-wanted.marks ≡ set c.loop-i.marks (mark_at max_edge (s.name c.loop-i.i)) 1 = w.marks-is ∙ ap (λ k. set c.loop-i.marks k 1) w.place_in.ensures.value in
          λ z h. ap (λ m. get_or m (mark_at max_edge z) 0) e
          ∙ wanted_marked yes s c.loop-i.i c.loop-i.marks old long good (sym asked ∙ w.if-wanted.true) before z h
      | else-wanted w ↦
          λ z h. ap (λ m. get_or m (mark_at max_edge z) 0) w.marks-is
          ∙ wanted_passed yes s c.loop-i.i c.loop-i.marks old (sym asked ∙ w.if-wanted.false) before z h
    ]
