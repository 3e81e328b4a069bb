use Rattle.std.proofs.Common.{◌≡◌, true, false, cond, length, get_or, ap, ◌∙◌, arith}
use Rattle.std.proofs.lemmas.List.{get_or-replicate}
use Rattle.flat.specs.Orbits.{indicator}
use Rattle.turning.specs.Limits.{max_edge}
use Rattle.file.specs.Layout.{strip}
use Rattle.file.specs.Questions.{beyond}
use Rattle.search.specs.Marks.{place as mark_at}
use Rattle.strip_questions.proofs.Marks.{mark_within}
use Rattle.seam_questions.specs.Sides.{west_of, east_of, neighbour_names}
use Rattle.seam_questions.proofs.SideMarks.{sides_are}
use Rattle.seam_questions.proofs.beyond.mark_beyond.Goals as goal

pub returns : goal.returns
returns c = λ z h.
    let file = c.args.judged.file in
    let at = strip file.bytes.now in
    let n = file.count in
    let old : get_or c.args.marks.now (mark_at max_edge z) 0 ≡ 0 =
    ap (λ m. get_or m (mark_at max_edge z) 0) c.requires.clean ∙ get_or-replicate (length c.args.marks.now) (mark_at max_edge z) 0 0 (omega (arith, mark_within z h, c.told-marks)) in
    c.mark_neighbour-2.ensures z h
    ∙ ap (λ o. cond (neighbour_names false at o z) 1 (get_or c.mark_neighbour.new.marks (mark_at max_edge z) 0)) c.east_of.ensures
    ∙ ap (cond (neighbour_names false at (east_of n c.args.j) z) 1)
    (c.mark_neighbour.ensures z h
    ∙ ap (λ o. cond (neighbour_names true at o z) 1 (get_or c.args.marks.now (mark_at max_edge z) 0)) c.west_of.ensures
    ∙ ap (cond (neighbour_names true at (west_of c.args.j) z) 1) old)
    ∙ sides_are n at c.args.j z h
    ∙ ap (λ m. indicator (beyond m at c.args.j z)) file.shaped.count
