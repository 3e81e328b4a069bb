use Rattle.std.proofs.Common.{◌≡◌, true, false, get_or, set, sym, refl, ap, ◌∙◌, subst}
use Rattle.flat.specs.Orbits.{indicator}
use Rattle.turning.specs.Limits.{max_edge}
use Rattle.file.specs.Layout.{strip}
use Rattle.file.specs.Strips.{home}
use Rattle.file.specs.Questions.{named, home_before}
use Rattle.file.proofs.Places.{bool_apart}
use Rattle.search.specs.Marks.{place as mark_at}
use Rattle.seam_questions.specs.Homes.{HomesMarked}
use Rattle.seam_questions.proofs.HomeMarks.{home_passed, home_marked, new_external, new_by_mark, eqb_is, eqb_not}
use Rattle.seam_questions.proofs.homes.claim_home.Goals as goal

pub returns-then-not-is_home : goal.returns-then-not-is_home
returns-then-not-is_home c =
    let f : home (strip c.args.judged.file.bytes.now c.args.j) c.args.i ≡ false = ap (λ y. home y c.args.i) (sym c.requires.strip) ∙ sym c.is_home.ensures ∙ c.if-not-is_home.true in
    record { answer = new_external c.args.judged.file.bytes.now c.args.j c.args.i f; held = λ _. home_passed c.args.judged.file.bytes.now c.args.j c.args.i _ f c.requires.marked }

pub returns-then-marks-place-ne0 : goal.returns-then-marks-place-ne0
returns-then-marks-place-ne0 c =
    let t : home (strip c.args.judged.file.bytes.now c.args.j) c.args.i ≡ true = ap (λ y. home y c.args.i) (sym c.requires.strip) ∙ sym c.is_home.ensures ∙ c.if-not-is_home.false in
    let g : named max_edge ((strip c.args.judged.file.bytes.now c.args.j).name c.args.i) ≡ true = subst (λ y. named max_edge (y.name c.args.i) ≡ true) c.requires.strip c.requires.named in
    let m : get_or c.args.marks.now c.place_in-place.result 0 ≡ indicator (home_before (strip c.args.judged.file.bytes.now) c.args.j c.args.i ((strip c.args.judged.file.bytes.now c.args.j).name c.args.i)) =
    ap (λ k. get_or c.args.marks.now k 0) (c.place_in-place.ensures.value ∙ ap (λ y. mark_at max_edge (y.name c.args.i)) c.requires.strip) ∙ c.requires.marked ((strip c.args.judged.file.bytes.now c.args.j).name c.args.i) g in
    record { answer = sym (eqb_not _ c.if-marks-place-ne0.true) ∙ new_by_mark c.args.judged.file.bytes.now c.args.j c.args.i _ t m; held = λ e. absurd (bool_apart false e refl) }

pub returns : goal.returns
returns c =
    let t : home (strip c.args.judged.file.bytes.now c.args.j) c.args.i ≡ true = ap (λ y. home y c.args.i) (sym c.requires.strip) ∙ sym c.is_home.ensures ∙ c.if-not-is_home.false in
    let g : named max_edge ((strip c.args.judged.file.bytes.now c.args.j).name c.args.i) ≡ true = subst (λ y. named max_edge (y.name c.args.i) ≡ true) c.requires.strip c.requires.named in
    let at = c.place_in-place.ensures.value ∙ ap (λ y. mark_at max_edge (y.name c.args.i)) c.requires.strip in
    let m : get_or c.args.marks.now c.place_in-place.result 0 ≡ indicator (home_before (strip c.args.judged.file.bytes.now) c.args.j c.args.i ((strip c.args.judged.file.bytes.now c.args.j).name c.args.i)) =
    ap (λ k. get_or c.args.marks.now k 0) at ∙ c.requires.marked ((strip c.args.judged.file.bytes.now c.args.j).name c.args.i) g in
    let e : set c.args.marks.now c.place_in-place.result 1 ≡ set c.args.marks.now (mark_at max_edge ((strip c.args.judged.file.bytes.now c.args.j).name c.args.i)) 1 =
    ap (λ k. set c.args.marks.now k 1) at in
    record {
      answer = sym (eqb_is _ c.if-marks-place-ne0.false) ∙ new_by_mark c.args.judged.file.bytes.now c.args.j c.args.i _ t m;
      held = λ _. subst (HomesMarked c.args.judged.file.bytes.now c.args.j _) (sym e) (home_marked c.args.judged.file.bytes.now c.args.j c.args.i c.args.marks.now c.told-marks g t c.requires.marked);
    }
