use Rattle.std.proofs.Common.{◌≡◌, true, neg_ℤ, Some, sym, ap, ◌∙◌, arith, w16, w32, SFits, rules}
use Rattle.std.proofs.lemmas.Int.{ints, to_z-of_z}
use Rattle.std.specs.Result.{result_ok}
use Rattle.turning.specs.Limits.{max_edge}
use Rattle.turning.proofs.Names.{minus_back}
use Rattle.halfedges.specs.View.{seen}
use Rattle.halfedges.specs.Rows.{turn_of, points_of, lines_in}
use Rattle.strips.specs.Borders.{strip_of}
use Rattle.strips.specs.Sheets.{lawful_of}
use Rattle.strips.proofs.Homes.{home_by, somewhere}
use Rattle.strips.proofs.Standing.{kept_sound}
use Rattle.strips.proofs.sheet.Sheet.home.Goals as goal

pub overflow_sub-h : goal.overflow_sub-h
overflow_sub-h c =
    let s = c.args.self.now in
    let rs = s.rows.at.now in
    let law = lawful_of s.borders.items rs s.ok in
    let bits = to_z-of_z w16 c.args.h c.ranges.h in
    let held : (turn_of (seen rs)).held c.args.h ≡ true = ap (turn_of (seen rs)).held (sym bits) ∙ sym c.if-not-holds.ensures in
    omega (arith, ints, law.low c.args.h held, law.high c.args.h held)

pub returns-in_err-to : goal.returns-in_err-to
returns-in_err-to c =
    let s = c.args.self.now in
    let rs = s.rows.at.now in
    let h = c.args.h in
    let law = lawful_of s.borders.items rs s.ok in
    let bits = to_z-of_z w16 h c.ranges.h in
    let held : (turn_of (seen rs)).held h ≡ true = ap (turn_of (seen rs)).held (sym bits) ∙ sym c.if-not-holds.ensures in
    let back = minus_back h c.ranges.h (omega (arith, ints, law.low h held, law.high h held)) in
    absurd (somewhere (seen rs) (neg_ℤ h) (law.closed h held) (ap (points_of (seen rs)) (sym back) ∙ sym c.point-2.ensures ∙ c.ok_or-2.ensures.ok_part ∙ ap result_ok c.in_err-to.was))

pub returns : goal.returns
returns c =
    let s = c.args.self.now in
    let rs = s.rows.at.now in
    let h = c.args.h in
    let p = c.in_ok-from.from in
    let q = c.in_ok-to.to in
    let law = lawful_of s.borders.items rs s.ok in
    let bits = to_z-of_z w16 h c.ranges.h in
    let held : (turn_of (seen rs)).held h ≡ true = ap (turn_of (seen rs)).held (sym bits) ∙ sym c.if-not-holds.ensures in
    let back = minus_back h c.ranges.h (omega (arith, ints, law.low h held, law.high h held)) in
    let here : points_of (seen rs) h ≡ Some p = ap (points_of (seen rs)) (sym bits) ∙ sym c.point.ensures ∙ c.ok_or.ensures.ok_part ∙ ap result_ok c.in_ok-from.was in
    let there : points_of (seen rs) (neg_ℤ h) ≡ Some q = ap (points_of (seen rs)) (sym back) ∙ sym c.point-2.ensures ∙ c.ok_or-2.ensures.ok_part ∙ ap result_ok c.in_ok-to.was in
    let px : SFits w32 p.x = search rules in
    let qx : SFits w32 q.x = search rules in
    let a = c.strip_of-here.ensures ∙ ap (strip_of s.borders.items) (to_z-of_z w32 p.x px) in
    let b = c.strip_of-there.ensures ∙ ap (strip_of s.borders.items) (to_z-of_z w32 q.x qx) in
    c.home_between.ensures
    ∙ home_by max_edge s.borders.items (lines_in (seen rs)) (kept_sound s.borders.items rs s.ok) c.args.strip p q h held here there _ _ a b
