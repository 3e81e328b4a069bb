use Rattle.std.proofs.Common.{◌≡◌, true, sym, ap, ◌∙◌, subst, arith, w32, SFits}
use Rattle.std.proofs.lemmas.Int.{to_z-of_z}
use Rattle.turning.specs.Limits.{max_edge}
use Rattle.turning.specs.Counts.{Flat}
use Rattle.chart.specs.Points.{within}
use Rattle.halfedges.specs.View.{seen}
use Rattle.halfedges.specs.Rows.{lines_in}
use Rattle.strips.specs.Borders.{rising, slots_taken}
use Rattle.strips.specs.Seams.{without_border, is_border}
use Rattle.strips.proofs.Standing.{kept_out, kept_sound, taken_most}
use Rattle.strips.proofs.Stitching.{rise_without, taken_without}
use Rattle.strips.proofs.Sewing.{knit_done}
use Rattle.strips.proofs.sheet.Sheet.knit.Goals as goal

pub lay_out-requires : goal.lay_out-requires
lay_out-requires c =
    let s = c.args.self.now in
    let bs = s.borders.items in
    let rs = s.rows.at.now in
    let x = c.args.x in
    let fx : SFits w32 x = c.ranges.x in
    let here : is_border x bs ≡ true = sym (simp to_z-of_z at c.if-not-has_border.ensures) in
    let out : c.take_out-borders.result.items ≡ without_border x bs = simp to_z-of_z at c.take_out-borders.ensures in
    let less = taken_without max_edge (lines_in (seen rs)) (kept_sound bs rs s.ok).1 x bs s.rises here max_edge in
    let most = taken_most bs rs s.ok in
    let same = ap (λ cs. slots_taken cs (lines_in (seen rs)) max_edge) out in
    record { core = λ long. (kept_out bs rs s.ok long).core; room = omega (arith, less, most, same) }

pub invariant_of-self : goal.invariant_of-self
invariant_of-self c =
    let s = c.args.self.now in
    let bs = s.borders.items in
    let x = c.args.x in
    let fx : SFits w32 x = c.ranges.x in
    let out : c.take_out-borders.result.items ≡ without_border x bs = simp to_z-of_z at c.take_out-borders.ensures in
    record { ok = ∣ c.lay_out.ensures.kept ∣₁; rises = ap rising out ∙ rise_without x bs s.rises }

pub returns : goal.returns
returns c =
    let s = c.args.self.now in
    let bs = s.borders.items in
    let rs = s.rows.at.now in
    let x = c.args.x in
    let fx : SFits w32 x = c.ranges.x in
    let inside : within x ≡ true = sym (simp to_z-of_z at c.if-not-is_within.ensures) in
    let here : is_border x bs ≡ true = sym (simp to_z-of_z at c.if-not-has_border.ensures) in
    let out : c.take_out-borders.result.items ≡ without_border x bs = simp to_z-of_z at c.take_out-borders.ensures in
    let e = c.lay_out.ensures in
    record {
      done = knit_done bs rs x inside here c.take_out-borders.result.items c.lay_out.new.rows.at.now out e.lines e.slots;
      flat = λ f. subst (λ l. Flat max_edge l.turn) (sym e.lines) f;
    }
