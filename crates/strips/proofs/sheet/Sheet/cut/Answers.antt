use Rattle.std.proofs.Common.{◌≡◌, ◌<◌, ◌≤◌, true, false, sym, refl, ap, ◌∙◌, subst, arith, w32, SFits}
use Rattle.std.proofs.lemmas.Int.{to_z-of_z}
use Rattle.turning.specs.Limits.{max_edge, max_strips}
use Rattle.turning.specs.Counts.{Flat}
use Rattle.chart.specs.Points.{within}
use Rattle.halfedges.specs.View.{seen}
use Rattle.halfedges.specs.Rows.{lines_in}
use Rattle.strips.specs.Borders.{rising, strip_count, slots_taken}
use Rattle.strips.specs.Seams.{with_border, is_border}
use Rattle.strips.specs.Sheets.{room_of}
use Rattle.strips.proofs.Standing.{kept_out, kept_sound, room_most}
use Rattle.strips.proofs.Stitching.{rise_with}
use Rattle.strips.proofs.Sewing.{cut_full, cut_done}
use Rattle.strips.proofs.sheet.Sheet.cut.Goals as goal

pub lay_out-requires : goal.lay_out-requires
lay_out-requires c =
    let s = c.args.self.now in
    let bs = s.borders.items in
    let rs = s.rows.at.now in
    let most = room_most rs in
    record { core = λ long. (kept_out bs rs s.ok long).core; room = omega (arith, c.if-slots_needed-slot_count.false, c.slots_needed.ensures, c.slot_count.ensures) }

pub invariant_of-self : goal.invariant_of-self
invariant_of-self c =
    let s = c.args.self.now in
    let bs = s.borders.items in
    let x = c.args.x in
    let fx : SFits w32 x = c.ranges.x in
    let inside : within x ≡ true = sym (simp to_z-of_z at c.if-not-is_within.ensures) in
    let new : is_border x bs ≡ false = sym (simp to_z-of_z at c.if-has_border.ensures) in
    let put : c.put_in-borders.result.items ≡ with_border x bs = simp to_z-of_z at c.put_in-borders.ensures in
    record { ok = ∣ c.lay_out.ensures.kept ∣₁; rises = ap rising put ∙ rise_with x bs s.rises inside new }

pub returns-then-slots_needed-slot_count : goal.returns-then-slots_needed-slot_count
returns-then-slots_needed-slot_count c =
    let s = c.args.self.now in
    let bs = s.borders.items in
    let rs = s.rows.at.now in
    let x = c.args.x in
    let fx : SFits w32 x = c.ranges.x in
    let inside : within x ≡ true = sym (simp to_z-of_z at c.if-not-is_within.ensures) in
    let new : is_border x bs ≡ false = sym (simp to_z-of_z at c.if-has_border.ensures) in
    let few : strip_count bs < max_strips = omega (arith, c.if-strip_count-ge-MAX_STRIPS.false, c.strip_count.ensures.count) in
    let put : c.put_in-borders.result.items ≡ with_border x bs = simp to_z-of_z at c.put_in-borders.ensures in
    let needed : c.slots_needed.result ≡ slots_taken (with_border x bs) (lines_in (seen rs)) max_edge = c.slots_needed.ensures ∙ ap (λ cs. slots_taken cs (lines_in (seen rs)) max_edge) put in
    let over : room_of rs < slots_taken (with_border x bs) (lines_in (seen rs)) max_edge = omega (arith, c.if-slots_needed-slot_count.true, needed, c.slot_count.ensures) in
    record { done = record { told = cut_full bs rs x inside new few (kept_sound bs rs s.ok).1 over; changed = refl }; flat = λ f. f }

pub returns : goal.returns
returns c =
    let s = c.args.self.now in
    let bs = s.borders.items in
    let rs = s.rows.at.now in
    let x = c.args.x in
    let fx : SFits w32 x = c.ranges.x in
    let inside : within x ≡ true = sym (simp to_z-of_z at c.if-not-is_within.ensures) in
    let new : is_border x bs ≡ false = sym (simp to_z-of_z at c.if-has_border.ensures) in
    let few : strip_count bs < max_strips = omega (arith, c.if-strip_count-ge-MAX_STRIPS.false, c.strip_count.ensures.count) in
    let put : c.put_in-borders.result.items ≡ with_border x bs = simp to_z-of_z at c.put_in-borders.ensures in
    let needed : c.slots_needed.result ≡ slots_taken (with_border x bs) (lines_in (seen rs)) max_edge = c.slots_needed.ensures ∙ ap (λ cs. slots_taken cs (lines_in (seen rs)) max_edge) put in
    let fits : slots_taken (with_border x bs) (lines_in (seen rs)) max_edge ≤ room_of rs = omega (arith, c.if-slots_needed-slot_count.false, needed, c.slot_count.ensures) in
    let e = c.lay_out.ensures in
    record {
      done = cut_done bs rs x inside new few (kept_sound bs rs s.ok).1 c.put_in-borders.result.items c.lay_out.new.rows.at.now put fits e.lines e.slots;
      flat = λ f. subst (λ l. Flat max_edge l.turn) (sym e.lines) f;
    }
