use Rattle.std.proofs.Common.{◌≡◌, ℕ, List, ◌++◌, length, ℤ, refl, sym, ap, ◌∙◌, subst, ap₂}
use Rattle.std.specs.List.{flat_map}
use Rattle.flat.specs.Orbits.{◌∈◌, Distinct}
use Rattle.turning.specs.Limits.{max_edge}
use Rattle.chart.specs.Linework.{lines_of}
use Rattle.writing.specs.Written.{u16_bytes, i16_bytes, i32_bytes, follower_slot, start_of}
use Rattle.writing.proofs.CodeParts.{four_parts}
use Rattle.writing.proofs.CodeGather.{length_joined, arrays_are}
use Rattle.writing.proofs.CodeNames.{in_strip_within}
use Rattle.writing.proofs.Slotting.{strip_apart}
use Rattle.writing.proofs.WordByWord.{each_is}
use Rattle.writing.proofs.arrays.write_arrays.Goals as goal

pub note_slots-requires : goal.note_slots-requires
note_slots-requires g c =
    let l = lines_of g.C.Turning.turn g.C.Chart.points c.args.chart.now in
    record {
      within = λ h m. in_strip_within max_edge c.args.borders.now.items l (g.C.Turning.lawful c.args.chart.now) c.args.strip h (subst (λ zs. h ∈ zs) c.requires.names m);
      apart = subst Distinct (sym c.requires.names) (strip_apart max_edge c.args.borders.now.items l c.args.strip);
      few = c.requires.few;
    }

pub returns : goal.returns
returns g c =
    let l = lines_of g.C.Turning.turn g.C.Chart.points c.args.chart.now in
    let bs = c.args.borders.now.items in
    let names = c.args.names.now in
    let firsts = c.args.firsts.now in
    let a = c.write_names.new.part in
    let b = c.write_followers.new.part in
    let x = c.write_each.new.part in
    let y = c.write_each-2.new.part in
    let follower : ℤ → List ℕ = λ h. u16_bytes (follower_slot max_edge bs l c.args.strip h) in
    let ea : a ≡ flat_map i16_bytes names = c.write_names.ensures in
    let eb : b ≡ flat_map follower names = c.write_followers.ensures in
    let ex : x ≡ flat_map (λ h. i32_bytes (start_of l h).x) firsts = each_is _ (λ h. i32_bytes (start_of l h).x) firsts x (λ k d lt word (w, (own, e)). e ∙ own) c.write_each.ensures in
    let ey : y ≡ flat_map (λ h. i32_bytes (start_of l h).y) firsts = each_is _ (λ h. i32_bytes (start_of l h).y) firsts y (λ k d lt word (w, (own, e)). e ∙ own) c.write_each-2.ensures in
    four_parts c.args.part.now a b x y (length names) (length firsts) c.requires.long
    (ap length ea ∙ length_joined i16_bytes 2 (λ _. refl) names) (ap length eb ∙ length_joined follower 2 (λ _. refl) names)
    (ap length ex ∙ length_joined (λ h. i32_bytes (start_of l h).x) 4 (λ _. refl) firsts) (ap length ey ∙ length_joined (λ h. i32_bytes (start_of l h).y) 4 (λ _. refl) firsts)
    ∙ ap₂ (λ p q. p ++ (q ++ (x ++ y))) ea eb ∙ ap₂ (λ p q. flat_map i16_bytes names ++ (flat_map follower names ++ (p ++ q))) ex ey
    ∙ arrays_are max_edge bs l c.args.strip names firsts c.requires.names c.requires.firsts
