use Rattle.std.proofs.Common.{◌≡◌, ◌++◌, length, refl, ap, ◌∙◌, ap₂}
use Rattle.std.specs.List.{flat_map}
use Rattle.strips.specs.Borders.{strip_count}
use Rattle.writing.specs.Written.{u16_bytes, i32_bytes}
use Rattle.writing.specs.Lays.{sizes_bytes}
use Rattle.writing.proofs.CodeGather.{length_joined}
use Rattle.writing.proofs.CodeWhole.{head_laid}
use Rattle.writing.proofs.write.write_head.Goals as goal

pub returns : goal.returns
returns c =
    let bs = c.args.borders.now.items in
    let own = c.args.sizes.now in
    let n = c.copy_from_slice.new.self in
    let s = c.write_sizes.new.part in
    let b = c.write_borders.new.part in
    let en : n ≡ u16_bytes (strip_count bs) = c.copy_from_slice.ensures.after ∙ c.to_le_bytes-count.ensures ∙ ap u16_bytes c.strip_count.ensures.count in
    let es : s ≡ flat_map sizes_bytes own = c.write_sizes.ensures in
    let eb : b ≡ flat_map i32_bytes bs = c.write_borders.ensures in
    head_laid c.args.part.now n s b (length own) (length bs) c.requires (ap length en) (ap length es ∙ length_joined sizes_bytes 4 (λ _. refl) own) (ap length eb ∙ length_joined i32_bytes 4 (λ _. refl) bs)
    ∙ ap₂ (λ x y. x ++ (y ++ b)) en es ∙ ap (λ z. u16_bytes (strip_count bs) ++ (flat_map sizes_bytes own ++ z)) eb
