use Rattle.std.proofs.Common.{length, ap, ◌∙◌}
use Rattle.std.specs.List.{flat_map}
use Rattle.writing.specs.Written.{i32_bytes}
use Rattle.writing.proofs.WordByWord.{each_is}
use Rattle.writing.proofs.write.write_borders.Goals as goal

pub write_each-requires-clause-sized : goal.write_each-requires-clause-sized
write_each-requires-clause-sized c = λ k d lt w e. ap length e

pub returns : goal.returns
returns c =
    each_is _ i32_bytes c.as_slice.result.now c.write_each.new.part (λ k d lt word (w, (own, e)). e ∙ own) c.write_each.ensures
    ∙ ap (flat_map i32_bytes) c.as_slice.ensures.value
