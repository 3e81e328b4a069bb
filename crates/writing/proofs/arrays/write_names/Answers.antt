use Rattle.std.proofs.Common.{length, ap, ◌∙◌}
use Rattle.writing.specs.Written.{i16_bytes}
use Rattle.writing.proofs.WordByWord.{each_is}
use Rattle.writing.proofs.arrays.write_names.Goals as goal

pub write_each-requires-clause-sized : goal.write_each-requires-clause-sized
write_each-requires-clause-sized c = λ k d lt w e. ap length e

pub returns : goal.returns
returns c = each_is _ i16_bytes c.args.names.now c.write_each.new.part (λ k d lt word (w, (own, e)). e ∙ own) c.write_each.ensures
