use Rattle.std.proofs.Common.{◌≡◌, map, length, sym, ap, ◌∙◌, arith}
use Rattle.std.proofs.lemmas.List.{length-map}
use Rattle.turning.specs.Limits.{max_edge}
use Rattle.chart.specs.Linework.{lines_of}
use Rattle.writing.specs.Written.{names_in, points_in, start_of}
use Rattle.writing.proofs.CodeGather.{strip_long}
use Rattle.writing.proofs.arrays.write_strip.Goals as goal

pub write_arrays-requires : goal.write_arrays-requires
write_arrays-requires g c =
    let l = lines_of g.C.Turning.turn g.C.Chart.points c.args.chart.now in
    let bs = c.args.borders.now.items in
    let names = c.as_slice.result.now in
    let firsts = c.as_slice-2.result.now in
    let own : names ≡ names_in max_edge bs l c.args.strip = c.as_slice.ensures.value ∙ c.gather.ensures.named in
    let starts : map (start_of l) firsts ≡ points_in max_edge bs l c.args.strip = ap (map (start_of l)) c.as_slice-2.ensures.value ∙ c.gather.ensures.started in
    let a = ap length own in
    let b = sym (length-map firsts (start_of l)) ∙ ap length starts in
    let whole = c.requires ∙ strip_long max_edge bs l c.args.strip in
    record { names = own; firsts = starts; few = c.as_slice.ensures.fits; long = omega arith }
