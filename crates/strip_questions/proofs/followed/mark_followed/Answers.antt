use Rattle.std.proofs.Common.{◌≡◌, ◌<◌, ◌≤◌, length, get_or, set, ap, ◌∙◌, arith}
use Rattle.std.proofs.lemmas.List.{get_or-replicate}
use Rattle.file.specs.Views.{told}
use Rattle.strip_questions.specs.Counts.{one_more}
use Rattle.strip_questions.proofs.Counts.{count_set, count_skip, is_slot}
use Rattle.strip_questions.proofs.followed.mark_followed.Goals as goal
use Rattle.strip_questions.proofs.followed.mark_followed.Goals.{then-follower, else-follower}

pub loop-k-init : goal.loop-k-init
loop-k-init c = record { long = c.told-marks; counted = λ i h. ap (λ m. get_or m i 0) c.requires.clean ∙ get_or-replicate (length c.args.marks.now) i 0 0 (omega arith) }

pub add_mark-requires : goal.add_mark-requires
add_mark-requires c =
    let g = c.requires.followers c.loop-k.k c.loop-k-test.true in
    let slot : (told c.args.s).follower c.loop-k.k < c.args.s.slots = is_slot (told c.args.s) c.loop-k.k g (λ e. c.if-follower.true (c.follower-follower.ensures ∙ e)) in
    omega (arith, c.follower-follower.ensures, c.requires.few, c.loop-k.invariant.long)

pub loop-k-preserved : goal.loop-k-preserved
loop-k-preserved c =
    elim c.if-follower.branch [
      | then-follower w ↦
          let g = c.requires.followers c.loop-k.k c.loop-k-test.true in
          let slot : (told c.args.s).follower c.loop-k.k < c.args.s.slots =
          is_slot (told c.args.s) c.loop-k.k g (λ e. w.if-follower.true (c.follower-follower.ensures ∙ e)) in
          let e : c.if-follower.marks ≡ set c.loop-k.marks ((told c.args.s).follower c.loop-k.k) (one_more (get_or c.loop-k.marks ((told c.args.s).follower c.loop-k.k) 0)) =
          w.marks-is ∙ w.add_mark.ensures
          ∙ ap (λ k. set c.loop-k.marks k (one_more (get_or c.loop-k.marks k 0))) c.follower-follower.ensures in
          record { long = ap length w.marks-is ∙ w.add_mark.array_long; counted = λ i h. ap (λ m. get_or m i 0) e ∙ count_set c.loop-k.marks (told c.args.s) c.loop-k.k (omega (arith, c.requires.few, c.loop-k.invariant.long)) c.loop-k.invariant.counted i h }
      | else-follower w ↦
          let far : c.args.s.slots ≤ (told c.args.s).follower c.loop-k.k = omega (arith, w.if-follower.false, c.follower-follower.ensures) in
          record { long = ap length w.marks-is ∙ c.loop-k.invariant.long; counted = λ i h. ap (λ m. get_or m i 0) w.marks-is ∙ count_skip c.loop-k.marks (told c.args.s) c.loop-k.k far c.loop-k.invariant.counted i h }
    ]
