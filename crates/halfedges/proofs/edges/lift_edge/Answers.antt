use Rattle.std.proofs.Common.{◌≡◌, ◌≤◌, length, arith, pos, neg_ℤ, ap, ◌∙◌}
use Rattle.turning.specs.Limits.{slots}
use Rattle.halfedges.specs.View.{seen}
use Rattle.halfedges.specs.Rows.{turn_of, unhooked}
use Rattle.halfedges.proofs.Lifts.{rotation₀, indexed₁, rotation₁, here₁, lift_lines, lift_core, lift_used, lift_strips, lift_counted, lift_unlinked}
use Rattle.turning.proofs.Names.{plus_fits, plus_name, minus_fits, minus_name, held_small}
use Rattle.halfedges.proofs.edges.lift_edge.Goals as goal

pub overflow_cast-e : goal.overflow_cast-e
overflow_cast-e c = plus_fits c.args.edge (held_small _ c.requires.core.sound.0 c.args.edge c.requires.here)

pub overflow_sub-e : goal.overflow_sub-e
overflow_sub-e c = minus_fits c.args.edge (held_small _ c.requires.core.sound.0 c.args.edge c.requires.here)

pub unhook-requires : goal.unhook-requires
unhook-requires c =
    let rs = c.args.rows.now.at.now in
    let e = c.args.edge in
    let p = plus_name e (held_small _ c.requires.core.sound.0 e c.requires.here) in
    record {
      indexed = c.requires.core.indexed;
      rotation = rotation₀ rs c.requires.core e c.requires.here;
      here = ap (turn_of (seen rs)).held p ∙ c.requires.here;
    }

pub unhook-requires-2 : goal.unhook-requires-2
unhook-requires-2 c =
    let rs = c.args.rows.now.at.now in
    let rs₁ = c.unhook.new.rows in
    let e = c.args.edge in
    let l = held_small _ c.requires.core.sound.0 e c.requires.here in
    let first : seen rs₁ ≡ unhooked (pos e) (seen rs) = c.unhook.ensures ∙ ap (λ z. unhooked z (seen rs)) (plus_name e l) in
    record {
      indexed = indexed₁ rs c.requires.core e c.requires.here rs₁ first;
      rotation = rotation₁ rs c.requires.core e c.requires.here rs₁ first;
      here = ap (turn_of (seen rs₁)).held (minus_name e l) ∙ here₁ rs c.requires.core e c.requires.here rs₁ first;
    }

pub returns : goal.returns
returns c =
    let rs = c.args.rows.now.at.now in
    let rs₁ = c.unhook.new.rows in
    let rs₂ = c.unhook-2.new.rows in
    let e = c.args.edge in
    let l = held_small _ c.requires.core.sound.0 e c.requires.here in
    let first : seen rs₁ ≡ unhooked (pos e) (seen rs) = c.unhook.ensures ∙ ap (λ z. unhooked z (seen rs)) (plus_name e l) in
    let second : seen rs₂ ≡ unhooked (neg_ℤ (pos e)) (seen rs₁) = c.unhook-2.ensures ∙ ap (λ z. unhooked z (seen rs₁)) (minus_name e l) in
    let long : slots ≤ length rs₂ = omega arith in
    record {
      lines = lift_lines rs c.requires.core e c.requires.here rs₁ first rs₂ long second;
      core = lift_core rs c.requires.core e c.requires.here rs₁ first rs₂ long second;
      used = lift_used rs c.requires.core e c.requires.here rs₁ first rs₂ long second;
      strips = lift_strips rs c.requires.core e c.requires.here rs₁ first rs₂ long second;
      counted = lift_counted rs c.requires.core e c.requires.here rs₁ first rs₂ long second;
      unlinked = lift_unlinked rs c.requires.core e c.requires.here rs₁ first rs₂ long second;
    }
