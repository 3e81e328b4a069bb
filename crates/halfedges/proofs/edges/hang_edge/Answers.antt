use Rattle.std.proofs.Common.{◌≤◌, length, arith, pos, neg_ℤ, sym, subst}
use Rattle.turning.specs.Limits.{max_edge, slots}
use Rattle.laws.specs.Rotations.{Fresh}
use Rattle.halfedges.specs.View.{seen}
use Rattle.halfedges.specs.Rows.{turn_of, Brought}
use Rattle.halfedges.proofs.Hangs.{room₀, rotation₀, fresh₀, corner₀, rotation₁, fresh₁, corner₁, room₁, hang_lines, hang_core, hang_used, hang_strips, hang_counted, hang_unlinked}
use Rattle.turning.proofs.Names.{plus_fits, plus_name, minus_fits, minus_name, small}
use Rattle.halfedges.proofs.edges.hang_edge.Goals as goal

pub overflow_cast-e : goal.overflow_cast-e
overflow_cast-e c = plus_fits c.args.edge (small _ c.requires.ends.high)

pub overflow_sub-e : goal.overflow_sub-e
overflow_sub-e c = minus_fits c.args.edge (small _ c.requires.ends.high)

pub bring-requires : goal.bring-requires
bring-requires c =
    let rs = c.args.rows.now.at.now in
    let e = c.args.edge in
    let a = c.args.start in
    let b = c.args.end in
    let p = c.requires in
    record {
      long = p.core.long;
      indexed = p.core.indexed;
      rotation = rotation₀ rs p.core e a.point b.point a.corner b.corner p.ends p.room;
      room = room₀ rs p.core e a.point b.point a.corner b.corner p.ends p.room;
      fresh = subst (Fresh max_edge (turn_of (seen rs))) (sym (plus_name e (small _ p.ends.high))) (fresh₀ rs p.core e a.point b.point a.corner b.corner p.ends p.room);
      corner = corner₀ rs p.core e a.point b.point a.corner b.corner p.ends p.room;
    }

pub bring-requires-2 : goal.bring-requires-2
bring-requires-2 c =
    let rs = c.args.rows.now.at.now in
    let rs₁ = c.bring.new.rows in
    let e = c.args.edge in
    let a = c.args.start in
    let b = c.args.end in
    let p = c.requires in
    let g = c.args.span in
    let first : Brought slots g.west (pos e) a.corner a.point (seen rs) (seen rs₁) = subst (λ z. Brought slots g.west z a.corner a.point (seen rs) (seen rs₁)) (plus_name e (small _ p.ends.high)) c.bring.ensures in
    record {
      long = omega arith;
      indexed = first.indexed;
      rotation = rotation₁ rs p.core e a.point b.point a.corner b.corner p.ends p.room g.west rs₁ first;
      room = room₁ rs p.core e a.point b.point a.corner b.corner p.ends p.room g.west rs₁ first;
      fresh = subst (Fresh max_edge (turn_of (seen rs₁))) (sym (minus_name e (small _ p.ends.high))) (fresh₁ rs p.core e a.point b.point a.corner b.corner p.ends p.room g.west rs₁ first);
      corner = corner₁ rs p.core e a.point b.point a.corner b.corner p.ends p.room g.west rs₁ first;
    }

pub returns : goal.returns
returns c =
    let rs = c.args.rows.now.at.now in
    let rs₁ = c.bring.new.rows in
    let rs₂ = c.bring-2.new.rows in
    let e = c.args.edge in
    let a = c.args.start in
    let b = c.args.end in
    let p = c.requires in
    let g = c.args.span in
    let first : Brought slots g.west (pos e) a.corner a.point (seen rs) (seen rs₁) = subst (λ z. Brought slots g.west z a.corner a.point (seen rs) (seen rs₁)) (plus_name e (small _ p.ends.high)) c.bring.ensures in
    let second : Brought slots g.east (neg_ℤ (pos e)) b.corner b.point (seen rs₁) (seen rs₂) = subst (λ z. Brought slots g.east z b.corner b.point (seen rs₁) (seen rs₂)) (minus_name e (small _ p.ends.high)) c.bring-2.ensures in
    let long : slots ≤ length rs₂ = omega arith in
    record {
      lines = hang_lines rs p.core e a.point b.point a.corner b.corner p.ends p.room g.west rs₁ first g.east rs₂ long second;
      core = hang_core rs p.core e a.point b.point a.corner b.corner p.ends p.room g.west rs₁ first g.east rs₂ long second;
      used = hang_used rs p.core e a.point b.point a.corner b.corner p.ends p.room g.west rs₁ first g.east rs₂ long second;
      strips = hang_strips rs p.core e a.point b.point a.corner b.corner p.ends p.room g.west rs₁ first g.east rs₂ long second;
      counted = hang_counted rs p.core e a.point b.point a.corner b.corner p.ends p.room g.west rs₁ first g.east rs₂ long second;
      unlinked = hang_unlinked rs p.core e a.point b.point a.corner b.corner p.ends p.room g.west rs₁ first g.east rs₂ long second;
    }
