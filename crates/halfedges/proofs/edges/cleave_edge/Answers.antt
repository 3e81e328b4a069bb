use Rattle.std.proofs.Common.{◌≡◌, ◌≤◌, length, arith, pos, neg_ℤ, Some, None, sym, ap, ◌∙◌, subst, subst₂}
use Rattle.turning.specs.Limits.{max_edge, slots}
use Rattle.laws.specs.Rotations.{Fresh}
use Rattle.halfedges.specs.View.{seen}
use Rattle.halfedges.specs.Rows.{turn_of, Brought, unhooked}
use Rattle.halfedges.proofs.Cleaves.{rotation₀, held₀, fresh₀, room₀, rotation₁, held₁, indexed₂, rotation₂, fresh₂, room₂, rotation₃, held₃, fresh₃, room₃, cleave_lines, cleave_core, cleave_used, cleave_strips, cleave_counted, cleave_unlinked}
use Rattle.turning.proofs.Names.{plus_fits, plus_name, minus_fits, minus_name, small, held_small}
use Rattle.halfedges.proofs.edges.cleave_edge.Goals as goal

pub overflow_cast-e : goal.overflow_cast-e
overflow_cast-e c = plus_fits c.args.edge (held_small _ c.requires.core.sound.0 c.args.edge c.requires.cuts.here)

pub overflow_sub-e : goal.overflow_sub-e
overflow_sub-e c = minus_fits c.args.edge (held_small _ c.requires.core.sound.0 c.args.edge c.requires.cuts.here)

pub bring-requires : goal.bring-requires
bring-requires c =
    let rs = c.args.rows.now.at.now in
    let a = c.args in
    let p = c.requires in
    let E-is = minus_name a.edge (held_small _ p.core.sound.0 a.edge p.cuts.here) in
    let F-is = minus_name a.east (small _ p.cuts.high) in
    record {
      long = p.core.long;
      indexed = p.core.indexed;
      rotation = rotation₀ rs p.core a.edge a.east a.at a.to p.cuts p.room a.span.west a.span.east;
      room = room₀ rs p.core a.edge a.east a.at a.to p.cuts p.room a.span.west a.span.east;
      fresh = subst (Fresh max_edge (turn_of (seen rs))) (sym F-is) (fresh₀ rs p.core a.edge a.east a.at a.to p.cuts p.room a.span.west a.span.east);
      corner = ap (turn_of (seen rs)).held E-is ∙ held₀ rs p.core a.edge a.east a.at a.to p.cuts p.room a.span.west a.span.east;
    }

pub unhook-requires : goal.unhook-requires
unhook-requires c =
    let rs = c.args.rows.now.at.now in
    let rs₁ = c.bring.new.rows in
    let a = c.args in
    let p = c.requires in
    let E-is = minus_name a.edge (held_small _ p.core.sound.0 a.edge p.cuts.here) in
    let F-is = minus_name a.east (small _ p.cuts.high) in
    let first : Brought slots a.span.east (neg_ℤ (pos a.east)) (Some (neg_ℤ (pos a.edge))) a.to (seen rs) (seen rs₁) = subst₂ (λ x y. Brought slots a.span.east x (Some y) a.to (seen rs) (seen rs₁)) F-is E-is c.bring.ensures in
    record {
      indexed = first.indexed;
      rotation = rotation₁ rs p.core a.edge a.east a.at a.to p.cuts p.room a.span.west a.span.east rs₁ first;
      here = ap (turn_of (seen rs₁)).held E-is ∙ held₁ rs p.core a.edge a.east a.at a.to p.cuts p.room a.span.west a.span.east rs₁ first;
    }

pub bring-requires-2 : goal.bring-requires-2
bring-requires-2 c =
    let rs = c.args.rows.now.at.now in
    let rs₁ = c.bring.new.rows in
    let rs₂ = c.unhook.new.rows in
    let a = c.args in
    let p = c.requires in
    let E-is = minus_name a.edge (held_small _ p.core.sound.0 a.edge p.cuts.here) in
    let F-is = minus_name a.east (small _ p.cuts.high) in
    let first : Brought slots a.span.east (neg_ℤ (pos a.east)) (Some (neg_ℤ (pos a.edge))) a.to (seen rs) (seen rs₁) = subst₂ (λ x y. Brought slots a.span.east x (Some y) a.to (seen rs) (seen rs₁)) F-is E-is c.bring.ensures in
    let second : seen rs₂ ≡ unhooked (neg_ℤ (pos a.edge)) (seen rs₁) = c.unhook.ensures ∙ ap (λ z. unhooked z (seen rs₁)) E-is in
    record {
      long = omega arith;
      indexed = indexed₂ rs p.core a.edge a.east a.at a.to p.cuts p.room a.span.west a.span.east rs₁ first rs₂ second;
      rotation = rotation₂ rs p.core a.edge a.east a.at a.to p.cuts p.room a.span.west a.span.east rs₁ first rs₂ second;
      room = room₂ rs p.core a.edge a.east a.at a.to p.cuts p.room a.span.west a.span.east rs₁ first rs₂ second;
      fresh = subst (Fresh max_edge (turn_of (seen rs₂))) (sym E-is) (fresh₂ rs p.core a.edge a.east a.at a.to p.cuts p.room a.span.west a.span.east rs₁ first rs₂ second);
      corner = tt;
    }

pub bring-requires-3 : goal.bring-requires-3
bring-requires-3 c =
    let rs = c.args.rows.now.at.now in
    let rs₁ = c.bring.new.rows in
    let rs₂ = c.unhook.new.rows in
    let rs₃ = c.bring-2.new.rows in
    let a = c.args in
    let p = c.requires in
    let E-is = minus_name a.edge (held_small _ p.core.sound.0 a.edge p.cuts.here) in
    let F-is = minus_name a.east (small _ p.cuts.high) in
    let first : Brought slots a.span.east (neg_ℤ (pos a.east)) (Some (neg_ℤ (pos a.edge))) a.to (seen rs) (seen rs₁) = subst₂ (λ x y. Brought slots a.span.east x (Some y) a.to (seen rs) (seen rs₁)) F-is E-is c.bring.ensures in
    let second : seen rs₂ ≡ unhooked (neg_ℤ (pos a.edge)) (seen rs₁) = c.unhook.ensures ∙ ap (λ z. unhooked z (seen rs₁)) E-is in
    let third : Brought slots a.span.west (neg_ℤ (pos a.edge)) None a.at (seen rs₂) (seen rs₃) = subst (λ x. Brought slots a.span.west x None a.at (seen rs₂) (seen rs₃)) E-is c.bring-2.ensures in
    record {
      long = omega arith;
      indexed = third.indexed;
      rotation = rotation₃ rs p.core a.edge a.east a.at a.to p.cuts p.room a.span.west a.span.east rs₁ first rs₂ second rs₃ third;
      room = room₃ rs p.core a.edge a.east a.at a.to p.cuts p.room a.span.west a.span.east rs₁ first rs₂ second rs₃ third;
      fresh = subst (Fresh max_edge (turn_of (seen rs₃))) (sym (plus_name a.east (small _ p.cuts.high))) (fresh₃ rs p.core a.edge a.east a.at a.to p.cuts p.room a.span.west a.span.east rs₁ first rs₂ second rs₃ third);
      corner = ap (turn_of (seen rs₃)).held E-is ∙ held₃ rs p.core a.edge a.east a.at a.to p.cuts p.room a.span.west a.span.east rs₁ first rs₂ second rs₃ third;
    }

pub returns : goal.returns
returns c =
    let rs = c.args.rows.now.at.now in
    let rs₁ = c.bring.new.rows in
    let rs₂ = c.unhook.new.rows in
    let rs₃ = c.bring-2.new.rows in
    let rs₄ = c.bring-3.new.rows in
    let a = c.args in
    let p = c.requires in
    let E-is = minus_name a.edge (held_small _ p.core.sound.0 a.edge p.cuts.here) in
    let F-is = minus_name a.east (small _ p.cuts.high) in
    let first : Brought slots a.span.east (neg_ℤ (pos a.east)) (Some (neg_ℤ (pos a.edge))) a.to (seen rs) (seen rs₁) = subst₂ (λ x y. Brought slots a.span.east x (Some y) a.to (seen rs) (seen rs₁)) F-is E-is c.bring.ensures in
    let second : seen rs₂ ≡ unhooked (neg_ℤ (pos a.edge)) (seen rs₁) = c.unhook.ensures ∙ ap (λ z. unhooked z (seen rs₁)) E-is in
    let third : Brought slots a.span.west (neg_ℤ (pos a.edge)) None a.at (seen rs₂) (seen rs₃) = subst (λ x. Brought slots a.span.west x None a.at (seen rs₂) (seen rs₃)) E-is c.bring-2.ensures in
    let fourth : Brought slots a.span.west (pos a.east) (Some (neg_ℤ (pos a.edge))) a.at (seen rs₃) (seen rs₄) = subst₂ (λ x y. Brought slots a.span.west x (Some y) a.at (seen rs₃) (seen rs₄)) (plus_name a.east (small _ p.cuts.high)) E-is c.bring-3.ensures in
    let long : slots ≤ length rs₄ = omega arith in
    record {
      lines = cleave_lines rs p.core a.edge a.east a.at a.to p.cuts p.room a.span.west a.span.east rs₁ first rs₂ second rs₃ third rs₄ long fourth;
      core = cleave_core rs p.core a.edge a.east a.at a.to p.cuts p.room a.span.west a.span.east rs₁ first rs₂ second rs₃ third rs₄ long fourth;
      used = cleave_used rs p.core a.edge a.east a.at a.to p.cuts p.room a.span.west a.span.east rs₁ first rs₂ second rs₃ third rs₄ long fourth;
      strips = cleave_strips rs p.core a.edge a.east a.at a.to p.cuts p.room a.span.west a.span.east rs₁ first rs₂ second rs₃ third rs₄ long fourth;
      counted = cleave_counted rs p.core a.edge a.east a.at a.to p.cuts p.room a.span.west a.span.east rs₁ first rs₂ second rs₃ third rs₄ long fourth;
      unlinked = cleave_unlinked rs p.core a.edge a.east a.at a.to p.cuts p.room a.span.west a.span.east rs₁ first rs₂ second rs₃ third rs₄ long fourth;
    }
