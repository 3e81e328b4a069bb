use Rattle.std.proofs.Common.{◌≡◌, ◌-◌, true, List, [], get_or, set, ℤ, sym, ap, ◌∙◌, subst, ap₂, w16, w32, SFits, to_z, of_z, rules}
use Rattle.std.proofs.lemmas.Int.{to_z-of_z}
use Rattle.turning.specs.Limits.{max_edge, slots}
use Rattle.laws.specs.Rotations.{Rotation}
use Rattle.halfedges.specs.declared.halfedge.Halfedge.{Halfedge}
use Rattle.halfedges.specs.View.{none, seen, led, trailed, row_of, with_follower, with_predecessor}
use Rattle.halfedges.specs.Rows.{turn_of, Indexed, CornerHeld, settled, hooked}
use Rattle.halfedges.proofs.Meaning.{held_led, held_trailed, written_indexed}
use Rattle.halfedges.proofs.links.hook.Goals as goal

-- the corner g gets the follower k
module _ (rs : List Halfedge) (x : Indexed slots (seen rs)) (w : Rotation max_edge (turn_of (seen rs))) (g k : ℤ) (here : (turn_of (seen rs)).held g ≡ true) (g' k' a' : ℤ) (e : g' ≡ g) (d : k' ≡ k) (a : a' ≡ (row_of (seen rs) g).follower) (q : Halfedge) (q-is : q ≡ get_or rs ((seen rs).entry g' - 1) none) where
  abbrev rs₁ : List Halfedge
  rs₁ = set rs ((seen rs).entry g' - 1) (with_follower k' q)

  first : seen rs₁ ≡ led g k (seen rs)
  first = held_led rs x g' (ap (turn_of (seen rs)).held e ∙ here) k' q q-is ∙ ap₂ (λ y z. led y z (seen rs)) e d

  indexed₁ : Indexed slots (seen rs₁)
  indexed₁ = subst (Indexed slots) (sym first) (written_indexed slots (seen rs) x g here (with_follower k (row_of (seen rs) g)) (x.named g here))

  here₁ : (turn_of (seen rs₁)).held a' ≡ true
  here₁ = ap (λ u. (turn_of u).held a') first ∙ ap (turn_of (seen rs)).held a ∙ w.ahead g here

  -- and what led on from there the predecessor k
  second : (q₁ : Halfedge) → q₁ ≡ get_or rs₁ ((seen rs₁).entry a' - 1) none → seen (set rs₁ ((seen rs₁).entry a' - 1) (with_predecessor k' q₁)) ≡ trailed (row_of (seen rs) g).follower k (led g k (seen rs))
  second q₁ f = held_trailed rs₁ indexed₁ a' here₁ k' q₁ f ∙ (λ i. trailed (a i) (d i) (first i))

pub held_row-requires-in-Some : goal.held_row-requires-in-Some
held_row-requires-in-Some c =
    let rs = c.args.rows.now in
    let v = seen rs in
    let g = c.in-Some.c in
    let p = c.requires in
    let r = c.read-after.result in
    let fg : SFits w16 g = search rules in
    let ff : SFits w16 r.follower = search rules in
    let e = to_z-of_z w16 g fg in
    let corner : (turn_of v).held g ≡ true = subst (CornerHeld v) c.in-Some.is p.corner in
    let s : c.slot-i.result ≡ v.entry g = c.slot-i.ensures ∙ ap v.entry e in
    let a : to_z w16 (of_z w16 r.follower) ≡ (row_of v g).follower = to_z-of_z w16 _ ff ∙ ap (λ x. x.follower) c.read-after.ensures ∙ ap (λ i. (v.row i).follower) s in
    record {
      indexed = indexed₁ rs p.indexed p.rotation g c.args.k corner _ _ _ e (to_z-of_z w16 c.args.k c.ranges.k) a _ c.held_row.ensures.value;
      here = here₁ rs p.indexed p.rotation g c.args.k corner _ _ _ e (to_z-of_z w16 c.args.k c.ranges.k) a _ c.held_row.ensures.value;
    }

pub returns-in-Some : goal.returns-in-Some
returns-in-Some c =
    let rs = c.args.rows.now in
    let v = seen rs in
    let g = c.in-Some.c in
    let k = c.args.k in
    let p = c.requires in
    let r = c.read-after.result in
    let fg : SFits w16 g = search rules in
    let ff : SFits w16 r.follower = search rules in
    let fx : SFits w32 c.args.at.x = search rules in
    let fy : SFits w32 c.args.at.y = search rules in
    let e = to_z-of_z w16 g fg in
    let d = to_z-of_z w16 k c.ranges.k in
    let corner : (turn_of v).held g ≡ true = subst (CornerHeld v) c.in-Some.is p.corner in
    let s : c.slot-i.result ≡ v.entry g = c.slot-i.ensures ∙ ap v.entry e in
    let a : to_z w16 (of_z w16 r.follower) ≡ (row_of v g).follower = to_z-of_z w16 _ ff ∙ ap (λ x. x.follower) c.read-after.ensures ∙ ap (λ i. (v.row i).follower) s in
    let set₂ = second rs p.indexed p.rotation g k corner _ _ _ e d a _ c.held_row.ensures.value _ c.held_row-in-Some.ensures.value in
    let dx = to_z-of_z w32 c.args.at.x fx in
    let dy = to_z-of_z w32 c.args.at.y fy in
    let kk : to_z w16 (of_z w16 (to_z w16 (of_z w16 k))) ≡ k = ap (λ z. to_z w16 (of_z w16 z)) d ∙ d in
    let xx : to_z w32 (of_z w32 (to_z w32 (of_z w32 c.args.at.x))) ≡ c.args.at.x = ap (λ z. to_z w32 (of_z w32 z)) dx ∙ dx in
    let yy : to_z w32 (of_z w32 (to_z w32 (of_z w32 c.args.at.y))) ≡ c.args.at.y = ap (λ z. to_z w32 (of_z w32 z)) dy ∙ dy in
    c.settle-in-Some.ensures
    ∙ (λ i. settled c.args.s (kk i) (record { strip = c.args.strip; name = kk i; follower = a i; predecessor = e i; x = xx i; y = yy i; index = [] }) (set₂ i))
    ∙ ap (λ z. hooked c.args.s c.args.strip k z c.args.at v) (sym c.in-Some.is)
