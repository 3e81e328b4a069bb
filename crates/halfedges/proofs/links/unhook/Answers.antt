use Rattle.std.proofs.Common.{◌≡◌, ◌-◌, true, List, get_or, set, ℤ, sym, ap, ◌∙◌, subst, ap₂, arith, w16, SFits, to_z, of_z, rules}
use Rattle.std.proofs.lemmas.Int.{ints, to_z-of_z}
use Rattle.std.proofs.lemmas.Bool.{leb-true}
use Rattle.turning.specs.Limits.{max_edge, slots}
use Rattle.laws.specs.Rotations.{Rotation}
use Rattle.halfedges.specs.declared.halfedge.Halfedge.{Halfedge}
use Rattle.halfedges.specs.View.{none, seen, written, noted, led, trailed, row_of, with_follower, with_predecessor}
use Rattle.halfedges.specs.Rows.{turn_of, Indexed}
use Rattle.halfedges.proofs.Views.{zero_row}
use Rattle.halfedges.proofs.Meaning.{held_slot, held_long, held_led, held_trailed, led_indexed, after_held}
use Rattle.halfedges.proofs.links.unhook.Goals as goal

-- the follower f' of the predecessor b' of h is set
module _ (rs : List Halfedge) (x : Indexed slots (seen rs)) (w : Rotation max_edge (turn_of (seen rs))) (h : ℤ) (here : (turn_of (seen rs)).held h ≡ true) (b' f' : ℤ) (b : b' ≡ (row_of (seen rs) h).predecessor) (f : f' ≡ (row_of (seen rs) h).follower) (q : Halfedge) (q-is : q ≡ get_or rs ((seen rs).entry b' - 1) none) where
  abbrev rs₁ : List Halfedge
  rs₁ = set rs ((seen rs).entry b' - 1) (with_follower f' q)

  first : seen rs₁ ≡ led (row_of (seen rs) h).predecessor (row_of (seen rs) h).follower (seen rs)
  first = held_led rs x b' (ap (turn_of (seen rs)).held b ∙ w.behind h here) f' q q-is ∙ ap₂ (λ y z. led y z (seen rs)) b f

  indexed₁ : Indexed slots (seen rs₁)
  indexed₁ = subst (Indexed slots) (sym first) (led_indexed slots (seen rs) x (zero_row max_edge slots rs) max_edge w h here)

  here₁ : (turn_of (seen rs₁)).held f' ≡ true
  here₁ = ap (λ u. (turn_of u).held f') first ∙ ap (turn_of (seen rs)).held f ∙ after_held slots (seen rs) x (zero_row max_edge slots rs) max_edge w h here

  -- and then the predecessor of the follower
  second : (q₁ : Halfedge) → q₁ ≡ get_or rs₁ ((seen rs₁).entry f' - 1) none → seen (set rs₁ ((seen rs₁).entry f' - 1) (with_predecessor b' q₁)) ≡ trailed (row_of (seen rs) h).follower (row_of (seen rs) h).predecessor (led (row_of (seen rs) h).predecessor (row_of (seen rs) h).follower (seen rs))
  second q₁ e = held_trailed rs₁ indexed₁ f' here₁ b' q₁ e ∙ (λ i. trailed (f i) (b i) (first i))

pub held_row-requires-2 : goal.held_row-requires-2
held_row-requires-2 c =
    let rs = c.args.rows.now in
    let h = c.args.h in
    let v = seen rs in
    let r = c.read-r.result in
    let p = c.requires in
    let s : c.slot-s.result ≡ v.entry h = c.slot-s.ensures ∙ ap v.entry (to_z-of_z w16 h c.ranges.h) in
    let f : SFits w16 r.follower = search rules in
    let b : SFits w16 r.predecessor = search rules in
    let af : to_z w16 (of_z w16 r.follower) ≡ (row_of v h).follower = to_z-of_z w16 _ f ∙ ap (λ x. x.follower) c.read-r.ensures ∙ ap (λ i. (v.row i).follower) s in
    let bf : to_z w16 (of_z w16 r.predecessor) ≡ (row_of v h).predecessor = to_z-of_z w16 _ b ∙ ap (λ x. x.predecessor) c.read-r.ensures ∙ ap (λ i. (v.row i).predecessor) s in
    record {
      indexed = indexed₁ rs p.indexed p.rotation h p.here _ _ bf af _ c.held_row.ensures.value;
      here = here₁ rs p.indexed p.rotation h p.here _ _ bf af _ c.held_row.ensures.value;
    }

pub write-requires : goal.write-requires
write-requires c =
    let rs = c.args.rows.now in
    let v = seen rs in
    let h = c.args.h in
    let s : c.slot-s.result ≡ v.entry h = c.slot-s.ensures ∙ ap v.entry (to_z-of_z w16 h c.ranges.h) in
    let l = held_slot v h c.requires.here in
    let u = leb-true (v.entry h) slots (c.requires.indexed.inside h) in
    let long = held_long max_edge slots rs h c.requires.here in
    record { long = search rules; low = omega arith; high = omega arith }

pub note-requires : goal.note-requires
note-requires c =
    let h = c.args.h in
    let b = to_z-of_z w16 h c.ranges.h in
    let l = c.requires.rotation.low h c.requires.here in
    let u = c.requires.rotation.high h c.requires.here in
    let long = held_long max_edge slots c.args.rows.now h c.requires.here in
    record { long = search rules; low = omega (arith, ints); high = omega (arith, ints) }

pub returns : goal.returns
returns c =
    let rs = c.args.rows.now in
    let h = c.args.h in
    let v = seen rs in
    let r = c.read-r.result in
    let p = c.requires in
    let s : c.slot-s.result ≡ v.entry h = c.slot-s.ensures ∙ ap v.entry (to_z-of_z w16 h c.ranges.h) in
    let f : SFits w16 r.follower = search rules in
    let b : SFits w16 r.predecessor = search rules in
    let af : to_z w16 (of_z w16 r.follower) ≡ (row_of v h).follower = to_z-of_z w16 _ f ∙ ap (λ x. x.follower) c.read-r.ensures ∙ ap (λ i. (v.row i).follower) s in
    let bf : to_z w16 (of_z w16 r.predecessor) ≡ (row_of v h).predecessor = to_z-of_z w16 _ b ∙ ap (λ x. x.predecessor) c.read-r.ensures ∙ ap (λ i. (v.row i).predecessor) s in
    let set₂ = second rs p.indexed p.rotation h p.here _ _ bf af _ c.held_row.ensures.value _ c.held_row-2.ensures.value in
    c.note.ensures ∙ ap (noted (to_z w16 (of_z w16 h)) 0) c.write.ensures ∙ (λ i. noted (to_z-of_z w16 h c.ranges.h i) 0 (written (s i) none (set₂ i)))
