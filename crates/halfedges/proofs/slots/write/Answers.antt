use Rattle.std.proofs.Common.{◌≡◌, suc, ◌-◌, ◌<◌, length, get_or, refl, ap, ◌∙◌, arith, w16, w32, SFits, rules}
use Rattle.std.proofs.lemmas.Int.{to_z-of_z}
use Rattle.turning.specs.Limits.{max_edge, slots}
use Rattle.halfedges.specs.View.{none, bare, seen, written}
use Rattle.halfedges.proofs.Views.{write_view}
use Rattle.halfedges.proofs.slots.write.Goals as goal

pub returns : goal.returns
returns c =
    let rs = c.args.rows.now in
    let s = c.args.s in
    let r = c.args.r in
    let l : s - 1 < length rs = omega arith in
    let e : suc (s - 1) ≡ s = omega arith in
    let fn : SFits w16 r.name = search rules in
    let ff : SFits w16 r.follower = search rules in
    let fp : SFits w16 r.predecessor = search rules in
    let fx : SFits w32 r.x = search rules in
    let fy : SFits w32 r.y = search rules in
    simp to_z-of_z (write_view max_edge slots rs (s - 1) (record { strip = r.strip; name = r.name; follower = r.follower; predecessor = r.predecessor; x = r.x; y = r.y; index = (get_or rs (s - 1) none).index }) l refl ∙ ap (λ i. written i (bare r) (seen rs)) e)
