-- Turnings of the same names, in any order, with the same followers have the same counts.
-- Assumes nothing.
use Rattle.std.proofs.Common.{◌≡◌, Bool, T, ◌↔◌, List, [], ◌∷◌, sym, refl, ap, ◌∙◌, arith}
use Rattle.flat.specs.Orbits.{◌∈◌, ends, orbits}
use Rattle.flat.specs.Turnings.{Turning, Lawful, next, rounds, loops, pieces, edges, Counts, Flat}
use Rattle.flat.proofs.Walks.{ends_same, one}
use Rattle.flat.proofs.Counts.{Fair}
use Rattle.flat.proofs.Splice.{perm_fair}
use Rattle.flat.proofs.Reps.{orbits_alike}
use Rattle.flat.proofs.Turns.{perm_follower, perm_next, perm_neg, fair_pieces}
use Rattle.flat.proofs.Euler.{stepwise}

module _ {A : Type 0} (same : A → A → Bool) (same_is : (x y : A) → T (same x y) ↔ (x ≡ y)) where
  module _ (neg : A → A) (t t' : Turning A) (law : Lawful neg t) (law' : Lawful neg t')
      (to : (x : A) → x ∈ t.held → x ∈ t'.held) (from : (x : A) → x ∈ t'.held → x ∈ t.held)
      (agree : (x : A) → x ∈ t.held → t.follower x ≡ t'.follower x) where
    agree_behind : (x : A) → x ∈ t.held → t.predecessor x ≡ t'.predecessor x
    agree_behind x m =
        sym (law'.undone (t.predecessor x) (to (t.predecessor x) (law.behind x m)))
        ∙ ap t'.predecessor (sym (agree (t.predecessor x) (law.behind x m)) ∙ law.redone x m)

    -- a step of one is a step of the other
    abbrev Steps : List (A → A) → List (A → A) → Type 0
    Steps ss ss' = (x y : A) → x ∈ t.held → (y ∈ ends ss x) ↔ (y ∈ ends ss' x)

    alike : (ss ss' : List (A → A)) → Fair same same_is ss t.held → Fair same same_is ss' t'.held → Steps ss ss'
        → orbits same ss t.held ≡ orbits same ss' t'.held
    alike ss ss' f f' h = orbits_alike same same_is ss ss' t.held t'.held f f' to from
        (λ x y m p. stepwise ss ss' t.held f.0 (λ x y m s. one ((h x y m).0 s)) m p)
        (λ x y m p. stepwise ss' ss t.held (λ x y m s. from y (f'.0 x y (to x m) s)) (λ x y m s. one ((h x y m).1 s)) m p)

    pub alike_rounds : rounds neg same t ≡ rounds neg same t'
    alike_rounds = alike (t.follower ∷ []) (t'.follower ∷ [])
        (perm_fair same same_is t.follower t.held (perm_follower same same_is neg t law))
        (perm_fair same same_is t'.follower t'.held (perm_follower same same_is neg t' law')) (λ x y m. ends_same t.follower t'.follower [] x (agree x m) y)

    pub alike_loops : loops neg same t ≡ loops neg same t'
    alike_loops = alike (next neg t ∷ []) (next neg t' ∷ [])
        (perm_fair same same_is (next neg t) t.held (perm_next same same_is neg t law))
        (perm_fair same same_is (next neg t') t'.held (perm_next same same_is neg t' law'))
        (λ x y m. ends_same (next neg t) (next neg t') [] x (agree_behind (neg x) (law.paired x m)) y)

    pub alike_edges : edges neg same t ≡ edges neg same t'
    alike_edges = alike (neg ∷ []) (neg ∷ [])
        (perm_fair same same_is neg t.held (perm_neg same same_is neg t law))
        (perm_fair same same_is neg t'.held (perm_neg same same_is neg t' law')) (λ x y m. ends_same neg neg [] x refl y)

    pub alike_pieces : pieces neg same t ≡ pieces neg same t'
    alike_pieces = alike (t.follower ∷ neg ∷ []) (t'.follower ∷ neg ∷ []) (fair_pieces same same_is neg t law) (fair_pieces same same_is neg t' law')
        (λ x y m. ends_same t.follower t'.follower (neg ∷ []) x (agree x m) y)

    pub alike_counts : Counts neg same t (rounds neg same t') (loops neg same t') (edges neg same t') (pieces neg same t')
    alike_counts = (alike_rounds, alike_loops, alike_edges, alike_pieces)

    pub alike_flat : Flat neg same t → Flat neg same t'
    alike_flat h = let k = alike_counts in omega arith
