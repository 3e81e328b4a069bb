-- An edge split at an inner point: the law, the counts, and that flat stays flat.
-- Assumes nothing.
use Rattle.std.proofs.Common.{◌≡◌, ◌+◌, Bool, T, ◌↔◌, sym, refl, ap, ◌∙◌, subst, inl, inr, arith}
use Rattle.flat.specs.Orbits.{◌∈◌}
use Rattle.flat.specs.Turnings.{Turning, Lawful, Free, SameRound, SameLoop, SamePiece, rounds, loops, pieces, edges, Counts, Flat, splice, Effect, isolated, started, cleft}
use Rattle.flat.proofs.Walks.{follow, one}
use Rattle.flat.proofs.Splice.{swapped_a}
use Rattle.flat.proofs.Turns.{splice_lawful, loop_piece}
use Rattle.flat.proofs.Euler.{alone, isolated_rounds, isolated_effect}
use Rattle.flat.proofs.Beside.{rest_n, started_lawful}
use Rattle.flat.proofs.Flats.{isolate_lawful, isolate_fixed, piece_back, loop_back, splice_rounds, splice_effect, put_counts}

module _ {A : Type 0} (same : A → A → Bool) (same_is : (x y : A) → T (same x y) ↔ (x ≡ y)) (neg : A → A) where
  module _ (t : Turning A) (law : Lawful neg t) (e : A) (em : e ∈ t.held) (f : A) (free : Free neg same f t) where
    abbrev n : A
    n = neg e

    abbrev m : A
    m = neg f

    abbrev s : Turning A
    s = started neg same f t

    abbrev s₂ : Turning A
    s₂ = splice neg same n m s

    abbrev s₃ : Turning A
    s₃ = isolated neg same n s₂

    nm : n ∈ t.held
    nm = law.paired e em

    ns : n ∈ s.held
    ns = inr (inr nm)

    ms : m ∈ s.held
    ms = inr (inl refl)

    fs : f ∈ s.held
    fs = inl refl

    l₁ : Lawful neg s
    l₁ = started_lawful same same_is neg t law f free

    l₂ : Lawful neg s₂
    l₂ = splice_lawful same same_is neg s l₁ n m ns ms

    l₃ : Lawful neg s₃
    l₃ = isolate_lawful same same_is neg s₂ l₂ n ns

    apart : ¬ SameRound neg s₃ n f
    apart p = free.unheld (subst (λ w. w ∈ t.held) (sym (alone s₃.follower n (isolate_fixed same same_is neg s₂ l₂ n ns) refl p)) nm)

    next_n : s₂.follower n ≡ m
    next_n = ap s.follower (swapped_a same same_is n m) ∙ rest_n same same_is neg t law f free t.follower

    moved : ¬ (s₂.follower n ≡ n)
    moved q = free.unheld_neg (subst (λ w. w ∈ t.held) (sym q ∙ next_n) nm)

    abbrev a : A
    a = s₂.predecessor n

    am : a ∈ s.held
    am = l₂.behind n ns

    next_a : s₃.follower a ≡ m
    next_a = ap s₂.follower (swapped_a same same_is a n) ∙ next_n

    to_a : SameLoop neg s₃ f a
    to_a = one (inl (sym (ap s₃.predecessor (sym next_a) ∙ l₃.undone a am)))

    pub cleft_lawful : Lawful neg (cleft neg same e f t)
    cleft_lawful = splice_lawful same same_is neg s₃ l₃ n f ns fs

    abbrev s₄ : Turning A
    s₄ = cleft neg same e f t

    loop_f : SameLoop neg s₃ n f → SameLoop neg s₃ a n
    loop_f p = loop_back same same_is neg s₃ l₃ ns (follow p to_a)

    f_loop : SameLoop neg s₃ a n → SameLoop neg s₃ n f
    f_loop p = loop_back same same_is neg s₃ l₃ fs (follow to_a p)

    piece_f : SamePiece neg s₃ n f → SamePiece neg s₃ a n
    piece_f p = piece_back same same_is neg s₃ l₃ ns (follow p (loop_piece same same_is neg s₃ l₃ fs to_a))

    f_piece : SamePiece neg s₃ a n → SamePiece neg s₃ n f
    f_piece p = piece_back same same_is neg s₃ l₃ fs (follow (loop_piece same same_is neg s₃ l₃ fs to_a) p)

    -- s₂ and s₄ both come from s₃, where neg e is alone, by a splice of neg e with a name of one and the same loop, a or f: so their counts are the same
    kept : Counts neg same s₄ (rounds neg same s₂) (loops neg same s₂) (edges neg same s₂) (pieces neg same s₂)
    kept = go (isolated_effect same same_is neg s₂ l₂ n ns moved) (splice_effect same same_is neg s₃ l₃ n f ns fs apart)
      where
        turned : rounds neg same s₄ ≡ rounds neg same s₂
        turned = omega (arith, isolated_rounds same same_is neg s₂ l₂ n ns moved, splice_rounds same same_is neg s₃ l₃ n f ns fs apart)

        go : Effect neg same s₃ s₂ a n → Effect neg same s₃ s₄ n f → Counts neg same s₄ (rounds neg same s₂) (loops neg same s₂) (edges neg same s₂) (pieces neg same s₂)
        go (inl x) (inl y) = (turned, omega arith, refl, omega arith)
        go (inl x) (inr (inl y)) = absurd (x.0 (piece_f y.0))
        go (inl x) (inr (inr y)) = absurd (x.0 (loop_piece same same_is neg s₃ l₃ am (loop_f y.0)))
        go (inr (inl x)) (inl y) = absurd (y.0 (f_piece x.0))
        go (inr (inl x)) (inr (inl y)) = (turned, omega arith, refl, omega arith)
        go (inr (inl x)) (inr (inr y)) = absurd (x.1 (loop_f y.0))
        go (inr (inr x)) (inl y) = absurd (y.0 (f_piece (loop_piece same same_is neg s₃ l₃ am x.0)))
        go (inr (inr x)) (inr (inl y)) = absurd (y.1 (f_loop x.0))
        go (inr (inr x)) (inr (inr y)) = (turned, omega arith, refl, omega arith)

    pub cleft_counts : Counts neg same s₄ (rounds neg same t + 1) (loops neg same t) (edges neg same t + 1) (pieces neg same t)
    cleft_counts = let p = put_counts same same_is neg t law f free n nm m ms (inr refl) in (kept.0 ∙ p.0, kept.1 ∙ p.1, kept.2 ∙ p.2, kept.3 ∙ p.3)

    pub cleft_flat : Flat neg same t → Flat neg same s₄
    cleft_flat h = let k = cleft_counts in omega arith
