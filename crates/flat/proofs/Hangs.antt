-- A new edge between any two ends: the law, the counts, and what the counts say of flat.
-- Assumes nothing.
use Rattle.std.proofs.Common.{◌≡◌, Bool, T, ◌⊎◌, ◌↔◌, refl, inl, inr, arith}
use mathlib.Core.Option.{Option, none, some}
use Rattle.flat.specs.Turnings.{Turning, Lawful, Free, SameLoop, SamePiece, Flat, started, hung, Corner, Fits, HangChanges}
use Rattle.flat.proofs.Turns.{loop?, piece?, splice_lawful}
use Rattle.flat.proofs.Beside.{started_lawful}
use Rattle.flat.proofs.Flats.{piece_back, loop_back, started_counts, put_counts, sprouted_lawful, sprouted_counts, joined_lawful, joined_counts}

-- what the counts say of flat
module _ {A : Type 0} (same : A → A → Bool) (same_is : (x y : A) → T (same x y) ↔ (x ≡ y)) (neg : A → A) (t t' : Turning A) (law : Lawful neg t) where
  -- the two ends in the other order
  pub hang_turned : (c d : Option A) → Corner neg same t c → Corner neg same t d → HangChanges neg same t t' c d → HangChanges neg same t t' d c
  hang_turned none none cm dm k = k
  hang_turned (some c) none cm dm k = k
  hang_turned none (some d) cm dm k = k
  hang_turned (some c) (some d) cm dm k = (
    k.0,
    k.1,
    (λ p. k.2 (λ q. p (piece_back same same_is neg t law cm q))),
    (λ l. k.3 (loop_back same same_is neg t law dm l)),
    λ p l. k.4 (piece_back same same_is neg t law dm p) (λ q. l (loop_back same same_is neg t law cm q)),
  )

  pub hang_flat : (c d : Option A) → Corner neg same t c → HangChanges neg same t t' c d → Flat neg same t → Flat neg same t' ↔ Fits neg same t c d
  hang_flat none none cm k h = ((λ _. tt), λ _. omega arith)
  hang_flat (some c) none cm k h = ((λ _. tt), λ _. omega arith)
  hang_flat none (some d) cm k h = ((λ _. tt), λ _. omega arith)
  hang_flat (some c) (some d) cm k h = (only, kept)
    where
      kept : SameLoop neg t c d ⊎ (¬ SamePiece neg t c d) → Flat neg same t'
      kept (inl l) = let m = k.3 l in omega arith
      kept (inr p) = let m = k.2 p in omega arith

      only : Flat neg same t' → SameLoop neg t c d ⊎ (¬ SamePiece neg t c d)
      only h' = go (loop? same same_is neg t law c d cm) (piece? same same_is neg t law c d cm)
        where
          go : SameLoop neg t c d ⊎ (¬ SameLoop neg t c d) → SamePiece neg t c d ⊎ (¬ SamePiece neg t c d) → SameLoop neg t c d ⊎ (¬ SamePiece neg t c d)
          go (inl l) _ = inl l
          go (inr l) (inr p) = inr p
          go (inr l) (inl p) = let m = k.4 p l in absurd (omega arith)

module _ {A : Type 0} (same : A → A → Bool) (same_is : (x y : A) → T (same x y) ↔ (x ≡ y)) (neg : A → A)
    (t : Turning A) (law : Lawful neg t) (e : A) (free : Free neg same e t) where
  abbrev n : A
  n = neg e

  abbrev s : Turning A
  s = started neg same e t

  sl : Lawful neg s
  sl = started_lawful same same_is neg t law e free

  pub hang_lawful : (c d : Option A) → Corner neg same t c → Corner neg same t d → Lawful neg (hung neg same e c d t)
  hang_lawful none none cm dm = sl
  hang_lawful (some c) none cm dm = sprouted_lawful same same_is neg t law e free c cm
  hang_lawful none (some d) cm dm = splice_lawful same same_is neg s sl d n (inr (inr dm)) (inr (inl refl))
  hang_lawful (some c) (some d) cm dm = joined_lawful same same_is neg t law e free c cm d dm

  pub hang_counts : (c d : Option A) → Corner neg same t c → Corner neg same t d → HangChanges neg same t (hung neg same e c d t) c d
  hang_counts none none cm dm = started_counts same same_is neg t law e free
  hang_counts (some c) none cm dm = sprouted_counts same same_is neg t law e free c cm
  hang_counts none (some d) cm dm = put_counts same same_is neg t law e free d dm n (inr (inl refl)) (inr refl)
  hang_counts (some c) (some d) cm dm = joined_counts same same_is neg t law e free c cm d dm
