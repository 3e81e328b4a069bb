-- What the changes do to the counts and to flat, for any turning that has the names and the followers that they are to give.
-- Assumes nothing.
use Rattle.std.proofs.Common.{◌≡◌, ◌+◌, Bool, T, ◌⊎◌, ◌↔◌, [], ◌∷◌, sym, refl, ◌∙◌, subst, inl, inr, arith}
use mathlib.Core.Option.{Option, none, some}
use Rattle.flat.specs.Orbits.{◌∈◌}
use Rattle.flat.specs.Turnings.{Turning, Lawful, Free, rounds, loops, pieces, edges, Flat, removed, cleft, hung, Corner, after_hang, after_lift, after_cleave, TwoCorners, Counts, HangChanges, With, Without, Leads}
use Rattle.flat.proofs.Alike.{alike_flat, alike_counts}
use Rattle.flat.proofs.Removes.{others_in, in_others, removed_lawful, removed_flat}
use Rattle.flat.proofs.Cleaves.{cleft_lawful, cleft_counts}
use Rattle.flat.proofs.Hangs.{hang_lawful, hang_counts}
use Rattle.flat.proofs.Shapes.{hang_is, remove_is, cleave_is}

-- counts that are the same change in the same way
changes_alike : {A : Type 0} (same : A → A → Bool) (neg : A → A) (t u t' : Turning A) → Counts neg same u (rounds neg same t') (loops neg same t') (edges neg same t') (pieces neg same t')
    → (c d : Option A) → HangChanges neg same t u c d → HangChanges neg same t t' c d
changes_alike same neg t u t' a none none k = (omega arith, omega arith, omega arith, omega arith)
changes_alike same neg t u t' a (some c) none k = (omega arith, omega arith, omega arith, omega arith)
changes_alike same neg t u t' a none (some d) k = (omega arith, omega arith, omega arith, omega arith)
changes_alike same neg t u t' a (some c) (some d) k = (
  omega arith,
  omega arith,
  (λ p. let m = k.2 p in (omega arith, omega arith)),
  (λ l. let m = k.3 l in (omega arith, omega arith)),
  λ p l. let m = k.4 p l in (omega arith, omega arith),
)

module _ {A : Type 0} (same : A → A → Bool) (same_is : (x y : A) → T (same x y) ↔ (x ≡ y)) (neg : A → A) where
  -- ---- an edge hung
  module _ (t : Turning A) (law : Lawful neg t) (e : A) (free : Free neg same e t) where
    names : (c d : Option A) → (hung neg same e c d t).held ≡ e ∷ neg e ∷ t.held
    names none none = refl
    names (some c) none = refl
    names none (some d) = refl
    names (some c) (some d) = refl

    module _ (t' : Turning A) (law' : Lawful neg t') (c d : Option A) (cm : Corner neg same t c) (dm : Corner neg same t d) (cd : TwoCorners neg same c d)
        (held : With neg same e t t') (leads : Leads neg same t' (after_hang neg same e c d t.follower)) where
      counts : Counts neg same (hung neg same e c d t) (rounds neg same t') (loops neg same t') (edges neg same t') (pieces neg same t')
      counts = alike_counts same same_is neg (hung neg same e c d t) t' (hang_lawful same same_is neg t law e free c d cm dm) law' from to
          (λ x m. hang_is same same_is neg t e free c d cm dm cd x ∙ sym (leads x (from x m)))
        where
          to : (x : A) → x ∈ t'.held → x ∈ (hung neg same e c d t).held
          to x m = subst (λ l. x ∈ l) (sym (names c d)) ((held x).0 m)

          from : (x : A) → x ∈ (hung neg same e c d t).held → x ∈ t'.held
          from x m = (held x).1 (subst (λ l. x ∈ l) (names c d) m)

      pub any_hang_counts : HangChanges neg same t t' c d
      any_hang_counts = changes_alike same neg t (hung neg same e c d t) t' counts c d (hang_counts same same_is neg t law e free c d cm dm)

  -- ---- an edge taken off
  pub any_lift : (t t' : Turning A) → Lawful neg t → Lawful neg t' → (e : A) → e ∈ t.held
      → Without neg same e t t' → Leads neg same t' (after_lift neg same e t.follower) → Flat neg same t → Flat neg same t'
  any_lift t t' law law' e em h f flat =
      alike_flat same same_is neg (removed neg same e t) t' (removed_lawful same same_is neg t law e em) law' from to
      (λ x m. remove_is same same_is neg t law e em x m ∙ sym (f x (from x m))) (removed_flat same same_is neg t law e em flat)
    where
      from : (x : A) → x ∈ (removed neg same e t).held → x ∈ t'.held
      from x m = let o : (x ∈ t.held) × (¬ (x ∈ e ∷ neg e ∷ [])) = others_in same same_is neg e t.held x m in
          (h x).1 (o.0, (λ q. o.1 (inl q)), λ q. o.1 (inr (inl q)))

      to : (x : A) → x ∈ t'.held → x ∈ (removed neg same e t).held
      to x m = in_others same same_is neg e t.held x ((h x).0 m).0 go
        where
          go : (x ≡ e) ⊎ ((x ≡ neg e) ⊎ ⊥) → ⊥
          go (inl q) = ((h x).0 m).1 q
          go (inr (inl q)) = ((h x).0 m).2 q
          go (inr (inr q)) = q

  -- ---- an edge split
  module _ (t : Turning A) (law : Lawful neg t) (e : A) (em : e ∈ t.held) (k : A) (free : Free neg same k t) where
    pub any_cleave_counts : (t' : Turning A) → Lawful neg t' → With neg same k t t' → Leads neg same t' (after_cleave neg same e k t.follower)
        → Counts neg same t' (rounds neg same t + 1) (loops neg same t) (edges neg same t + 1) (pieces neg same t)
    any_cleave_counts t' law' held leads =
        let a = alike_counts same same_is neg (cleft neg same e k t) t' (cleft_lawful same same_is neg t law e em k free) law'
        (λ x m. (held x).1 m) (λ x m. (held x).0 m) (λ x m. cleave_is same same_is neg t law e em k free x m ∙ sym (leads x ((held x).1 m))) in
        let b = cleft_counts same same_is neg t law e em k free in
        (sym a.0 ∙ b.0, sym a.1 ∙ b.1, sym a.2 ∙ b.2, sym a.3 ∙ b.3)
