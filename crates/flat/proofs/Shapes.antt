-- Where each name leads once an edge is hung, taken off or split: the changes told name by name are the changes made of splices.
-- Assumes nothing.
use Rattle.std.proofs.Common.{◌≡◌, Bool, cond, T, ◌↔◌, [], ◌∷◌, refl, ◌∙◌, subst, ap₂, inl, inr, arith}
use mathlib.Core.Option.{Option, none, some}
use Rattle.flat.specs.Orbits.{◌∈◌}
use Rattle.flat.specs.Turnings.{Turning, Lawful, Free, splice, isolated, started, joined, removed, cleft, hung, Corner, TwoCorners, skipping, after_hang, after_lift, after_cleave}
use Rattle.flat.proofs.Basics.{Told, tell}
use Rattle.flat.proofs.Flats.{isolate_lawful}
use Rattle.flat.proofs.Removes.{others_in}

module _ {A : Type 0} (same : A → A → Bool) (same_is : (x y : A) → T (same x y) ↔ (x ≡ y)) (neg : A → A) where
  tl : (x y : A) → Told same same_is x y
  tl = tell same same_is

  -- a held name is none of the names of a new edge
  old : (t : Turning A) (e : A) → Free neg same e t → (x : A) → x ∈ t.held → (¬ (x ≡ e)) × (¬ (x ≡ neg e))
  old t e free x m = ((λ q. free.unheld (subst (λ w. w ∈ t.held) q m)), λ q. free.unheld_neg (subst (λ w. w ∈ t.held) q m))

  -- ---- an edge hung
  module _ (t : Turning A) (e : A) (free : Free neg same e t) where
    abbrev n : A
    n = neg e

    pub hang_is : (c d : Option A) → Corner neg same t c → Corner neg same t d → TwoCorners neg same c d → (x : A)
        → (hung neg same e c d t).follower x ≡ after_hang neg same e c d t.follower x
    hang_is none none cm dm cd x = grind (arith, tl x e, tl x n, free.two)
    hang_is (some c) none cm dm cd x = grind (arith, tl x e, tl x n, tl x c, tl c e, tl c n, tl e e, tl e n, free.two, old t e free c cm)
    hang_is none (some d) cm dm cd x = grind (arith, tl x e, tl x n, tl x d, tl d e, tl d n, tl n n, tl n e, free.two, old t e free d dm)
    hang_is (some c) (some d) cm dm cd x =
        let oc = old t e free c cm in
        let od = old t e free d dm in
        grind (arith, tl x e, tl x n, tl x c, tl x d, tl c e, tl c n, tl d c, tl d e, tl d n, tl n c, tl n e, tl n n, tl e e, free.two, cd)

    pub join_is : (c d : A) → c ∈ t.held → d ∈ t.held → ¬ (c ≡ d)
        → ((joined neg same e c d t).follower c ≡ e) × ((joined neg same e c d t).follower e ≡ t.follower c)
        × ((joined neg same e c d t).follower d ≡ neg e) × ((joined neg same e c d t).follower (neg e) ≡ t.follower d)
        × ((x : A) → x ∈ t.held → ¬ (x ≡ c) → ¬ (x ≡ d) → (joined neg same e c d t).follower x ≡ t.follower x)
    join_is c d cm dm cd = (
      j c ∙ grind (arith, tl c e, tl c n, tl c c, oc),
      j e ∙ grind (arith, tl e e),
      j d ∙ grind (arith, tl d e, tl d n, tl d c, tl d d, od, cd),
      j n ∙ grind (arith, tl n e, tl n n, free.two),
      λ x m p q. let o = old t e free x m in j x ∙ grind (arith, tl x e, tl x n, tl x c, tl x d),
    )
      where
        j : (x : A) → (joined neg same e c d t).follower x ≡ after_hang neg same e (some c) (some d) t.follower x
        j = hang_is (some c) (some d) cm dm cd

        oc : (¬ (c ≡ e)) × (¬ (c ≡ n))
        oc = old t e free c cm

        od : (¬ (d ≡ e)) × (¬ (d ≡ n))
        od = old t e free d dm

  -- ---- an edge taken off
  -- where x leads once y is alone in its round
  isolate_is : (t : Turning A) → Lawful neg t → (y : A) → y ∈ t.held → (x : A) → x ∈ t.held → ¬ (x ≡ y)
      → (isolated neg same y t).follower x ≡ skipping neg same y t.follower x
  isolate_is t law y ym x xm d = grind (arith, tl x (t.predecessor y), tl x y, tl (t.follower x) y, law.undone x xm, law.redone y ym)

  pub remove_is : (t : Turning A) → Lawful neg t → (e : A) → e ∈ t.held → (x : A) → x ∈ (removed neg same e t).held
      → (removed neg same e t).follower x ≡ after_lift neg same e t.follower x
  remove_is t law e em x m =
      isolate_is (isolated neg same e t) (isolate_lawful same same_is neg t law e em) (neg e) (law.paired e em) x o.0 (λ q. o.1 (inr (inl q)))
      ∙ ap₂ (λ p q. cond (same p (neg e)) q p) (isolate_is t law e em x o.0 (λ q. o.1 (inl q))) (isolate_is t law e em (neg e) (law.paired e em) (law.proper e em))
    where
      o : (x ∈ t.held) × (¬ (x ∈ e ∷ neg e ∷ []))
      o = others_in same same_is neg e t.held x m

  -- ---- an edge split
  module _ (t : Turning A) (law : Lawful neg t) (e : A) (em : e ∈ t.held) (k : A) (free : Free neg same k t) where
    abbrev E : A
    E = neg e

    abbrev K : A
    K = neg k

    abbrev f : A → A
    f = t.follower

    abbrev g : A → A
    g = t.predecessor

    Em : E ∈ t.held
    Em = law.paired e em

    -- the name before E once K is put after it
    abbrev a : A
    a = (splice neg same E K (started neg same k t)).predecessor E

    -- what is known of E, of the name before it, and of the new names
    facts : (¬ (E ≡ k)) × (¬ (E ≡ K)) × (¬ (g E ≡ k)) × (¬ (g E ≡ K)) × (f (g E) ≡ E) × (g (f E) ≡ E) × (¬ (K ≡ k))
    facts =
        let o = old t k free E Em in
        let p = old t k free (g E) (law.behind E Em) in
        (o.0, o.1, p.0, p.1, law.redone E Em, law.undone E Em, free.two)

    a_is : a ≡ cond (same (g E) E) K (g E)
    a_is = grind (arith, tl E k, tl E K, tl (g E) E, tl (g E) K, facts)

    pub cleave_is : (x : A) → x ∈ k ∷ neg k ∷ t.held → (cleft neg same e k t).follower x ≡ after_cleave neg same e k t.follower x
    cleave_is x (inl q) = grind (arith, a_is, facts, tl x E, tl x k, tl E a, tl E E, tl a E, tl a K, tl a k, tl (g E) E, tl E k, tl E K, tl K E)
    cleave_is x (inr (inl q)) =
        grind (arith, a_is, facts, tl x E, tl x k, tl x K, tl K a, tl K E, tl E E, tl E k, tl E K, tl a E, tl a K, tl a k, tl (g E) E, tl (f E) E)
    cleave_is x (inr (inr m)) =
        let o = old t k free x m in
        grind (arith, a_is, facts, tl x E, tl x k, tl x K, tl x a, tl k a, tl k E, tl k K, tl k k, tl E E, tl E k, tl E K, tl K K, tl (g E) E, tl (f x) E, law.undone x m)

    -- the same, part by part
    pub cleave_parts : ((cleft neg same e k t).follower (neg e) ≡ k) × ((cleft neg same e k t).follower k ≡ neg e)
        × (t.follower (neg e) ≡ neg e → (cleft neg same e k t).follower (neg k) ≡ neg k)
        × (¬ (t.follower (neg e) ≡ neg e) → (cleft neg same e k t).follower (neg k) ≡ t.follower (neg e))
        × ((x : A) → x ∈ t.held → ¬ (x ≡ neg e) → t.follower x ≡ neg e → (cleft neg same e k t).follower x ≡ neg k)
        × ((x : A) → x ∈ t.held → ¬ (x ≡ neg e) → ¬ (t.follower x ≡ neg e) → (cleft neg same e k t).follower x ≡ t.follower x)
    cleave_parts = (
      cleave_is E (inr (inr Em)) ∙ grind (arith, tl E E),
      cleave_is k (inl refl) ∙ grind (arith, tl k E, tl k k, facts),
      (λ h. cleave_is K (inr (inl refl)) ∙ grind (arith, tl K E, tl K k, tl K K, tl (f E) E, facts)),
      (λ h. cleave_is K (inr (inl refl)) ∙ grind (arith, tl K E, tl K k, tl K K, tl (f E) E, facts)),
      (λ x m d h. let o = old t k free x m in cleave_is x (inr (inr m)) ∙ grind (arith, tl x E, tl x k, tl x K, tl (f x) E)),
      λ x m d h. let o = old t k free x m in cleave_is x (inr (inr m)) ∙ grind (arith, tl x E, tl x k, tl x K, tl (f x) E),
    )
