-- A name that stands in a strip stands in all strips from there to its home. Assumes nothing.
use Rattle.std.proofs.Common.{◌≡◌, ℕ, zero, suc, ◌-◌, ◌<◌, Bool, true, false, ◌||◌, ltb, ◌⊎◌, List, ℤ, pos, negsuc, Some, sym, refl, subst, inl, inr, ⊎_elim, arith}
use Rattle.std.proofs.lemmas.Bool.{cases_Bool, cases_lt, and_parts, ltb-true}
use Rattle.flat.specs.Whole.{equal}
use Rattle.file.specs.Layout.{strips, strip}
use Rattle.file.specs.Lines.{Slot, home_slot}
use Rattle.file.specs.Strips.{Strip, home, names}
use Rattle.file.specs.Questions.{beyond, runs_on}
use Rattle.file.proofs.Places.{any_where, bool_apart}
use Rattle.told.specs.Passed.{Passed}
use Rattle.told.proofs.Statements.{Toward, RunsHome}
use Rattle.told.proofs.Homes.{equal_true, home_is}

-- the name z stands in strip j
abbrev pub Has : (ℕ → Strip) → ℕ → ℤ → Type 0
Has strip j z = names (strip j) (strip j).slots z ≡ true

-- strip k is the neighbour of strip j on the side that z comes from
abbrev Next : ℤ → ℕ → ℕ → Type 0
Next (pos e) j k = j ≡ suc k
Next (negsuc e) j k = k ≡ suc j

-- how many of n strips lie on that side of strip j
abbrev left : ℕ → ℤ → ℕ → ℕ
left n (pos e) j = j
left n (negsuc e) j = n - suc j

-- the home of z is found from strip j, and all strips up to it have z
pub record Chain (n : ℕ) (strip : ℕ → Strip) (z : ℤ) (j : ℕ) : Type 0 where
  pub end : Slot
  pub found : home_slot n strip z ≡ Some end
  pub toward : Toward z end.strip j
  pub along : (k : ℕ) → Toward z end.strip k → Toward z k j → Has strip k z

-- ---- one side or the other
toward_same : (z : ℤ) (j : ℕ) → Toward z j j
toward_same (pos e) j = omega arith
toward_same (negsuc e) j = omega arith

toward_both : (z : ℤ) (j k : ℕ) → Toward z j k → Toward z k j → j ≡ k
toward_both (pos e) j k p q = omega arith
toward_both (negsuc e) j k p q = omega arith

toward_next : (z : ℤ) (a j k : ℕ) → Next z j k → Toward z a k → Toward z a j
toward_next (pos e) a j k s t = omega arith
toward_next (negsuc e) a j k s t = omega arith

here_or_next : (z : ℤ) (m j k : ℕ) → Next z j k → Toward z m j → (m ≡ j) ⊎ Toward z m k
here_or_next (pos e) m j k s t = ⊎_elim (λ l. inr (omega arith)) (λ l. inl (omega arith)) (cases_lt m j)
here_or_next (negsuc e) m j k s t = ⊎_elim (λ l. inr (omega arith)) (λ l. inl (omega arith)) (cases_lt j m)

left_next : (n : ℕ) (z : ℤ) (j k : ℕ) → k < n → Next z j k → left n z k < left n z j
left_next n (pos e) j k h s = omega arith
left_next n (negsuc e) j k h s = omega arith

neighbour : (n : ℕ) (strip : ℕ → Strip) (z : ℤ) (j : ℕ) → j < n → beyond n strip j z ≡ true → (k : ℕ) × (k < n) × Next z j k × Has strip k z
neighbour n strip (pos e) zero h b = absurd (bool_apart false b refl)
neighbour n strip (pos e) (suc j) h b = (j, omega arith, refl, b)
neighbour n strip (negsuc e) j h b = let p = and_parts (ltb (suc j) n) (names (strip (suc j)) (strip (suc j)).slots (negsuc e)) b in (suc j, ltb-true (suc j) n p.0, refl, p.1)

second : (a b : Bool) → a ≡ false → (a || b) ≡ true → b ≡ true
second a b e t = grind arith

-- ---- from strip to strip
module _ (n : ℕ) (strip : ℕ → Strip)
    (homed : (j i : ℕ) → j < n → i < (strip j).slots → home (strip j) i ≡ true → home_slot n strip ((strip j).name i) ≡ Some (record { strip = j; slot = i }))
    (runs : (j : ℕ) → j < n → (i : ℕ) → i < (strip j).slots → runs_on n strip j i ≡ true) where
  chain_in : (d : ℕ) (z : ℤ) (j : ℕ) → j < n → left n z j < d → Has strip j z → Chain n strip z j
  chain_in zero z j h l s = absurd (omega arith)
  chain_in (suc d) z j h l s = from (any_where (λ i. equal ((strip j).name i) z) (strip j).slots s) (chain_in d z)
    where
      longer : (k : ℕ) → Next z j k → Chain n strip z k → Chain n strip z j
      longer k next c = record {
        end = c.end;
        found = c.found;
        toward = toward_next z c.end.strip j k next c.toward;
        along = λ m p q. ⊎_elim (λ e. subst (λ i. Has strip i z) (sym e) s) (λ t. c.along m p t) (here_or_next z m j k next q);
      }

      from : (i : ℕ) × (i < (strip j).slots) × (equal ((strip j).name i) z ≡ true) → ((k : ℕ) → k < n → left n z k < d → Has strip k z → Chain n strip z k) → Chain n strip z j
      from (i, g, q) rec = ⊎_elim at on (cases_Bool (home (strip j) i))
        where
          e : (strip j).name i ≡ z
          e = equal_true ((strip j).name i) z q

          at : home (strip j) i ≡ true → Chain n strip z j
          at t = record {
            end = record { strip = j; slot = i };
            found = subst (λ y. home_slot n strip y ≡ Some (record { strip = j; slot = i })) e (homed j i h g t);
            toward = toward_same z j;
            along = λ k p q. subst (λ m. Has strip m z) (toward_both z j k p q) s;
          }

          on : home (strip j) i ≡ false → Chain n strip z j
          on f =
              let b = second (home (strip j) i) (beyond n strip j ((strip j).name i)) f (runs j h i g) in
              let r = neighbour n strip z j h (subst (λ y. beyond n strip j y ≡ true) e b) in
              let less : left n z r.0 < left n z j = left_next n z j r.0 r.1 r.2 in
              longer r.0 r.2 (rec r.0 r.1 (omega arith) r.3)

  pub chain : (z : ℤ) (j : ℕ) → j < n → Has strip j z → Chain n strip z j
  chain z j h s = chain_in (suc (left n z j)) z j h (omega arith) s

pub runs_home : (b : List ℕ) → Passed b → RunsHome b
runs_home b p j h z s = let c = chain (strips b) (strip b) (home_is b p) p.runs_on z j h s in (c.end, c.found, c.toward)
