-- The names of a strip, edge by edge, and which of them follow one another. Assumes nothing.
use Rattle.std.proofs.Common.{◌≡◌, ℕ, zero, suc, ◌+◌, ◌-◌, ◌*◌, ◌≤◌, Bool, true, false, cond, ◌&&◌, leb, List, [], ◌∷◌, ◌++◌, length, ℤ, pos, negsuc, neg_ℤ, sym, refl, ap, ◌∙◌, arith}
use Rattle.std.proofs.lemmas.List.{append_assoc, append-nil, length-append}
use Rattle.std.proofs.lemmas.Bool.{both_ways, and_parts, eqb-true}
use Rattle.flat.specs.Orbits.{◌∈◌, filter}
use Rattle.flat.proofs.Basics.{T_true}
use Rattle.flat.proofs.Trails.{filter_is}
use Rattle.turning.specs.Turn.{Lawful}
use Rattle.turning.specs.Counts.{names}
use Rattle.chart.specs.Linework.{Linework, Placed}
use Rattle.search.specs.Marks.{Within}
use Rattle.search.proofs.Marking.{held_within}
use Rattle.strips.specs.Borders.{strip_of, x_of, home_strip, first_strip, last_strip, runs_through}
use Rattle.writing.specs.Written.{names_in, starts_in}
use Rattle.writing.proofs.Listing.{filter_join}
use Rattle.writing.proofs.Slotting.{in_strip, runs_home}

-- two that pass or fail together
filter_two : {A : Type 0} (p : A → Bool) (x y : A) → p y ≡ p x → filter p (x ∷ (y ∷ [])) ≡ cond (p x) (x ∷ (y ∷ [])) []
filter_two p x y same = ap (λ b. cond (p x) (x ∷ cond b (y ∷ []) []) (cond b (y ∷ []) [])) same ∙ go (p x)
  where
    go : (b : Bool) → cond b (x ∷ cond b (y ∷ []) []) (cond b (y ∷ []) []) ≡ cond b (x ∷ (y ∷ [])) []
    go true = refl
    go false = refl

-- the names of the edges below e are in the list
pub record Collected (bs : List ℤ) (l : Linework) (i e : ℕ) (list : List ℤ) : Type 0 where
  pub named : list ≡ names_in (e - 1) bs l i
  pub few : length list + 2 ≤ 2 * e

pub collected_none : (bs : List ℤ) (l : Linework) (i : ℕ) (list : List ℤ) → list ≡ [] → Collected bs l i 1 list
unfolding names_in names
collected_none bs l i list none = let e = ap length none in record { named = none; few = omega arith }

module _ (n : ℕ) (bs : List ℤ) (l : Linework) (law : Lawful n l.turn) (i : ℕ) where
  held_both : (j : ℕ) → l.turn.held (negsuc j) ≡ l.turn.held (pos (suc j))
  held_both j = go (l.turn.held (pos (suc j))) refl (l.turn.held (negsuc j)) refl
    where
      go : (a : Bool) → l.turn.held (pos (suc j)) ≡ a → (b : Bool) → l.turn.held (negsuc j) ≡ b → b ≡ a
      go true p b q = sym q ∙ law.closed (pos (suc j)) p
      go false p true q = absurd (both_ways _ p (law.closed (negsuc j) q))
      go false p false q = refl

  -- both names of an edge run through the strip, or neither does
  runs_both : (j : ℕ) → runs_through bs l i (negsuc j) ≡ runs_through bs l i (pos (suc j))
  runs_both j = ap (λ b. b && leb (first_strip bs l (pos (suc j))) i && leb i (last_strip bs l (pos (suc j)))) (held_both j)

  names_more : (j : ℕ) → names_in (suc j) bs l i ≡ names_in j bs l i ++ cond (runs_through bs l i (pos (suc j))) (pos (suc j) ∷ (negsuc j ∷ [])) []
  unfolding names_in names
  names_more j =
      filter_join (runs_through bs l i) (names j) (pos (suc j) ∷ (negsuc j ∷ []))
      ∙ ap (λ zs. filter (runs_through bs l i) (names j) ++ zs) (filter_two (runs_through bs l i) (pos (suc j)) (negsuc j) (runs_both j))

  next_names : (e : ℕ) → 1 ≤ e → names_in ((e + 1) - 1) bs l i ≡ names_in (e - 1) bs l i ++ cond (runs_through bs l i (pos e)) (pos e ∷ (neg_ℤ (pos e) ∷ [])) []
  next_names zero one = absurd (omega arith)
  next_names (suc j) one =
      let a : (suc j + 1) - 1 ≡ suc j = omega arith in
      let b : j ≡ suc j - 1 = omega arith in
      ap (λ k. names_in k bs l i) a ∙ names_more j ∙ ap (λ k. names_in k bs l i ++ cond (runs_through bs l i (pos (suc j))) (pos (suc j) ∷ (negsuc j ∷ [])) []) b

  -- the edge e runs through the strip, and both its names are put into the list
  pub collected_both : (e : ℕ) (list : List ℤ) → 1 ≤ e → Collected bs l i e list → runs_through bs l i (pos e) ≡ true
      → Collected bs l i (e + 1) ((list ++ (pos e ∷ [])) ++ (neg_ℤ (pos e) ∷ []))
  collected_both e list one c runs =
      let few : length list + 2 ≤ 2 * e = c.few in
      let long = length-append (list ++ (pos e ∷ [])) (neg_ℤ (pos e) ∷ []) in
      let first = length-append list (pos e ∷ []) in
      record {
        named =
            append_assoc list (pos e ∷ []) (neg_ℤ (pos e) ∷ [])
            ∙ ap (λ zs. zs ++ (pos e ∷ (neg_ℤ (pos e) ∷ []))) c.named
            ∙ sym (next_names e one ∙ ap (λ b. names_in (e - 1) bs l i ++ cond b (pos e ∷ (neg_ℤ (pos e) ∷ [])) []) runs);
        few = omega arith;
      }

  -- the edge e does not run through the strip
  pub collected_past : (e : ℕ) (list : List ℤ) → 1 ≤ e → Collected bs l i e list → runs_through bs l i (pos e) ≡ false → Collected bs l i (e + 1) list
  collected_past e list one c off =
      let few : length list + 2 ≤ 2 * e = c.few in
      record {
        named = c.named ∙ sym (next_names e one ∙ ap (λ b. names_in (e - 1) bs l i ++ cond b (pos e ∷ (neg_ℤ (pos e) ∷ [])) []) off ∙ append-nil (names_in (e - 1) bs l i));
        few = omega arith;
      }

  -- ---- what stands in the list
  pub in_strip_held : (h : ℤ) → h ∈ names_in n bs l i → l.turn.held h ≡ true
  unfolding names_in
  in_strip_held h m =
      (and_parts (l.turn.held h) _ (and_parts (l.turn.held h && leb (first_strip bs l h) i) _ (T_true _ (((filter_is (runs_through bs l i) (names n)).1 h).0 m).1)).0).0

  pub in_strip_within : (h : ℤ) → h ∈ names_in n bs l i → Within n h
  in_strip_within h m = held_within n l.turn law h (in_strip_held h m)

module _ (n : ℕ) (bs : List ℤ) (l : Linework) (law : Lawful n l.turn) (placed : Placed n l.turn l.points) where
  -- the follower of a name that starts in the strip has a slot there
  pub follower_in : (i : ℕ) (h : ℤ) → l.turn.held h ≡ true → starts_in bs l i h ≡ true → l.turn.follower h ∈ names_in n bs l i
  follower_in i h held starts =
      let ahead : l.turn.held (l.turn.follower h) ≡ true = law.ahead h held in
      let home : home_strip bs l (l.turn.follower h) ≡ i = ap (λ o. strip_of bs (x_of o)) (placed.alike h held) ∙ eqb-true _ _ starts in
      in_strip n bs l (law, placed) i (l.turn.follower h) (runs_home n bs l (law, placed) (l.turn.follower h) i ahead home)
