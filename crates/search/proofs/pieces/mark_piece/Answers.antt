use Rattle.std.proofs.Common.{◌≡◌, ℕ, ◌+◌, ◌<◌, ◌≤◌, true, false, T, ◌↔◌, List, length, get_or, set, ℤ, pos, ◌-ℤ◌, neg_ℤ, sym, ap, ◌∙◌, subst, subst₂, inl, inr, arith, w16, SFits, to_z, of_z}
use Rattle.flat.specs.Orbits.{stay}
use Rattle.std.proofs.lemmas.Int.{ints, to_z-of_z}
use Rattle.std.proofs.lemmas.Bool.{both_ways}
use Rattle.turning.proofs.Names.{minus_back}
use Rattle.turning.specs.Limits.{max_edge, marks_for, line_for}
use Rattle.turning.specs.Turn.{Turn, Lawful}
use Rattle.search.specs.Marks.{Within, Noted, marked, place}
use Rattle.search.proofs.Marking.{name_fits, held_within}
use Rattle.search.proofs.Floods.{Flood, But, In, Noting, flood_none, flood_few, flood_like, flood_room, flood_held, flood_all, noted, noted_wide, but_first, note_first, note_second, note_both}
use Rattle.search.proofs.pieces.mark_piece.Goals as goal

pub note-requires-clause-within : goal.note-requires-clause-within
note-requires-clause-within g c =
    let t = g.T.Turning.turn c.args.t.now in
    let law = g.T.Turning.lawful c.args.t.now in
    let bh = to_z-of_z w16 c.args.h c.ranges.h in
    simp bh (held_within max_edge t law c.args.h c.requires.held)

-- h is the first in the queue
module _ (t : Turn) (law : Lawful max_edge t) (h : ℤ) (e : t.held h ≡ true) (m m' : List ℕ) (l l' : List ℤ) (r : ℕ)
    (long : length m ≡ marks_for max_edge) (wide : length l ≡ line_for max_edge) (d : marked max_edge m h ≡ false) (o : Noted max_edge h m m' l l' 0 r) where
  first : Noting max_edge t law h e (In max_edge t m) m m' l l' 0 0 r h
  first = noted max_edge t law h e (In max_edge t m) m m' l l' 0 0 r h long wide (flood_none max_edge t h m l) e stay o

  set_first : m' ≡ set m (place max_edge h) 1
  set_first = go o
    where
      go : Noted max_edge h m m' l l' 0 r → m' ≡ set m (place max_edge h) 1
      go (inl (q, _, _, _)) = absurd (both_ways (marked max_edge m h) d q)
      go (inr (_, q, _, _)) = q

  pub but : (z : ℤ) → t.held z ≡ true → In max_edge t m z ↔ But max_edge m' h z
  but = but_first max_edge t law h e m m' long d set_first

  pub begun : Flood max_edge t h (But max_edge m' h) m' l' 0 r × T (marked max_edge m' h)
  begun = (flood_like max_edge t h (In max_edge t m) (But max_edge m' h) m' l' 0 r but first.flood, first.here)

pub loop-x-init : goal.loop-x-init
loop-x-init g c =
    let t = g.T.Turning.turn c.args.t.now in
    let bh = to_z-of_z w16 c.args.h c.ranges.h in
    let h : ℤ = c.args.h in
    let m' : List ℕ = c.note.new.marks in
    let l' : List ℤ = c.note.new.queue.names.now in
    let o : Noted max_edge h c.args.marks.now m' c.args.line.now l' 0 c.note.new.queue.end = simp bh at c.note.ensures.noted in
    let b = begun t (g.T.Turning.lawful c.args.t.now) h c.requires.held c.args.marks.now m'
    c.args.line.now l' c.note.new.queue.end c.told-marks c.told-line c.requires.unmarked o in
    let f : Flood max_edge t h (But max_edge m' h) m' l' c.note.new.queue.at c.note.new.queue.end =
    subst (λ at. Flood max_edge t h (But max_edge m' h) m' l' at c.note.new.queue.end) (sym c.note.ensures.at) b.0 in
    simp bh (f, b.1, c.note.array_long, noted_wide max_edge h _ _ _ _ _ _ o ∙ c.told-line)

pub take-requires : goal.take-requires
take-requires g c =
    let t = g.T.Turning.turn c.args.t.now in
    let bh = to_z-of_z w16 c.args.h c.ranges.h in
    flood_few max_edge t (g.T.Turning.lawful c.args.t.now) c.args.h c.requires.held (But max_edge c.note.new.marks c.args.h) c.loop-x.marks c.loop-x.queue.names.now c.loop-x.queue.at c.loop-x.queue.end
    (simp bh at c.loop-x.invariant.0)

-- a turn of the loop: the name x was taken from the queue
record Taking (t : Turn) (h : ℤ) (m₁ m : List ℕ) (l : List ℤ) (at end : ℕ) (x : ℤ) : Type 0 where
  flood : Flood max_edge t h (But max_edge m₁ h) m l at end
  below : at < end
  is : x ≡ get_or l at (pos 0)

taking : (t : Turn) (h : ℤ) (m₁ m : List ℕ) (l l' : List ℤ) (at end end' : ℕ) (x : ℤ) → l' ≡ l → end' ≡ end → Flood max_edge t h (But max_edge m₁ h) m l at end
    → at < end → x ≡ get_or l at (pos 0) → Taking t h m₁ m l' at end' x
taking t h m₁ m l l' at end end' x i j f b is =
    subst₂ (λ a k. Taking t h m₁ m a at k x) (sym i) (sym j) (record { flood = f; below = b; is = is })

module _ {t : Turn} {h : ℤ} {m₁ m : List ℕ} {l : List ℤ} {at end : ℕ} {x : ℤ} (law : Lawful max_edge t) (e : t.held h ≡ true) (k : Taking t h m₁ m l at end x) where
  y : ℤ
  y = get_or l at (pos 0)

  y_held : t.held (get_or l at (pos 0)) ≡ true
  y_held = flood_held max_edge t law h e (But max_edge m₁ h) m l at end at k.flood k.below

  x_held : t.held x ≡ true
  x_held = subst (λ w. t.held w ≡ true) (sym k.is) y_held

  x_fits : SFits w16 x
  x_fits = name_fits x (held_within max_edge t law x x_held)

  next_back : (z : ℤ) → SFits w16 z → z ≡ t.follower (to_z w16 (of_z w16 x)) → to_z w16 (of_z w16 z) ≡ t.follower (get_or l at (pos 0))
  next_back z s q = to_z-of_z w16 z s ∙ q ∙ ap t.follower (to_z-of_z w16 x x_fits ∙ k.is)

  next_within : (z : ℤ) → SFits w16 z → z ≡ t.follower (to_z w16 (of_z w16 x)) → Within max_edge (to_z w16 (of_z w16 z))
  next_within z s q = subst (λ w. Within max_edge w) (sym (next_back z s q)) (held_within max_edge t law (t.follower (get_or l at (pos 0))) (law.ahead (get_or l at (pos 0)) y_held))

  next_room : (z : ℤ) → SFits w16 z → z ≡ t.follower (to_z w16 (of_z w16 x)) → marked max_edge m (to_z w16 (of_z w16 z)) ≡ false → end < line_for max_edge
  next_room z s q d =
      flood_room max_edge t law h e (But max_edge m₁ h) m l at end (t.follower (get_or l at (pos 0))) k.flood (law.ahead (get_or l at (pos 0)) y_held)
      (subst (λ w. marked max_edge m w ≡ false) (next_back z s q) d)

  minus_sub : SFits w16 (pos 0 -ℤ to_z w16 (of_z w16 x))
  minus_sub = let v = held_within max_edge t law x x_held in let s = x_fits in omega (arith, ints, v.low, v.high)

  minus_is : to_z w16 (of_z w16 (pos 0 -ℤ to_z w16 (of_z w16 x))) ≡ neg_ℤ (get_or l at (pos 0))
  minus_is = minus_back x x_fits minus_sub ∙ ap neg_ℤ k.is

  minus_within : Within max_edge (to_z w16 (of_z w16 (pos 0 -ℤ to_z w16 (of_z w16 x))))
  minus_within = subst (λ w. Within max_edge w) (sym minus_is) (held_within max_edge t law (neg_ℤ (get_or l at (pos 0))) (law.closed (get_or l at (pos 0)) y_held))

  end_few : end ≤ line_for max_edge
  end_few = flood_few max_edge t law h e (But max_edge m₁ h) m l at end k.flood

  -- the step about the vertex is noted
  module _ (m' : List ℕ) (l' : List ℤ) (r : ℕ) (z : ℤ) (s : SFits w16 z) (q : z ≡ t.follower (to_z w16 (of_z w16 x)))
      (long : length m ≡ marks_for max_edge) (wide : length l ≡ line_for max_edge) (o : Noted max_edge (to_z w16 (of_z w16 z)) m m' l l' end r) where
    o' : Noted max_edge (t.follower (get_or l at (pos 0))) m m' l l' end r
    o' = subst (λ w. Noted max_edge w m m' l l' end r) (next_back z s q) o

    next : Noting max_edge t law h e (But max_edge m₁ h) m m' l l' at end r (t.follower (get_or l at (pos 0)))
    next = note_first max_edge t law h e (But max_edge m₁ h) m m' m' l l' l' at end r r k.below long wide k.flood o'

    minus_room : marked max_edge m' (to_z w16 (of_z w16 (pos 0 -ℤ to_z w16 (of_z w16 x)))) ≡ false → r < line_for max_edge
    minus_room d =
        flood_room max_edge t law h e (But max_edge m₁ h) m' l' at r (neg_ℤ (get_or l at (pos 0))) next.flood (law.closed (get_or l at (pos 0)) y_held)
        (subst (λ w. marked max_edge m' w ≡ false) minus_is d)

    -- and that to the other end of the edge
    both : (m'' : List ℕ) (l'' : List ℤ) (at' r' : ℕ) → at' ≡ at + 1 → length m' ≡ marks_for max_edge
        → Noted max_edge (to_z w16 (of_z w16 (pos 0 -ℤ to_z w16 (of_z w16 x)))) m' m'' l' l'' r r' → T (marked max_edge m h) → length m'' ≡ marks_for max_edge
        → Flood max_edge t h (But max_edge m₁ h) m'' l'' at' r' × T (marked max_edge m'' h) × (length m'' ≡ marks_for max_edge) × (length l'' ≡ line_for max_edge)
    both m'' l'' at' r' i long' p first long'' = (
      subst (λ a. Flood max_edge t h (But max_edge m₁ h) m'' l'' a r') (sym i) (note_both max_edge t law h e (But max_edge m₁ h) m m' m'' l l' l'' at end r r' k.below k.flood next other),
      other.stays h e (next.stays h e first),
      long'',
      noted_wide max_edge _ m' m'' l' l'' r r' p ∙ wide',
    )
      where
        wide' : length l' ≡ line_for max_edge
        wide' = noted_wide max_edge _ m m' l l' end r o ∙ wide

        other : Noting max_edge t law h e (But max_edge m₁ h) m' m'' l' l'' at r r' (neg_ℤ (get_or l at (pos 0)))
        other = note_second max_edge t law h e (But max_edge m₁ h) m m' m'' l l' l'' at end r r' k.below long' wide' k.flood next.flood
            (subst (λ w. Noted max_edge w m' m'' l' l'' r r') minus_is p)

pub note-requires-in-Some-clause-within : goal.note-requires-in-Some-clause-within
note-requires-in-Some-clause-within g c =
    let t = g.T.Turning.turn c.args.t.now in
    let law = g.T.Turning.lawful c.args.t.now in
    let bh = to_z-of_z w16 c.args.h c.ranges.h in
    let i = c.in-Some.ensures in
    let k : Taking t c.args.h c.note.new.marks c.loop-x.marks c.take.new.self.names.now c.loop-x.queue.at c.take.new.self.end c.in-Some.x =
    taking t c.args.h c.note.new.marks c.loop-x.marks c.loop-x.queue.names.now c.take.new.self.names.now c.loop-x.queue.at c.loop-x.queue.end c.take.new.self.end c.in-Some.x
    i.names i.end (simp bh at c.loop-x.invariant.0) i.taken.0 i.taken.1 in
    let s : SFits w16 c.follower.result = record { sfits = c.follower.type_inv } in
    next_within law c.requires.held k c.follower.result s c.follower.ensures

pub note-requires-in-Some-clause-room : goal.note-requires-in-Some-clause-room
note-requires-in-Some-clause-room g c =
    let t = g.T.Turning.turn c.args.t.now in
    let law = g.T.Turning.lawful c.args.t.now in
    let bh = to_z-of_z w16 c.args.h c.ranges.h in
    let i = c.in-Some.ensures in
    let k : Taking t c.args.h c.note.new.marks c.loop-x.marks c.take.new.self.names.now c.loop-x.queue.at c.take.new.self.end c.in-Some.x =
    taking t c.args.h c.note.new.marks c.loop-x.marks c.loop-x.queue.names.now c.take.new.self.names.now c.loop-x.queue.at c.loop-x.queue.end c.take.new.self.end c.in-Some.x
    i.names i.end (simp bh at c.loop-x.invariant.0) i.taken.0 i.taken.1 in
    let s : SFits w16 c.follower.result = record { sfits = c.follower.type_inv } in
    next_room law c.requires.held k c.follower.result s c.follower.ensures

pub overflow_sub-x : goal.overflow_sub-x
overflow_sub-x g c =
    let t = g.T.Turning.turn c.args.t.now in
    let law = g.T.Turning.lawful c.args.t.now in
    let bh = to_z-of_z w16 c.args.h c.ranges.h in
    let i = c.in-Some.ensures in
    let k : Taking t c.args.h c.note.new.marks c.loop-x.marks c.take.new.self.names.now c.loop-x.queue.at c.take.new.self.end c.in-Some.x =
    taking t c.args.h c.note.new.marks c.loop-x.marks c.loop-x.queue.names.now c.take.new.self.names.now c.loop-x.queue.at c.loop-x.queue.end c.take.new.self.end c.in-Some.x
    i.names i.end (simp bh at c.loop-x.invariant.0) i.taken.0 i.taken.1 in
    minus_sub law c.requires.held k

pub note-requires-in-Some-2-clause-within : goal.note-requires-in-Some-2-clause-within
note-requires-in-Some-2-clause-within g c =
    let t = g.T.Turning.turn c.args.t.now in
    let law = g.T.Turning.lawful c.args.t.now in
    let bh = to_z-of_z w16 c.args.h c.ranges.h in
    let i = c.in-Some.ensures in
    let k : Taking t c.args.h c.note.new.marks c.loop-x.marks c.take.new.self.names.now c.loop-x.queue.at c.take.new.self.end c.in-Some.x =
    taking t c.args.h c.note.new.marks c.loop-x.marks c.loop-x.queue.names.now c.take.new.self.names.now c.loop-x.queue.at c.loop-x.queue.end c.take.new.self.end c.in-Some.x
    i.names i.end (simp bh at c.loop-x.invariant.0) i.taken.0 i.taken.1 in
    minus_within law c.requires.held k

pub note-requires-in-Some-2-clause-room : goal.note-requires-in-Some-2-clause-room
note-requires-in-Some-2-clause-room g c =
    let t = g.T.Turning.turn c.args.t.now in
    let law = g.T.Turning.lawful c.args.t.now in
    let bh = to_z-of_z w16 c.args.h c.ranges.h in
    let i = c.in-Some.ensures in
    let k : Taking t c.args.h c.note.new.marks c.loop-x.marks c.take.new.self.names.now c.loop-x.queue.at c.take.new.self.end c.in-Some.x =
    taking t c.args.h c.note.new.marks c.loop-x.marks c.loop-x.queue.names.now c.take.new.self.names.now c.loop-x.queue.at c.loop-x.queue.end c.take.new.self.end c.in-Some.x
    i.names i.end (simp bh at c.loop-x.invariant.0) i.taken.0 i.taken.1 in
    let s : SFits w16 c.follower.result = record { sfits = c.follower.type_inv } in
    let wide : length c.take.new.self.names.now ≡ line_for max_edge = ap length i.names ∙ c.loop-x.invariant.3 in
    minus_room law c.requires.held k c.note-in-Some.new.marks c.note-in-Some.new.queue.names.now c.note-in-Some.new.queue.end
    c.follower.result s c.follower.ensures c.loop-x.invariant.2 wide c.note-in-Some.ensures.noted

pub loop-x-smaller : goal.loop-x-smaller
loop-x-smaller g c =
    let t = g.T.Turning.turn c.args.t.now in
    let law = g.T.Turning.lawful c.args.t.now in
    let bh = to_z-of_z w16 c.args.h c.ranges.h in
    let i = c.in-Some.ensures in
    let k : Taking t c.args.h c.note.new.marks c.loop-x.marks c.take.new.self.names.now c.loop-x.queue.at c.take.new.self.end c.in-Some.x =
    taking t c.args.h c.note.new.marks c.loop-x.marks c.loop-x.queue.names.now c.take.new.self.names.now c.loop-x.queue.at c.loop-x.queue.end c.take.new.self.end c.in-Some.x
    i.names i.end (simp bh at c.loop-x.invariant.0) i.taken.0 i.taken.1 in
    let few = end_few law c.requires.held k in
    omega (arith, few, k.below, i.taken.2, c.note-in-Some.ensures.at, c.note-in-Some-2.ensures.at)

pub loop-x-preserved : goal.loop-x-preserved
loop-x-preserved g c =
    let t = g.T.Turning.turn c.args.t.now in
    let law = g.T.Turning.lawful c.args.t.now in
    let bh = to_z-of_z w16 c.args.h c.ranges.h in
    let i = c.in-Some.ensures in
    let k : Taking t c.args.h c.note.new.marks c.loop-x.marks c.take.new.self.names.now c.loop-x.queue.at c.take.new.self.end c.in-Some.x =
    taking t c.args.h c.note.new.marks c.loop-x.marks c.loop-x.queue.names.now c.take.new.self.names.now c.loop-x.queue.at c.loop-x.queue.end c.take.new.self.end c.in-Some.x
    i.names i.end (simp bh at c.loop-x.invariant.0) i.taken.0 i.taken.1 in
    let s : SFits w16 c.follower.result = record { sfits = c.follower.type_inv } in
    let wide : length c.take.new.self.names.now ≡ line_for max_edge = ap length i.names ∙ c.loop-x.invariant.3 in
    let first : T (marked max_edge c.loop-x.marks c.args.h) = simp bh at c.loop-x.invariant.1 in
    let at : c.note-in-Some-2.new.queue.at ≡ c.loop-x.queue.at + 1 = c.note-in-Some-2.ensures.at ∙ c.note-in-Some.ensures.at ∙ i.taken.2 in
    simp bh
    (both law c.requires.held k c.note-in-Some.new.marks c.note-in-Some.new.queue.names.now c.note-in-Some.new.queue.end c.follower.result s c.follower.ensures c.loop-x.invariant.2 wide c.note-in-Some.ensures.noted
    c.note-in-Some-2.new.marks c.note-in-Some-2.new.queue.names.now c.note-in-Some-2.new.queue.at c.note-in-Some-2.new.queue.end at c.note-in-Some.array_long c.note-in-Some-2.ensures.noted first c.note-in-Some-2.array_long)

pub returns : goal.returns
returns g c =
    let t = g.T.Turning.turn c.args.t.now in
    let law = g.T.Turning.lawful c.args.t.now in
    let bh = to_z-of_z w16 c.args.h c.ranges.h in
    let m₁ = c.note.new.marks in
    let f : Flood max_edge t c.args.h (But max_edge m₁ c.args.h) c.loop-x.marks c.loop-x.queue.names.now c.loop-x.queue.at c.loop-x.queue.end = simp bh at c.loop-x.invariant.0 in
    let w = but t law c.args.h c.requires.held c.args.marks.now m₁
    c.args.line.now c.note.new.queue.names.now c.note.new.queue.end c.told-marks c.told-line c.requires.unmarked (simp bh at c.note.ensures.noted) in
    flood_all max_edge t law c.args.h c.requires.held c.args.marks.now c.loop-x.marks c.loop-x.queue.names.now c.loop-x.queue.at c.loop-x.queue.end
    (flood_like max_edge t c.args.h (But max_edge m₁ c.args.h) (In max_edge t c.args.marks.now) c.loop-x.marks c.loop-x.queue.names.now c.loop-x.queue.at c.loop-x.queue.end (λ z k. ((w z k).1, (w z k).0)) f)
    c.in_default.ensures.taken.0 (simp bh at c.loop-x.invariant.1) c.requires.closed
