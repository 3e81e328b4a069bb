-- The three changes of line work: an edge hung between two ends, an edge lifted, an edge cleft at a point.
-- Assumes nothing.
use Rattle.std.specs.Prelude.{ℕ, Bool, true, false, cond, not, ◌&&◌, ◌||◌, ℤ, pos, neg_ℤ, Some, None, Option, nat_le}
use Rattle.flat.specs.Orbits.{any}
use Rattle.flat.specs.Whole.{equal}
use Rattle.turning.specs.Turn.{Turn}
use Rattle.turning.specs.Counts.{holding}
use Rattle.chart.specs.declared.point.Point.{Point}
use Rattle.chart.specs.declared.point.End.{End}
use Rattle.chart.specs.Points.{on_sheet, same_point, west, is_point, told_west}
use Rattle.chart.specs.Linework.{Linework}

-- a map with the value at one name changed
abbrev pub at : {A : Type 0} → ℤ → A → (ℤ → A) → ℤ → A
at k v f h = cond (equal h k) v (f h)

-- ---- one name
-- k comes in, a round by itself
abbrev pub alone : ℤ → Turn → Turn
alone k t = record {
  held = at k true t.held;
  follower = at k k t.follower;
  predecessor = at k k t.predecessor;
}

-- k comes in, directly after c
abbrev pub put_after : ℤ → ℤ → Turn → Turn
put_after c k t = record {
  held = at k true t.held;
  follower = at k (t.follower c) (at c k t.follower);
  predecessor = at k c (at (t.follower c) k t.predecessor);
}

-- k comes in after its corner, or alone where it has none
abbrev pub put : Option ℤ → ℤ → Turn → Turn
put None k t = alone k t
put (Some c) k t = put_after c k t

-- k goes out of its round: what was before it leads to what was after it
abbrev pub drawn : ℤ → Turn → Turn
drawn k t = record {
  held = at k false t.held;
  follower = at k (pos 0) (at (t.predecessor k) (t.follower k) t.follower);
  predecessor = at k (pos 0) (at (t.follower k) (t.predecessor k) t.predecessor);
}

-- ---- hang
-- the western of two ends
abbrev pub western : End → End → End
western a b = cond (west a.point b.point) a b

-- the eastern of two ends
abbrev pub eastern : End → End → End
eastern a b = cond (west a.point b.point) b a

-- the edge e between the ends: +e starts at the western one, -e at the eastern one
abbrev pub hung : ℕ → End → End → Linework → Linework
hung e a b l = record {
  turn = put (eastern a b).corner (neg_ℤ (pos e)) (put (western a b).corner (pos e) l.turn);
  points = at (neg_ℤ (pos e)) (Some (eastern a b).point) (at (pos e) (Some (western a b).point) l.points);
}

-- one of the two names of the edge e starts at p
abbrev pub starts_at : Linework → Point → ℕ → Bool
starts_at l p e = is_point p (l.points (pos e)) || is_point p (l.points (neg_ℤ (pos e)))

-- some vertex stands at p
abbrev pub vertex_at : ℕ → Linework → Point → Bool
vertex_at n l p = any (λ h. is_point p (l.points h)) (holding n l.turn)

-- the number is from 1 to n
abbrev pub numbered : ℕ → ℕ → Bool
numbered n e = nat_le 1 e && nat_le e n

-- a given corner starts at the end's point; without one, the point is on no vertex
abbrev pub joins_at : ℕ → Linework → Point → Option ℤ → Bool
joins_at n l p None = not (vertex_at n l p)
joins_at n l p (Some c) = l.turn.held c && is_point p (l.points c)

-- the edge e may hang between the ends a and b
abbrev pub may_hang : ℕ → Linework → (Point → Point → Bool) → ℕ → End → End → Bool
may_hang n l fits e a b =
    numbered n e && not (l.turn.held (pos e)) && on_sheet a.point && on_sheet b.point && not (same_point a.point b.point)
    && joins_at n l a.point a.corner && joins_at n l b.point b.corner && fits a.point b.point

-- ---- lift
-- both names of the edge e go out
abbrev pub lifted : ℕ → Linework → Linework
lifted e l = record {
  turn = drawn (neg_ℤ (pos e)) (drawn (pos e) l.turn);
  points = at (neg_ℤ (pos e)) None (at (pos e) None l.points);
}

-- ---- cleave
-- where h leads once -f has the place of -e, and -e and +f are a round: serves follower and predecessor alike
abbrev pub turned : ℕ → ℕ → (ℤ → ℤ) → ℤ → ℤ
turned e f step h =
    cond (equal h (neg_ℤ (pos e))) (pos f)
    (cond (equal h (pos f)) (neg_ℤ (pos e))
    (cond (equal h (neg_ℤ (pos f))) (cond (equal (step (neg_ℤ (pos e))) (neg_ℤ (pos e))) (neg_ℤ (pos f)) (step (neg_ℤ (pos e))))
    (cond (equal (step h) (neg_ℤ (pos e))) (neg_ℤ (pos f)) (step h))))

-- the western part keeps e, the eastern part is f, and p is the vertex between
abbrev pub cleft : ℕ → ℕ → Point → Linework → Linework
cleft e f p l = record {
  turn = record {
    held = at (pos f) true (at (neg_ℤ (pos f)) true l.turn.held);
    follower = turned e f l.turn.follower;
    predecessor = turned e f l.turn.predecessor;
  };
  points = at (neg_ℤ (pos f)) (l.points (neg_ℤ (pos e))) (at (pos f) (Some p) (at (neg_ℤ (pos e)) (Some p) l.points));
}

-- the edge e may be cleft at p, its eastern part the edge f
abbrev pub may_cleave : ℕ → Linework → (Point → Point → Bool) → ℕ → ℕ → Point → Bool
may_cleave n l fits e f p =
    l.turn.held (pos e) && numbered n f && not (l.turn.held (pos f)) && on_sheet p && not (vertex_at n l p)
    && told_west (l.points (pos e)) (Some p) && told_west (Some p) (l.points (neg_ℤ (pos e))) && fits p p
