-- What the arrays of a written file tell: the sizes, the borders, and the names, followers and points of each strip. Assumes nothing.
use Rattle.std.proofs.Common.{◌≡◌, ℕ, suc, ◌+◌, ◌*◌, ◌<◌, Bool, true, false, cond, List, ◌++◌, length, get_or, ℤ, pos, None, sym, refl, ap, ◌∙◌, subst, ap₂, arith, length-append, w16, w32, SFits}
use Rattle.std.specs.List.{flat_map}
use Rattle.chart.specs.declared.point.Point.{Point}
use Rattle.chart.specs.Linework.{Linework}
use Rattle.halfedges.specs.Copies.{point_or_origin}
use Rattle.strips.specs.Borders.{strip_count}
use Rattle.file.specs.Layout.{strips, vertices_in, slots_in, border, strip_length, strip_at, strip_part, strip}
use Rattle.file.specs.Strips.{Strip, strip_of, none}
use Rattle.writing.specs.Written.{u16_bytes, i16_bytes, i32_bytes, names_in, starts_in, place_in, follower_slot, points_in, strip_bytes, size_bytes, strip_numbers, written}
use Rattle.writing.proofs.Coding.{Stands, stands_whole, stands_left, stands_right, stands_between, Places, stands_joined, joined_length, wide_length, stands_wide, u16_read, i16_read, i32_read}
use Rattle.writing.proofs.Listing.{below_length, below_at, place_most}

-- every number of the file finds room in its bytes
pub record Codable (n : ℕ) (bs : List ℤ) (l : Linework) : Type 0 where
  pub strips : strip_count bs < 65536
  pub slots : (i : ℕ) → length (names_in n bs l i) < 65536
  pub vertices : (i : ℕ) → length (points_in n bs l i) < 65536
  pub borders : (k : ℕ) → k < length bs → SFits w32 (get_or bs k (pos 0))
  pub names : (i k : ℕ) → k < length (names_in n bs l i) → SFits w16 (get_or (names_in n bs l i) k (pos 0))
  pub points : (i k : ℕ) → k < length (points_in n bs l i)
      → SFits w32 (get_or (points_in n bs l i) k (point_or_origin None)).x × SFits w32 (get_or (points_in n bs l i) k (point_or_origin None)).y

-- the strip s has the names hs in its slots, each led on by f, and the points ps
pub record Arrayed (hs : List ℤ) (f : ℤ → ℕ) (ps : List Point) (s : Strip) : Type 0 where
  pub slots : s.slots ≡ length hs
  pub vertices : s.vertices ≡ length ps
  pub name : (k : ℕ) → k < length hs → s.name k ≡ get_or hs k (pos 0)
  pub follower : (k : ℕ) → k < length hs → s.follower k ≡ f (get_or hs k (pos 0))
  pub point : (k : ℕ) → k < length ps → s.point k ≡ get_or ps k (point_or_origin None)

module _ (n : ℕ) (bs : List ℤ) (l : Linework) (fit : Codable n bs l) where
  -- ---- one strip
  module _ (i : ℕ) where
    abbrev hs : List ℤ
    hs = names_in n bs l i

    abbrev ps : List Point
    ps = points_in n bs l i

    abbrev follow : ℤ → ℕ
    follow = follower_slot n bs l i

    names_long : length (flat_map i16_bytes hs) ≡ 2 * length hs
    names_long = wide_length i16_bytes (pos 0) 2 (λ z. refl) hs

    followers_long : length (flat_map (λ h. u16_bytes (follow h)) hs) ≡ 2 * length hs
    followers_long = wide_length (λ h. u16_bytes (follow h)) (pos 0) 2 (λ z. refl) hs

    x_long : length (flat_map (λ p. i32_bytes p.x) ps) ≡ 4 * length ps
    x_long = wide_length (λ p. i32_bytes p.x) (point_or_origin None) 4 (λ z. refl) ps

    y_long : length (flat_map (λ p. i32_bytes p.y) ps) ≡ 4 * length ps
    y_long = wide_length (λ p. i32_bytes p.y) (point_or_origin None) 4 (λ z. refl) ps

    pub strip_long : length (strip_bytes n bs l i) ≡ 4 * length hs + 8 * length ps
    unfolding strip_bytes
    strip_long = simp length-append (omega (arith, names_long, followers_long, x_long, y_long))

    slot_small : (h : ℤ) → follow h < 65536
    slot_small h = go (starts_in bs l i h)
      where
        go : (t : Bool) → cond t (place_in hs (l.turn.follower h)) none < 65536
        go true = omega (arith, place_most hs (l.turn.follower h), fit.slots i)
        go false = omega arith

    -- the arrays one after the other, in a part of a file
    module _ (part : List ℕ) (s : Stands part 0 (strip_bytes n bs l i)) where
      names_stand : Stands part 0 (flat_map i16_bytes hs)
      unfolding strip_bytes
      names_stand = stands_left part 0 (flat_map i16_bytes hs) _ s

      after_names : Stands part (2 * length hs) (flat_map (λ h. u16_bytes (follow h)) hs ++ (flat_map (λ p. i32_bytes p.x) ps ++ flat_map (λ p. i32_bytes p.y) ps))
      unfolding strip_bytes
      after_names = stands_right part 0 (2 * length hs) (flat_map i16_bytes hs) _ (omega (arith, names_long)) s

      after_followers : Stands part (4 * length hs) (flat_map (λ p. i32_bytes p.x) ps ++ flat_map (λ p. i32_bytes p.y) ps)
      after_followers = stands_right part (2 * length hs) (4 * length hs) (flat_map (λ h. u16_bytes (follow h)) hs) _ (omega (arith, followers_long)) after_names

      y_stand : Stands part (4 * length hs + 4 * length ps) (flat_map (λ p. i32_bytes p.y) ps)
      y_stand = stands_right part (4 * length hs) (4 * length hs + 4 * length ps) (flat_map (λ p. i32_bytes p.x) ps) _ (omega (arith, x_long)) after_followers

      pub array_told : (h v : ℕ) → h ≡ length hs → v ≡ length ps → Arrayed hs follow ps (strip_of part h v)
      array_told h v hl vl = record {
        slots = hl;
        vertices = vl;
        name = λ k m. i16_read part (2 * k) _ (fit.names i k m) (stands_wide i16_bytes (pos 0) 2 (λ z. refl) part 0 (2 * k) hs k m (omega arith) names_stand);
        follower = λ k m. u16_read part (2 * h + 2 * k) _ (slot_small _)
            (stands_wide (λ h. u16_bytes (follow h)) (pos 0) 2 (λ z. refl) part (2 * length hs) (2 * h + 2 * k) hs k m (omega arith) (stands_left part (2 * length hs) _ _ after_names));
        point = λ k m. ap₂ (λ (x y : ℤ). record { x = x; y = y })
            (i32_read part (4 * h + 4 * k) _ (fit.points i k m).0
            (stands_wide (λ p. i32_bytes p.x) (point_or_origin None) 4 (λ z. refl) part (4 * length hs) (4 * h + 4 * k) ps k m (omega arith) (stands_left part (4 * length hs) _ _ after_followers)))
            (i32_read part (4 * h + 4 * v + 4 * k) _ (fit.points i k m).1
            (stands_wide (λ p. i32_bytes p.y) (point_or_origin None) 4 (λ z. refl) part (4 * length hs + 4 * length ps) (4 * h + 4 * v + 4 * k) ps k m (omega arith) y_stand));
      }

  -- ---- the whole file
  abbrev b : List ℕ
  b = written n bs l

  abbrev c : ℕ
  c = strip_count bs

  sizes_long : length (flat_map (size_bytes n bs l) (strip_numbers bs)) ≡ 4 * c
  sizes_long = omega (arith, wide_length (size_bytes n bs l) 0 4 (λ z. refl) (strip_numbers bs), below_length 0 suc c)

  borders_long : length (flat_map i32_bytes bs) ≡ 4 * length bs
  borders_long = wide_length i32_bytes (pos 0) 4 (λ z. refl) bs

  pub count_told : strips b ≡ c
  unfolding written
  count_told = u16_read b 0 c fit.strips (stands_left b 0 (u16_bytes c) _ (stands_whole b))

  after_count : Stands b 2 (flat_map (size_bytes n bs l) (strip_numbers bs) ++ (flat_map i32_bytes bs ++ flat_map (strip_bytes n bs l) (strip_numbers bs)))
  unfolding written
  after_count = stands_right b 0 2 (u16_bytes c) _ refl (stands_whole b)

  after_sizes : Stands b (2 + 4 * c) (flat_map i32_bytes bs ++ flat_map (strip_bytes n bs l) (strip_numbers bs))
  after_sizes = stands_right b 2 (2 + 4 * c) (flat_map (size_bytes n bs l) (strip_numbers bs)) _ (omega (arith, sizes_long)) after_count

  strips_stand : Stands b (strip_at b 0) (flat_map (strip_bytes n bs l) (strip_numbers bs))
  strips_stand = stands_right b (2 + 4 * c) (strip_at b 0) (flat_map i32_bytes bs) _ (omega (arith, count_told, borders_long)) after_sizes

  pub border_told : (k : ℕ) → k < length bs → border b k ≡ get_or bs k (pos 0)
  border_told k h =
      i32_read b (2 + 4 * strips b + 4 * k) _ (fit.borders k h)
      (stands_wide i32_bytes (pos 0) 4 (λ z. refl) b (2 + 4 * c) (2 + 4 * strips b + 4 * k) bs k h (omega (arith, count_told)) (stands_left b (2 + 4 * c) (flat_map i32_bytes bs) _ after_sizes))

  size_stands : (j : ℕ) → j < c → Stands b (2 + 4 * j) (size_bytes n bs l (suc j))
  size_stands j h =
      subst (λ i. Stands b (2 + 4 * j) (size_bytes n bs l i)) (below_at 0 suc c j h)
      (stands_wide (size_bytes n bs l) 0 4 (λ z. refl) b 2 (2 + 4 * j) (strip_numbers bs) j (omega (arith, below_length 0 suc c)) (omega arith)
      (stands_left b 2 (flat_map (size_bytes n bs l) (strip_numbers bs)) _ after_count))

  vertices_told : (j : ℕ) → j < c → vertices_in b j ≡ length (points_in n bs l (suc j))
  vertices_told j h = u16_read b (2 + 4 * j) _ (fit.vertices (suc j)) (stands_left b (2 + 4 * j) (u16_bytes (length (points_in n bs l (suc j)))) (u16_bytes (length (names_in n bs l (suc j)))) (size_stands j h))

  slots_told : (j : ℕ) → j < c → slots_in b j ≡ length (names_in n bs l (suc j))
  slots_told j h =
      u16_read b (4 + 4 * j) _ (fit.slots (suc j))
      (stands_right b (2 + 4 * j) (4 + 4 * j) (u16_bytes (length (points_in n bs l (suc j)))) (u16_bytes (length (names_in n bs l (suc j)))) (omega arith) (size_stands j h))

  part_long : (j : ℕ) → j < c → length (strip_bytes n bs l (suc j)) ≡ strip_length b j
  part_long j h = omega (arith, strip_long (suc j), vertices_told j h, slots_told j h)

  strip_places : Places (strip_bytes n bs l) 0 (strip_numbers bs) (strip_at b)
  strip_places i h =
      let m : i < c = omega (arith, below_length 0 suc c) in
      omega (arith, ap (λ j. length (strip_bytes n bs l j)) (below_at 0 suc c i m), part_long i m)

  pub strip_told : (j : ℕ) → j < c → Arrayed (names_in n bs l (suc j)) (follower_slot n bs l (suc j)) (points_in n bs l (suc j)) (strip b j)
  strip_told j h =
      array_told (suc j) (strip_part b j)
      (stands_between b (strip_at b j) (strip_length b j) (strip_bytes n bs l (suc j)) (part_long j h)
      (subst (λ i. Stands b (strip_at b j) (strip_bytes n bs l i)) (below_at 0 suc c j h)
      (stands_joined (strip_bytes n bs l) 0 b (strip_numbers bs) (strip_at b) strip_places strips_stand j (omega (arith, below_length 0 suc c)))))
      (slots_in b j) (vertices_in b j) (slots_told j h) (vertices_told j h)

  pub whole_told : length b ≡ strip_at b (strips b)
  unfolding written
  whole_told =
      let all : strip_at b (length (strip_numbers bs)) ≡ strip_at b 0 + length (flat_map (strip_bytes n bs l) (strip_numbers bs)) = joined_length (strip_bytes n bs l) 0 (strip_numbers bs) (strip_at b) strip_places in
      let many : length (strip_numbers bs) ≡ strips b = below_length 0 suc c ∙ sym count_told in
      let goal : length b ≡ strip_at b 0 + length (flat_map (strip_bytes n bs l) (strip_numbers bs)) = simp length-append (omega (arith, sizes_long, borders_long, count_told)) in
      goal ∙ sym all ∙ ap (strip_at b) many
