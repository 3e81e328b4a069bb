-- The parts of a whole file: its strips one after the other, and its head. Assumes nothing.
use Rattle.std.proofs.Common.{◌≡◌, ℕ, zero, suc, ◌+◌, ◌-◌, ◌*◌, ◌<◌, ◌≤◌, ◌⊎◌, List, [], ◌∷◌, ◌++◌, map, length, get_or, take, drop, ℤ, sym, refl, ap, ◌∙◌, subst, ap₂, inl, inr, add-one, arith}
use borrow.Rule.Slice.PartMut.{put_mid}
use Rattle.std.specs.List.{flat_map}
use Rattle.std.proofs.lemmas.List.{flat_map_more, append_assoc, length-append, length-map, length-take-le, length-drop, map_push, get_or-map, take-append-drop, take_at, take_all}
use Rattle.std.proofs.lemmas.Slice.{drop-put_mid, drop-append-drop}
use Rattle.std.proofs.lemmas.Bool.{cases_order}
use Rattle.chart.specs.Linework.{Linework}
use Rattle.strips.specs.Borders.{strip_count}
use Rattle.file.specs.declared.view.Sizes.{Sizes}
use Rattle.told.specs.Tells.{list_below}
use Rattle.told.proofs.Borders.{below_length, below_at}
use Rattle.writing.specs.Written.{u16_bytes, i32_bytes, names_in, points_in, strip_bytes, strip_numbers, written}
use Rattle.writing.specs.Gathers.{size_of}
use Rattle.writing.specs.Lays.{all_sizes, sizes_bytes, head_bytes, body_bytes}
use Rattle.writing.proofs.CodeParts.{joined_map, part_more, length_put_mid}
use Rattle.writing.proofs.CodeGather.{length_joined, strip_long}

module _ {A : Type 0} (f : ℕ → A) where
  -- one more at the end
  pub joined_below : {B : Type 0} (enc : A → List B) (n : ℕ) → flat_map enc (list_below f (n + 1)) ≡ flat_map enc (list_below f n) ++ enc (f n)
  joined_below enc n = ap (λ k. flat_map enc (list_below f k)) (add-one n) ∙ sym (flat_map_more enc [] (list_below f n) (f n))

  pub below_longer : {B : Type 0} (enc : A → List B) (a b : ℕ) → a ≤ b → length (flat_map enc (list_below f a)) ≤ length (flat_map enc (list_below f b))
  below_longer enc zero zero le = omega arith
  below_longer enc (suc a) zero le = absurd (omega arith)
  below_longer enc a (suc b) le = go (below_longer enc a b) (cases_order a (suc b))
    where
      grown : length (flat_map enc (list_below f (suc b))) ≡ length (flat_map enc (list_below f b)) + length (enc (f b))
      grown = ap (λ k. length (flat_map enc (list_below f k))) (sym (add-one b)) ∙ ap length (joined_below enc b) ∙ length-append (flat_map enc (list_below f b)) (enc (f b))

      go : (a ≤ b → length (flat_map enc (list_below f a)) ≤ length (flat_map enc (list_below f b))) → (a ≡ suc b) ⊎ ((a < suc b) ⊎ (suc b < a))
          → length (flat_map enc (list_below f a)) ≤ length (flat_map enc (list_below f (suc b)))
      go rec (inl e) = subst (λ k. length (flat_map enc (list_below f k)) ≤ length (flat_map enc (list_below f (suc b)))) (sym e) (omega arith)
      go rec (inr (inl l)) = let r = rec (omega arith) in omega (arith, grown)
      go rec (inr (inr l)) = absurd (omega arith)

module _ (n : ℕ) (bs : List ℤ) (l : Linework) where
  -- how many bytes the first j strips take
  abbrev pub strips_long : ℕ → ℕ
  strips_long j = length (flat_map (strip_bytes n bs l) (list_below suc j))

  -- the sizes of the first j strips are put down and added up
  pub record Measured (j : ℕ) (sizes : List Sizes) (total : ℕ) : Type 0 where
    pub put : sizes ≡ map (size_of n bs l) (list_below suc j)
    pub long : total ≡ strips_long j
    pub few : total ≤ 786420 * j

  pub measured_none : (sizes : List Sizes) → sizes ≡ [] → Measured 0 sizes 0
  measured_none sizes none = record { put = none; long = refl; few = omega arith }

  pub measured_long : (j : ℕ) (sizes : List Sizes) (total : ℕ) → Measured j sizes total → length sizes ≡ j
  measured_long j sizes total m = ap length m.put ∙ length-map (list_below suc j) (size_of n bs l) ∙ below_length suc j

  strip_grown : (j : ℕ) → strips_long (j + 1) ≡ strips_long j + (4 * length (names_in n bs l (suc j)) + 8 * length (points_in n bs l (suc j)))
  strip_grown j =
      ap length (joined_below suc (strip_bytes n bs l) j) ∙ length-append (flat_map (strip_bytes n bs l) (list_below suc j)) (strip_bytes n bs l (suc j))
      ∙ ap (λ k. strips_long j + k) (strip_long n bs l (suc j))

  pub measured_more : (j : ℕ) (sizes : List Sizes) (total : ℕ) (own : Sizes) → own ≡ size_of n bs l (j + 1) → own.vertices < 65536 → own.slots < 65536
      → Measured j sizes total → Measured (j + 1) (sizes ++ (own ∷ [])) (total + (4 * own.slots + 8 * own.vertices))
  measured_more j sizes total own is v s m =
      let one : size_of n bs l (j + 1) ≡ size_of n bs l (suc j) = ap (size_of n bs l) (add-one j) in
      let few : total ≤ 786420 * j = m.few in
      let long : total ≡ strips_long j = m.long in
      let a : own.slots ≡ length (names_in n bs l (suc j)) = ap (λ z. z.slots) (is ∙ one) in
      let b : own.vertices ≡ length (points_in n bs l (suc j)) = ap (λ z. z.vertices) (is ∙ one) in
      record {
        put =
            ap₂ (λ xs x. xs ++ (x ∷ [])) m.put (is ∙ one)
            ∙ sym (map_push (size_of n bs l) (list_below suc j) (suc j)) ∙ ap (λ k. map (size_of n bs l) (list_below suc k)) (sym (add-one j));
        long = omega (arith, strip_grown j);
        few = omega arith;
      }

  -- the sizes of strip j, counted from 0
  pub size_at : (j : ℕ) (d : Sizes) → j < strip_count bs → get_or (all_sizes n bs l) j d ≡ size_of n bs l (j + 1)
  size_at j d below =
      get_or-map (size_of n bs l) (strip_numbers bs) j 0 d (let e = below_length suc (strip_count bs) in omega arith)
      ∙ ap (size_of n bs l) (below_at suc (strip_count bs) j 0 below ∙ sym (add-one j))

  pub sizes_long : length (all_sizes n bs l) ≡ strip_count bs
  sizes_long = length-map (strip_numbers bs) (size_of n bs l) ∙ below_length suc (strip_count bs)

  -- the first j strips are written
  pub record Stripwise (j : ℕ) (part : List ℕ) (at : ℕ) : Type 0 where
    pub done : take at part ≡ flat_map (strip_bytes n bs l) (list_below suc j)
    pub here : at ≡ strips_long j

  pub stripwise_none : (part : List ℕ) → Stripwise 0 part 0
  stripwise_none part = record { done = refl; here = refl }

  -- the part of strip j + 1 ends within the whole
  pub strip_end : (j at : ℕ) (size : Sizes) → size ≡ size_of n bs l (j + 1) → at ≡ strips_long j → at + (4 * size.slots + 8 * size.vertices) ≡ strips_long (j + 1)
  strip_end j at size is here =
      let one : size_of n bs l (j + 1) ≡ size_of n bs l (suc j) = ap (size_of n bs l) (add-one j) in
      let a : size.slots ≡ length (names_in n bs l (suc j)) = ap (λ z. z.slots) (is ∙ one) in
      let b : size.vertices ≡ length (points_in n bs l (suc j)) = ap (λ z. z.vertices) (is ∙ one) in
      omega (arith, strip_grown j)

  pub strip_within : (j : ℕ) → j < strip_count bs → strips_long (j + 1) ≤ length (body_bytes n bs l)
  strip_within j below = below_longer suc (strip_bytes n bs l) (j + 1) (strip_count bs) (omega arith)

  pub strip_bytes_long : (j : ℕ) → strips_long (j + 1) ≡ strips_long j + length (strip_bytes n bs l (j + 1))
  strip_bytes_long j =
      ap length (joined_below suc (strip_bytes n bs l) j) ∙ length-append (flat_map (strip_bytes n bs l) (list_below suc j)) (strip_bytes n bs l (suc j))
      ∙ ap (λ k. strips_long j + length (strip_bytes n bs l k)) (sym (add-one j))

  pub stripwise_more : (j : ℕ) (part ys : List ℕ) (at end k : ℕ) → Stripwise j part at → ys ≡ strip_bytes n bs l (j + 1) → end ≡ strips_long (j + 1) → at ≤ length part
      → Stripwise (j + 1) (put_mid at k part ys) end
  stripwise_more j part ys at end k s is to room =
      let here : at ≡ strips_long j = s.here in
      let long : length ys ≡ length (strip_bytes n bs l (j + 1)) = ap length is in
      record {
        done =
            part_more part (flat_map (strip_bytes n bs l) (list_below suc j)) ys at end k s.done (omega (arith, strip_bytes_long j)) room
            ∙ ap (λ y. flat_map (strip_bytes n bs l) (list_below suc j) ++ y) (is ∙ ap (strip_bytes n bs l) (add-one j))
            ∙ sym (joined_below suc (strip_bytes n bs l) j);
        here = to;
      }

  -- ---- the whole
  pub written_parts : written n bs l ≡ head_bytes bs (all_sizes n bs l) ++ body_bytes n bs l
  unfolding written
  written_parts =
      ap (λ z. u16_bytes (strip_count bs) ++ z)
      (ap (λ z. z ++ (flat_map i32_bytes bs ++ body_bytes n bs l)) (sym (joined_map sizes_bytes (size_of n bs l) (strip_numbers bs)))
      ∙ sym (append_assoc (flat_map sizes_bytes (all_sizes n bs l)) (flat_map i32_bytes bs) (body_bytes n bs l)))

pub head_long : (bs : List ℤ) (sizes : List Sizes) → length (head_bytes bs sizes) ≡ 2 + 4 * length sizes + 4 * length bs
head_long bs sizes =
    length-append (u16_bytes (strip_count bs)) (flat_map sizes_bytes sizes ++ flat_map i32_bytes bs)
    ∙ (let a = length-append (flat_map sizes_bytes sizes) (flat_map i32_bytes bs) in
    let b = length_joined sizes_bytes 4 (λ _. refl) sizes in
    let d = length_joined i32_bytes 4 (λ _. refl) bs in omega arith)

-- the head and the body over the first bytes of a buffer
pub laid : (out head body : List ℕ) (h e : ℕ) → length head ≡ h → h + length body ≡ e → e ≤ length out
    → put_mid h (e - h) (head ++ drop (h - 0) out) body ≡ (head ++ body) ++ drop e out
laid out head body h e lh le room =
    sym (take-append-drop e whole) ∙ ap₂ (λ x y. x ++ y) front back
  where
    first : List ℕ
    first = head ++ drop (h - 0) out

    whole : List ℕ
    whole = put_mid h (e - h) first body

    long : length first ≡ length out
    long = length-append head (drop (h - 0) out) ∙ (let d = length-drop (h - 0) out in omega arith)

    front : take e whole ≡ head ++ body
    front = part_more first head body h e (e - h) (take_at head (drop (h - 0) out) h lh) (sym le) (omega (arith, long))

    back : drop e whole ≡ drop e out
    back = drop-put_mid h (e - h) first body e (omega arith) (omega (arith, long)) (omega arith)
        ∙ drop-append-drop (h - 0) out head e (omega arith) (omega arith)

-- the head: two bytes, the sizes and the borders
pub head_laid : (part count sizes borders : List ℕ) (s b : ℕ) → length part ≡ 2 + 4 * s + 4 * b → length count ≡ 2 → length sizes ≡ 4 * s → length borders ≡ 4 * b
    → put_mid (2 + 4 * s) (length part - (2 + 4 * s)) (put_mid 2 (2 + 4 * s - 2) (count ++ drop 2 part) sizes) borders ≡ count ++ (sizes ++ borders)
head_laid part count sizes borders s b long lc ls lb = sym (take_all (length part) last (omega (arith, long₃))) ∙ whole ∙ append_assoc count sizes borders
  where
    first : List ℕ
    first = count ++ drop 2 part

    second : List ℕ
    second = put_mid 2 (2 + 4 * s - 2) first sizes

    last : List ℕ
    last = put_mid (2 + 4 * s) (length part - (2 + 4 * s)) second borders

    long₁ : length first ≡ length part
    long₁ = length-append count (drop 2 part) ∙ (let d = length-drop 2 part in omega arith)

    long₂ : length second ≡ length part
    long₂ = length_put_mid 2 (2 + 4 * s - 2) first sizes (omega (arith, long₁)) (omega arith) ∙ long₁

    long₃ : length last ≡ length part
    long₃ = length_put_mid (2 + 4 * s) (length part - (2 + 4 * s)) second borders (omega (arith, long₂)) (omega arith) ∙ long₂

    whole : take (length part) last ≡ (count ++ sizes) ++ borders
    whole = part_more second (count ++ sizes) borders (2 + 4 * s) (length part) _
        (part_more first count sizes 2 (2 + 4 * s) _ (take_at count (drop 2 part) 2 lc) (omega arith) (omega (arith, long₁)))
        (omega arith) (omega (arith, long₂))

-- how many bytes the whole takes
pub written_long : (n : ℕ) (bs : List ℤ) (l : Linework) (s b : ℕ) → s ≡ strip_count bs → b ≡ length (body_bytes n bs l) → 2 + 4 * s + 4 * length bs + b ≡ length (written n bs l)
written_long n bs l s b many long =
    let few : length (all_sizes n bs l) ≡ strip_count bs = sizes_long n bs l in
    let head : length (head_bytes bs (all_sizes n bs l)) ≡ 2 + 4 * length (all_sizes n bs l) + 4 * length bs = head_long bs (all_sizes n bs l) in
    let whole : length (written n bs l) ≡ length (head_bytes bs (all_sizes n bs l)) + length (body_bytes n bs l) =
    ap length (written_parts n bs l) ∙ length-append (head_bytes bs (all_sizes n bs l)) (body_bytes n bs l) in
    omega arith

-- the part between the head and the end
pub rest_long : (out head : List ℕ) (h e : ℕ) → length head ≡ h → h ≤ e → e ≤ length out → length (take (e - h) (drop h (head ++ drop (h - 0) out))) ≡ e - h
rest_long out head h e lh order room =
    let first = head ++ drop (h - 0) out in
    let a : length first ≡ length head + length (drop (h - 0) out) = length-append head (drop (h - 0) out) in
    let b = length-drop (h - 0) out in
    let fits : e - h ≤ length (drop h first) = omega (arith, length-drop h first) in
    length-take-le (e - h) (drop h first) fits
