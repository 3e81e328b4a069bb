-- The theorems of specs/Theorems.antt, for any names.
-- Assumes nothing.
use Rattle.std.proofs.Common.{◌≡◌, Bool, T, ◌⊎◌, ◌↔◌, [], ◌∷◌, refl, le_antisymm, arith}
use Rattle.flat.specs.Orbits.{◌∈◌, spliced, orbits, linked}
use Rattle.flat.specs.Turnings.{splice, hung}
use Rattle.flat.specs.Theorems.{LinkedIsWalk, OrbitsCount, OrbitsFound, OrbitsOrder, EdgesArePairs, Euler, SpliceOfTwo, SpliceOfOne, StartKeeps, SproutKeeps, JoinKeeps, RemoveKeeps, CleaveKeeps, Alike, HangKeeps, HangCounts, JoinIs, RemoveIs, CleaveIs, TestIsLaw, SpliceOrbits, StartCounts, SproutCounts, JoinCounts, CleaveCounts, AnyHang, AnyHangCounts, AnyLift, AnyCleave, AnyCleaveCounts, TrailApart, TrailWhole, ClosedIsReach, FilterIs, PointsAreRounds}
use Rattle.flat.proofs.Walks.{linked_walk, walk_linked}
use Rattle.flat.proofs.Trails.{trail_apart, trail_whole, closed_is_reach, filter_is}
use Rattle.flat.proofs.Counts.{finer}
use Rattle.flat.proofs.Splice.{perm_keeps, apart_joined, one_parted, orbits_joined, orbits_parted}
use Rattle.flat.proofs.Reps.{orbits_counted, some_reps, orbits_alike}
use Rattle.flat.proofs.Turns.{splice_lawful, rounds_parted, perm_follower}
use Rattle.flat.proofs.Euler.{twice_edges, euler}
use Rattle.flat.proofs.Alike.{alike_counts}
use Rattle.flat.proofs.Beside.{started_lawful}
use Rattle.flat.proofs.Flats.{splice_rounds, splice_effect, started_flat, sprouted_lawful, sprouted_flat, joined_lawful, joined_flat, joined_broken, started_counts, sprouted_counts, joined_counts}
use Rattle.flat.proofs.Removes.{removed_lawful, removed_flat}
use Rattle.flat.proofs.Cleaves.{cleft_lawful, cleft_flat, cleft_counts}
use Rattle.flat.proofs.Hangs.{hang_lawful, hang_counts, hang_flat}
use Rattle.flat.proofs.Shapes.{join_is, remove_is, cleave_parts}
use Rattle.flat.proofs.Anyway.{any_hang_counts, any_lift, any_cleave_counts}
use Rattle.flat.proofs.Tested.{test_is_law}

module _ (A : Type 0) (same : A → A → Bool) (neg : A → A) (same_is : (x y : A) → T (same x y) ↔ (x ≡ y)) where
  pub linked_is_walk : LinkedIsWalk A same neg
  linked_is_walk ss held k x y m = (linked_walk same same_is ss held k x y m, walk_linked same same_is ss held k x y m)

  pub orbits_count : OrbitsCount A same neg
  orbits_count ss held k b = orbits_counted same same_is ss held (k, b)

  pub orbits_found : OrbitsFound A same neg
  orbits_found ss held k b = some_reps same same_is ss held (k, b)

  pub orbits_order : OrbitsOrder A same neg
  orbits_order ss held held' k b h = orbits_alike same same_is ss ss held held' (k, b)
      ((λ x y m s. (h y).0 (k x y ((h x).1 m) s)), λ x y m s. b x y ((h x).1 m) s) (λ x m. (h x).0 m) (λ x m. (h x).1 m) (λ x y m p. p) (λ x y m p. p)

  pub edges_are_pairs : EdgesArePairs A same neg
  edges_are_pairs = twice_edges same same_is neg

  pub euler_holds : Euler A same neg
  euler_holds = euler same same_is neg

  pub splice_of_two : SpliceOfTwo A same neg
  splice_of_two t law a b am bm n = (
    splice_lawful same same_is neg t law a b am bm,
    splice_rounds same same_is neg t law a b am bm n,
    splice_effect same same_is neg t law a b am bm n,
    apart_joined same same_is t.held a b am bm t.follower (splice neg same a b t).follower (λ x m. refl) (perm_follower same same_is neg t law) n,
  )

  pub splice_of_one : SpliceOfOne A same neg
  splice_of_one t law a b am bm d j = (
    rounds_parted same same_is neg t (splice neg same a b t).follower (splice neg same a b t).predecessor
        law (splice_lawful same same_is neg t law a b am bm) a b am bm (λ x m. refl) d j,
    one_parted same same_is t.held a b am bm t.follower (splice neg same a b t).follower (λ x m. refl) (perm_follower same same_is neg t law) d j,
  )

  pub start_keeps : StartKeeps A same neg
  start_keeps t law e free = (started_lawful same same_is neg t law e free, started_flat same same_is neg t law e free)

  pub sprout_keeps : SproutKeeps A same neg
  sprout_keeps t law e free c cm = (sprouted_lawful same same_is neg t law e free c cm, sprouted_flat same same_is neg t law e free c cm)

  pub join_keeps : JoinKeeps A same neg
  join_keeps t law e free c d cm dm = (
    joined_lawful same same_is neg t law e free c cm d dm,
    (λ h o. joined_flat same same_is neg t law e free c cm d dm o h),
    λ h p n. joined_broken same same_is neg t law e free c cm d dm p n h,
  )

  pub remove_keeps : RemoveKeeps A same neg
  remove_keeps t law e em = (removed_lawful same same_is neg t law e em, removed_flat same same_is neg t law e em)

  pub cleave_keeps : CleaveKeeps A same neg
  cleave_keeps t law e em f free = (cleft_lawful same same_is neg t law e em f free, cleft_flat same same_is neg t law e em f free)

  pub alike : Alike A same neg
  alike = alike_counts same same_is neg

  pub hanging : HangKeeps A same neg
  hanging t law e free c d cm dm = (
    hang_lawful same same_is neg t law e free c d cm dm,
    hang_flat same same_is neg t (hung neg same e c d t) law c d cm (hang_counts same same_is neg t law e free c d cm dm),
  )

  pub hanging_counts : HangCounts A same neg
  hanging_counts = hang_counts same same_is neg

  pub joining : JoinIs A same neg
  joining t law e free c d cm dm cd = join_is same same_is neg t e free c d cm dm cd

  pub removing : RemoveIs A same neg
  removing t law e em x m = remove_is same same_is neg t law e em x m

  pub cleaving : CleaveIs A same neg
  cleaving t law e em f free = cleave_parts same same_is neg t law e em f free

  pub testing : TestIsLaw A same neg
  testing t h = test_is_law same same_is neg t h

  pub splice_orbits : SpliceOrbits A same neg
  splice_orbits f held k i a b am bm d = (
    (λ n. orbits_joined same same_is held a b am bm f (spliced same a b f) (λ x m. refl) (k, i) n),
    λ j. orbits_parted same same_is held a b am bm f (spliced same a b f) (λ x m. refl) (k, i) d j,
  )

  pub start_counts : StartCounts A same neg
  start_counts t law e free = started_counts same same_is neg t law e free

  pub sprout_counts : SproutCounts A same neg
  sprout_counts t law e free c cm = sprouted_counts same same_is neg t law e free c cm

  pub join_counts : JoinCounts A same neg
  join_counts t law e free c d cm dm = joined_counts same same_is neg t law e free c cm d dm

  pub cleave_counts : CleaveCounts A same neg
  cleave_counts t law e em f free = cleft_counts same same_is neg t law e em f free

  pub any_hanging : AnyHang A same neg
  any_hanging t t' law law' e free c d cm dm cd h f = hang_flat same same_is neg t t' law c d cm (any_hang_counts same same_is neg t law e free t' law' c d cm dm cd h f)

  pub any_hanging_counts : AnyHangCounts A same neg
  any_hanging_counts t t' law law' e free c d cm dm cd h f = any_hang_counts same same_is neg t law e free t' law' c d cm dm cd h f

  pub any_lifting : AnyLift A same neg
  any_lifting = any_lift same same_is neg

  pub any_cleaving : AnyCleave A same neg
  any_cleaving t t' law law' e em k free h f flat = let m = any_cleave_counts same same_is neg t law e em k free t' law' h f in omega arith

  pub any_cleaving_counts : AnyCleaveCounts A same neg
  any_cleaving_counts t t' law law' e em k free h f = any_cleave_counts same same_is neg t law e em k free t' law' h f

  pub trails_apart : TrailApart A same neg
  trails_apart f held h i x m k n = trail_apart f held h i x m k n

  pub trails_whole : TrailWhole A same neg
  trails_whole = trail_whole

  pub closed_reach : ClosedIsReach A same neg
  closed_reach = closed_is_reach

  pub filter_those : FilterIs A same neg
  filter_those = filter_is

  pub points_are_rounds : PointsAreRounds A same neg
  unfolding orbits
  points_are_rounds t law r h = le_antisymm
      (finer t.held r l (λ x y m n q. (h x y m n).1 (linked_walk same same_is (t.follower ∷ []) t.held k x y m q)) t.held (λ z m. m))
      (finer t.held l r (λ x y m n q. walk_linked same same_is (t.follower ∷ []) t.held k x y m ((h x y m n).0 q)) t.held (λ z m. m))
    where
      l : A → A → Bool
      l = linked same (t.follower ∷ []) t.held

      k : (x y : A) → x ∈ t.held → (y ≡ t.follower x) ⊎ ⊥ → y ∈ t.held
      k = perm_keeps same same_is t.follower t.held (perm_follower same same_is neg t law)
