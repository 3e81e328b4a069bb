-- What is written of line work that a sheet may hold tells this line work. Assumes nothing.
use Rattle.std.proofs.Common.{◌≡◌, ℕ, zero, suc, ◌^◌, ◌<◌, ◌≤◌, true, List, [], ◌∷◌, length, get_or, ℤ, pos, negsuc, Some, None, Option, refl, ◌∙◌, arith, w16, w32, SFits}
use Rattle.std.proofs.lemmas.Int.{ints}
use Rattle.std.proofs.lemmas.Bool.{and_parts, both_ways}
use Rattle.flat.specs.Orbits.{◌∈◌, filter}
use Rattle.flat.proofs.Trails.{filter_is}
use Rattle.turning.specs.Limits.{max_edge, max_coordinate, slots}
use Rattle.turning.proofs.Listed.{Named, held_named}
use Rattle.chart.specs.declared.point.Point.{Point}
use Rattle.chart.specs.Points.{within, told_on_sheet}
use Rattle.chart.specs.Linework.{Linework}
use Rattle.halfedges.specs.Copies.{point_or_origin}
use Rattle.strips.specs.Borders.{rise_after}
use Rattle.strips.proofs.Cutting.{rise_parts, rise_first}
use Rattle.told.specs.Tells.{Standing, Tells}
use Rattle.file.specs.Strips.{none}
use Rattle.writing.specs.Written.{names_in, starts_in, points_in, written}
use Rattle.writing.specs.Theorems.{WrittenTells}
use Rattle.writing.proofs.Listing.{in_at, filter_few}
use Rattle.writing.proofs.Slotting.{runs_held, strip_runs, strip_few}
use Rattle.writing.proofs.Pointing.{new_few, new_all}
use Rattle.writing.proofs.InArrays.{Codable, count_told, border_told, strip_told, whole_told}
use Rattle.writing.proofs.Rounds.{strip_tells}

-- ---- numbers within the limits fit their bytes
name_fits : (n : ℕ) (h : ℤ) → n < 2 ^ 15 → Named n h → SFits w16 h
name_fits n (pos k) l m = omega (arith, ints)
name_fits n (negsuc k) l m = omega (arith, ints)

coordinate_fits : (z : ℤ) → within z ≡ true → SFits w32 z
coordinate_fits z e = grind (arith, ints)

-- both coordinates of a point fit
abbrev PointFits : Point → Type 0
PointFits p = SFits w32 p.x × SFits w32 p.y

point_fits : (o : Option Point) → told_on_sheet o ≡ true → PointFits (point_or_origin o)
point_fits None e = absurd (both_ways _ refl e)
point_fits (Some p) e = let r = and_parts (within p.x) (within p.y) e in (coordinate_fits p.x r.0, coordinate_fits p.y r.1)

rise_within : (last : ℤ) (bs : List ℤ) → rise_after last bs ≡ true → (k : ℕ) → k < length bs → within (get_or bs k (pos 0)) ≡ true
rise_within last [] r k h = absurd (omega arith)
rise_within last (b ∷ bs) r zero h = (rise_parts last b bs r).0
rise_within last (b ∷ bs) r (suc k) h = rise_within b bs (rise_parts last b bs r).2 k (omega arith)

module _ (n cap : ℕ) (bs : List ℤ) (l : Linework) (stands : Standing n cap bs l) (few_names : n < 2 ^ 15) (few_slots : cap < none) where
  held_in : (i : ℕ) (h : ℤ) → h ∈ names_in n bs l i → l.turn.held h ≡ true
  held_in i h m = runs_held n bs l stands.sound i h (strip_runs n bs l stands.sound i h m)

  slots_small : (i : ℕ) → length (names_in n bs l i) < none
  slots_small i = omega (arith, strip_few n bs l stands.sound i, stands.room)

  vertices_few : (i : ℕ) → length (points_in n bs l i) ≤ length (names_in n bs l i)
  unfolding points_in
  vertices_few i = omega (arith, new_few l [] (filter (starts_in bs l i) (names_in n bs l i)), filter_few (starts_in bs l i) (names_in n bs l i))

  points_fit : (i k : ℕ) → k < length (points_in n bs l i) → PointFits (get_or (points_in n bs l i) k (point_or_origin None))
  unfolding points_in
  points_fit i k h =
      new_all l PointFits (point_or_origin None) [] (filter (starts_in bs l i) (names_in n bs l i))
      (λ z m. point_fits (l.points z) (stands.sound.1.somewhere z (held_in i z (((filter_is (starts_in bs l i) (names_in n bs l i)).1 z).0 m).0))) k h

  codable : Codable n bs l
  codable = record {
    strips = omega (arith, stands.few);
    slots = λ i. omega (arith, slots_small i);
    vertices = λ i. omega (arith, slots_small i, vertices_few i);
    borders = λ k h. coordinate_fits _ (rise_within (negsuc max_coordinate) bs (rise_first bs ∙ stands.rises) k h);
    names = λ i k h. name_fits n _ few_names (held_named n l.turn stands.sound.0 _ (held_in i _ (in_at (pos 0) (names_in n bs l i) k h)));
    points = points_fit;
  }

  pub tells : Tells bs l (written n bs l)
  tells = record {
    count = count_told n bs l codable;
    border = border_told n bs l codable;
    whole = whole_told n bs l codable;
    each = λ j h. strip_tells n bs l stands.sound (suc j) _ (strip_told n bs l codable j (omega (arith, count_told n bs l codable))) (slots_small (suc j));
  }

pub written_tells : WrittenTells
written_tells bs l stands = tells max_edge slots bs l stands (omega arith) (omega arith)
