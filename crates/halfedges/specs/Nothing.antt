-- A memory in whose index nothing stands means no line work. Assumes nothing.
use Rattle.std.specs.Prelude.{◌≡◌, ℕ, false, not, ◌&&◌, List, length, ℤ, None, ◌==◌, nat_le, refl}
use Rattle.std.proofs.Common.{ap, ◌∙◌}
use Rattle.std.proofs.lemmas.Bool.{cond-false, both_ways}
use Rattle.chart.specs.Linework.{no_lines}
use Rattle.laws.specs.Keeps.{Sound}
use Rattle.halfedges.specs.declared.halfedge.Halfedge.{Halfedge}
use Rattle.halfedges.specs.View.{View, none, key, is_name, entry_at, row_of, row_at, view}
use Rattle.halfedges.specs.Rows.{turn_of, points_of, lines_in}

-- an index without an entry means no line work
pub nothing_lines : (v : View) → ((h : ℤ) → v.entry h ≡ 0) → v.row 0 ≡ none → lines_in v ≡ no_lines
nothing_lines v empty zero_row = λ i. record {
  turn = record {
    held = λ h. held h i;
    follower = λ h. (row h i).follower;
    predecessor = λ h. (row h i).predecessor;
  };
  points = λ h. point h i;
}
  where
    held : (h : ℤ) → (turn_of v).held h ≡ false
    held h = ap (λ n. not (n == 0)) (empty h)

    row : (h : ℤ) → row_of v h ≡ none
    row h = ap v.row (empty h) ∙ zero_row

    point : (h : ℤ) → points_of v h ≡ None
    point h = cond-false _ _ _ (held h)

-- nothing is found in a memory that is too short
pub short_lines : (n cap : ℕ) (rs : List Halfedge) → nat_le cap (length rs) ≡ false → lines_in (view n cap rs) ≡ no_lines
unfolding view row_at
short_lines n cap rs short = nothing_lines (view n cap rs) (λ h. cond-false (nat_le cap (length rs) && is_name n h) (entry_at rs (key n h)) 0 (ap (λ b. b && is_name n h) short)) refl

-- no line work is lawful and placed
pub nothing_sound : (n : ℕ) → Sound n no_lines
nothing_sound n = (
  record {
    no_zero = refl;
    low = λ h e. absurd (both_ways false refl e);
    high = λ h e. absurd (both_ways false refl e);
    closed = λ h e. e;
    ahead = λ h e. e;
    behind = λ h e. e;
    undone = λ h e. absurd (both_ways false refl e);
    redone = λ h e. absurd (both_ways false refl e);
    no_follower = λ h e. refl;
    no_predecessor = λ h e. refl;
  },
  record {
    nowhere = λ h e. refl;
    somewhere = λ h e. absurd (both_ways false refl e);
    together = λ g h e f s. absurd (both_ways false refl e);
    alike = λ h e. refl;
    westward = λ k e. absurd (both_ways false refl e);
  },
)
