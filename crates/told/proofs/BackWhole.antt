-- Bytes that tell line work which a sheet may hold pass the questions 1 to 16, and tell no other.
use Rattle.std.proofs.Common.{◌≡◌, ℕ, zero, suc, ◌+◌, ◌-◌, ◌<◌, ◌≤◌, Bool, true, ◌&&◌, ◌||◌, eqb, leb, List, [], ◌∷◌, length, ℤ, pos, None, refl, ap, ◌∙◌, subst, ap₂, arith}
use lib.Signed.{lt_z}
use Rattle.std.proofs.lemmas.Bool.{and_from, eq-eqb, le-leb}
use Rattle.turning.specs.Limits.{max_edge, max_strips, slots as max_slots}
use Rattle.chart.specs.Points.{on_sheet, within}
use Rattle.chart.specs.Linework.{Linework}
use Rattle.strips.specs.Borders.{strip_of}
use Rattle.file.specs.declared.questions.SeamQuestion.{SeamQuestion}
use Rattle.file.specs.declared.questions.FileQuestion.TheVariants.{Count, SizesThere, SizesFit, Length, Borders}
use Rattle.file.specs.declared.questions.SeamQuestion.TheVariants.{RunsOn, StartsHere, Homes, WestFirst}
use Rattle.file.specs.Places.{sum_below, at, each}
use Rattle.file.specs.Layout.{strips, strip, slots_in, vertices_in, border, strip_at, western, eastern}
use Rattle.file.specs.Strips.{none, rounds, opens}
use Rattle.file.specs.Questions.{count_good, sizes_there, size_good, length_right, border_good, not_west_of, west_of, point_good, runs_on, starts_here, home_new, west_first}
use Rattle.file.specs.Verdict.{file_fault, seam_fault, of_file, of_strip, of_seam, q13, q14, q15, q16, file_verdict, strip_verdict, strips_verdict, over_strips, seam_verdict, shape_verdict, told_lines}
use Rattle.file.proofs.Places.{sum_mono, sum_within, once_right, skip, first_fault_none}
use Rattle.file.proofs.Sizes.{file_none}
use Rattle.told.specs.Tells.{borders_in, Standing, Tells}
use Rattle.told.proofs.Tally.{tallied}
use Rattle.told.proofs.BackPlaces.{count_most}
use Rattle.told.proofs.BackStrip.{vertex_lies}
use Rattle.told.proofs.BackAsked.{all_good, strip_passes, all_west_first}
use Rattle.told.proofs.BackSeam.{all_run_on, all_start_here, all_home_new}
use Rattle.told.proofs.BackLines.{told_are}
use Rattle.told.proofs.BackFile.{below_is, rises_at, past_western, before_eastern}

module _ (b : List ℕ) (bs : List ℤ) (l : Linework) (may : Standing max_edge max_slots bs l) (tells : Tells bs l b) where
  -- ---- questions 1 to 5
  counted : count_good b ≡ true
  counted =
      let some : 1 ≤ strips b = omega (arith, tells.count) in
      let most : strips b ≤ max_strips = omega (arith, tells.count, may.few) in
      and_from (leb 2 (length b)) (leb 1 (strips b) && leb (strips b) max_strips) (le-leb 2 (length b) (omega (arith, tells.whole)))
      (and_from (leb 1 (strips b)) (leb (strips b) max_strips) (le-leb 1 (strips b) some) (le-leb (strips b) max_strips most))

  total : sum_below (slots_in b) (strips b) ≤ max_slots
  total = subst (λ k. k ≤ max_slots) (tallied max_edge bs l b may.sound tells) may.room

  -- no more vertices than slots, and slots within the limit
  fewer : (j : ℕ) → j < strips b → vertices_in b j ≤ slots_in b j
  unfolding rounds
  fewer j h = subst (λ v. v ≤ slots_in b j) (tells.each j h).round (count_most (opens (strip b j)) (slots_in b j))

  few : (j : ℕ) → j < strips b → (strip b j).slots ≤ none
  few j h = omega (arith, sum_within (slots_in b) j (strips b) h, total)

  sized : (j : ℕ) → j < strips b → size_good b j ≡ true
  sized j h =
      let m = sum_mono (slots_in b) (suc j) (strips b) (omega arith) in
      and_from (leb (vertices_in b j) (slots_in b j)) (leb (sum_below (slots_in b) (suc j)) max_slots) (le-leb (vertices_in b j) (slots_in b j) (fewer j h))
      (le-leb (sum_below (slots_in b) (suc j)) max_slots (omega (arith, total)))

  inner : (k : ℕ) → k < strips b - 1 → k < length bs
  inner k h = omega (arith, tells.count)

  bordered : (k : ℕ) → k < strips b - 1 → border_good b k ≡ true
  bordered k h =
      let here = tells.border k (inner k h) in
      let before = tells.border (k - 1) (omega (arith, inner k h)) in
      ap₂ (λ x y. within x && (eqb k 0 || lt_z y x)) here before ∙ rises_at bs may.rises k (inner k h)

  file_passes : file_verdict b ≡ None
  file_passes = file_none b
      (once_right (λ _. file_fault Count 0 0) (count_good b) counted)
      (once_right (λ _. file_fault SizesThere 0 0) (sizes_there b) (le-leb _ _ (omega (arith, tells.whole))))
      (all_good (λ j. file_fault SizesFit (j + 1) 0) (strips b) (size_good b) sized)
      (once_right (λ _. file_fault Length 0 0) (length_right b) (eq-eqb (length b) (strip_at b (strips b)) tells.whole))
      (all_good (λ k. file_fault Borders 0 k) (strips b - 1) (border_good b) bordered)

  -- ---- questions 6 to 12
  past : (x : ℤ) (j : ℕ) → j < strips b → strip_of bs x ≡ suc j → not_west_of (western b j) x ≡ true
  past x zero h e = refl
  past x (suc j) h e = past_western bs may.rises (border b) tells.border x j (omega (arith, tells.count)) e

  lies : (j : ℕ) → j < strips b → (v : ℕ) → v < (strip b j).vertices → point_good (western b j) (eastern b j) (strip b j) v ≡ true
  lies j h v g =
      let p = (strip b j).point v in
      let r = vertex_lies max_edge bs l may.sound (suc j) (strip b j) (few j h) (tells.each j h) v g in
      and_from (on_sheet p) (not_west_of (western b j) p.x && west_of (eastern b j) p.x) r.0
      (and_from (not_west_of (western b j) p.x) (west_of (eastern b j) p.x) (past p.x j h r.1)
      (before_eastern bs may.rises (border b) tells.border p.x (strips b) tells.count j h r.1))

  strips_pass : strips_verdict b ≡ None
  unfolding strips_verdict
  strips_pass = first_fault_none (λ j. strip_verdict (western b j) (eastern b j) (strip b j) (j + 1)) (strips b)
      (λ j h. strip_passes bs l may.sound (suc j) (strip b j) (few j h) (tells.each j h) (western b j) (eastern b j) (lies j h) (j + 1))

  -- ---- questions 13 to 16
  over : (q : SeamQuestion) (good : ℕ → ℕ → Bool) → ((j : ℕ) → j < strips b → (k : ℕ) → k < (strip b j).slots → good j k ≡ true) → over_strips q b good ≡ None
  over q good all = first_fault_none (λ j. at (seam_fault q (j + 1)) (each (strip b j).slots (good j))) (strips b)
      (λ j h. all_good (seam_fault q (j + 1)) (strip b j).slots (good j) (all j h))

  seams_pass : seam_verdict b ≡ None
  unfolding seam_verdict q13 q14 q15 q16
  seams_pass =
      skip (q13 b) (q14 b ∷ q15 b ∷ q16 b ∷ []) (over RunsOn (runs_on (strips b) (strip b)) (all_run_on max_edge bs l may.sound (strips b) (strip b) tells.count few tells.each))
      ∙ skip (q14 b) (q15 b ∷ q16 b ∷ []) (over StartsHere (starts_here (strips b) (strip b)) (all_start_here max_edge bs l may.sound (strips b) (strip b) tells.count few tells.each))
      ∙ skip (q15 b) (q16 b ∷ []) (over Homes (home_new (strip b)) (all_home_new max_edge bs l may.sound (strips b) (strip b) tells.count few tells.each))
      ∙ skip (q16 b) [] (over WestFirst (λ j. west_first (strip b j)) (λ j h. all_west_first max_edge bs l may.sound (suc j) (strip b j) (few j h) (tells.each j h)))

  -- ---- together
  passes : shape_verdict b ≡ None
  unfolding shape_verdict
  passes =
      skip (at of_file (file_verdict b)) (at of_strip (strips_verdict b) ∷ at of_seam (seam_verdict b) ∷ []) (ap (at of_file) file_passes)
      ∙ skip (at of_strip (strips_verdict b)) (at of_seam (seam_verdict b) ∷ []) (ap (at of_strip) strips_pass)
      ∙ skip (at of_seam (seam_verdict b)) [] (ap (at of_seam) seams_pass)

  borders_are : borders_in b ≡ bs
  unfolding borders_in
  borders_are = below_is (border b) bs (pos 0) tells.border (strips b - 1) (omega (arith, tells.count))

  lines_are : told_lines b ≡ l
  lines_are = told_are max_edge bs l may.sound (strips b) (strip b) tells.count few tells.each

  pub told_accepted : (shape_verdict b ≡ None) × (borders_in b ≡ bs) × (told_lines b ≡ l)
  told_accepted = (passes, borders_are, lines_are)
