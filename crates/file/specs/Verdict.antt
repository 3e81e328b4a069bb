-- The questions in order, and the verdict: the first that is answered no. Strips are numbered from 1 in faults.
-- Assumes nothing.
use Rattle.std.specs.Prelude.{ℕ, ◌+◌, ◌-◌, Bool, List, [], ◌∷◌, ℤ, Option, ◌==◌}
use Rattle.turning.specs.Limits.{max_edge}
use Rattle.chart.specs.Linework.{Linework}
use Rattle.file.specs.declared.fault.Fault.{Fault}
use Rattle.file.specs.declared.fault.QuestionFault.{QuestionFault}
use Rattle.file.specs.declared.fault.Layer.TheVariants.{File, Strip, Seam, Flat}
use Rattle.file.specs.declared.questions.FileQuestion.{FileQuestion}
use Rattle.file.specs.declared.questions.FileQuestion.TheVariants.{Count, SizesThere, SizesFit, Length, Borders}
use Rattle.file.specs.declared.questions.StripQuestion.{StripQuestion}
use Rattle.file.specs.declared.questions.StripQuestion.TheVariants.{Names, Pairs, Followers, Followed, Rounds, Points, NewPoints}
use Rattle.file.specs.declared.questions.SeamQuestion.{SeamQuestion}
use Rattle.file.specs.declared.questions.SeamQuestion.TheVariants.{RunsOn, StartsHere, Homes, WestFirst}
use Rattle.file.specs.Numbers.{file_number, strip_number, seam_number}
use Rattle.file.specs.Faults.{fault_at, told_fault}
use Rattle.file.specs.Places.{at, each, once, first_of, first_from}
use Rattle.file.specs.Layout.{strips, strip, western, eastern}
use Rattle.file.specs.Strips as of
use Rattle.file.specs.Questions.{count_good, sizes_there, size_good, length_right, border_good, name_good, paired, follower_good, followed_right, point_good, point_new, runs_on, starts_here, home_new, west_first}
use Rattle.file.specs.Lines.{lines_of, flat}

-- a fault of the whole file, of a strip, of the seams
abbrev pub FileFault : Type 0
FileFault = QuestionFault FileQuestion

abbrev pub StripFault : Type 0
StripFault = QuestionFault StripQuestion

abbrev pub SeamFault : Type 0
SeamFault = QuestionFault SeamQuestion

-- the fault of question q of the whole file, strip s, place p
abbrev pub file_fault : FileQuestion → ℕ → ℕ → FileFault
file_fault = fault_at

-- the same in the layer of the strips
abbrev pub strip_fault : StripQuestion → ℕ → ℕ → StripFault
strip_fault = fault_at

-- the same in the layer of the seams
abbrev pub seam_fault : SeamQuestion → ℕ → ℕ → SeamFault
seam_fault = fault_at

-- a fault of the file, as the reader tells it
abbrev pub of_file : FileFault → Fault
of_file = told_fault File file_number

-- a fault of a strip, as the reader tells it
abbrev pub of_strip : StripFault → Fault
of_strip = told_fault Strip strip_number

-- a fault of the seams, as the reader tells it
abbrev pub of_seam : SeamFault → Fault
of_seam = told_fault Seam seam_number

-- 1: two bytes, and a count of strips in range
abbrev pub q1 : List ℕ → Option FileFault
q1 b = at (λ _. file_fault Count 0 0) (once (count_good b))

-- 2: the sizes are all there
abbrev pub q2 : List ℕ → Option FileFault
q2 b = at (λ _. file_fault SizesThere 0 0) (once (sizes_there b))

-- 3: sizes within the limits, strip by strip
abbrev pub q3 : List ℕ → Option FileFault
q3 b = at (λ j. file_fault SizesFit (j + 1) 0) (each (strips b) (size_good b))

-- 4: the right length
abbrev pub q4 : List ℕ → Option FileFault
q4 b = at (λ _. file_fault Length 0 0) (once (length_right b))

-- 5: borders in range that rise, border by border
abbrev pub q5 : List ℕ → Option FileFault
q5 b = at (λ k. file_fault Borders 0 k) (each (strips b - 1) (border_good b))

-- the first of the questions 1 to 5 that is answered no
unfoldable pub file_verdict : List ℕ → Option FileFault
file_verdict b = first_of (q1 b ∷ (q2 b ∷ (q3 b ∷ (q4 b ∷ (q5 b ∷ [])))))

-- 6: names in range, of a strip s, which has the number j in faults
abbrev pub q6 : of.Strip → ℕ → Option StripFault
q6 s j = at (strip_fault Names j) (each s.slots (name_good max_edge s))

-- 7: each name once, with its negation
abbrev pub q7 : of.Strip → ℕ → Option StripFault
q7 s j = at (strip_fault Pairs j) (each s.slots (paired s))

-- 8: each follower a slot or none
abbrev pub q8 : of.Strip → ℕ → Option StripFault
q8 s j = at (strip_fault Followers j) (each s.slots (follower_good s))

-- 9: each home slot followed once, each external slot never
abbrev pub q9 : of.Strip → ℕ → Option StripFault
q9 s j = at (strip_fault Followed j) (each s.slots (followed_right s))

-- 10: as many rounds as vertices
abbrev pub q10 : of.Strip → ℕ → Option StripFault
q10 s j = at (λ _. strip_fault Rounds j 0) (once (of.rounds s == s.vertices))

-- 11: points in range and in the strip
abbrev pub q11 : Option ℤ → Option ℤ → of.Strip → ℕ → Option StripFault
q11 w e s j = at (strip_fault Points j) (each s.vertices (point_good w e s))

-- 12: points that differ
abbrev pub q12 : of.Strip → ℕ → Option StripFault
q12 s j = at (strip_fault NewPoints j) (each s.vertices (point_new s))

-- the first of the questions 6 to 12 of the strip that is answered no
unfoldable pub strip_verdict : Option ℤ → Option ℤ → of.Strip → ℕ → Option StripFault
strip_verdict w e s j = first_of (q6 s j ∷ (q7 s j ∷ (q8 s j ∷ (q9 s j ∷ (q10 s j ∷ (q11 w e s j ∷ (q12 s j ∷ [])))))))

-- all questions of one strip before the next
unfoldable pub strips_verdict : List ℕ → Option StripFault
strips_verdict b = first_from (λ j. strip_verdict (western b j) (eastern b j) (strip b j) (j + 1)) 0 (strips b)

-- one question of the seams, over all strips
abbrev pub over_strips : SeamQuestion → List ℕ → (ℕ → ℕ → Bool) → Option SeamFault
over_strips q b good = first_from (λ j. at (seam_fault q (j + 1)) (each (strip b j).slots (good j))) 0 (strips b)

-- 13: external names stand in the neighbour strip too
unfoldable pub q13 : List ℕ → Option SeamFault
q13 b = over_strips RunsOn b (runs_on (strips b) (strip b))

-- 14: home names do not
unfoldable pub q14 : List ℕ → Option SeamFault
q14 b = over_strips StartsHere b (starts_here (strips b) (strip b))

-- 15: each name has one home slot at most
unfoldable pub q15 : List ℕ → Option SeamFault
q15 b = over_strips Homes b (home_new (strip b))

-- 16: +e lies west of -e where both are home in one strip
unfoldable pub q16 : List ℕ → Option SeamFault
q16 b = over_strips WestFirst b (λ j. west_first (strip b j))

-- the first of the questions 13 to 16 that is answered no
unfoldable pub seam_verdict : List ℕ → Option SeamFault
seam_verdict b = first_of (q13 b ∷ (q14 b ∷ (q15 b ∷ (q16 b ∷ []))))

-- the first of the questions 1 to 16 that is answered no
unfoldable pub shape_verdict : List ℕ → Option Fault
shape_verdict b = first_of (at of_file (file_verdict b) ∷ (at of_strip (strips_verdict b) ∷ (at of_seam (seam_verdict b) ∷ [])))

-- the line work that the bytes tell
abbrev pub told_lines : List ℕ → Linework
told_lines b = lines_of (strips b) (strip b)

-- 17: the line work is flat
abbrev pub q17 : List ℕ → Option Fault
q17 b = at (λ _. record { layer = Flat; number = 17; strip = 0; place = 0 }) (once (flat max_edge (told_lines b).turn))

-- the first of the questions 1 to 17 that is answered no
unfoldable pub verdict : List ℕ → Option Fault
verdict b = first_of (shape_verdict b ∷ (q17 b ∷ []))
