-- The number by which readers know a question.
-- Assumes nothing.
use Rattle.std.specs.Prelude.{ℕ}
use Rattle.file.specs.declared.questions.FileQuestion.{FileQuestion}
use Rattle.file.specs.declared.questions.FileQuestion.TheVariants.{Count, SizesThere, SizesFit, Length, Borders}
use Rattle.file.specs.declared.questions.StripQuestion.{StripQuestion}
use Rattle.file.specs.declared.questions.StripQuestion.TheVariants.{Names, Pairs, Followers, Followed, Rounds, Points, NewPoints}
use Rattle.file.specs.declared.questions.SeamQuestion.{SeamQuestion}
use Rattle.file.specs.declared.questions.SeamQuestion.TheVariants.{RunsOn, StartsHere, Homes, WestFirst}
use Rattle.file.specs.declared.questions.FlatQuestion.{FlatQuestion}
use Rattle.file.specs.declared.questions.FlatQuestion.TheVariants.{Flat}
use Rattle.file.specs.declared.questions.CallQuestion.{CallQuestion}
use Rattle.file.specs.declared.questions.CallQuestion.TheVariants.{Memory, Buffers}

-- of a question of the whole file
abbrev pub file_number : FileQuestion → ℕ
file_number Count = 1
file_number SizesThere = 2
file_number SizesFit = 3
file_number Length = 4
file_number Borders = 5

-- of a question of a strip
abbrev pub strip_number : StripQuestion → ℕ
strip_number Names = 6
strip_number Pairs = 7
strip_number Followers = 8
strip_number Followed = 9
strip_number Rounds = 10
strip_number Points = 11
strip_number NewPoints = 12

-- of a question of the seams
abbrev pub seam_number : SeamQuestion → ℕ
seam_number RunsOn = 13
seam_number StartsHere = 14
seam_number Homes = 15
seam_number WestFirst = 16

-- of the question of the line work
abbrev pub flat_number : FlatQuestion → ℕ
flat_number Flat = 17

-- of a question of the call
abbrev pub call_number : CallQuestion → ℕ
call_number Memory = 18
call_number Buffers = 20
