-- Where the parts of a file stand: the strip count, the sizes, the borders, the strips. Strips are numbered from 0 here.
-- Assumes nothing.
use Rattle.std.specs.Prelude.{ℕ, zero, suc, ◌+◌, ◌-◌, ◌*◌, cond, List, ℤ, Some, None, Option, nat_lt}
use Rattle.std.specs.List.{between}
use Rattle.file.specs.Bytes.{u16_at, i32_at}
use Rattle.file.specs.Places.{sum_below}
use Rattle.file.specs.Strips.{Strip, strip_of}

-- how many strips the file tells
abbrev pub strips : List ℕ → ℕ
strips b = u16_at b 0

-- how many vertices strip j tells
abbrev pub vertices_in : List ℕ → ℕ → ℕ
vertices_in b j = u16_at b (2 + 4 * j)

-- how many slots strip j tells
abbrev pub slots_in : List ℕ → ℕ → ℕ
slots_in b j = u16_at b (4 + 4 * j)

-- border k, from 0, which lies between the strips k and k + 1
abbrev pub border : List ℕ → ℕ → ℤ
border b k = i32_at b (2 + 4 * strips b + 4 * k)

-- how many bytes the arrays of strip j take
abbrev pub strip_length : List ℕ → ℕ → ℕ
strip_length b j = 4 * slots_in b j + 8 * vertices_in b j

-- where strip j begins
abbrev pub strip_at : List ℕ → ℕ → ℕ
strip_at b j = 2 + 4 * strips b + 4 * (strips b - 1) + sum_below (strip_length b) j

-- the bytes of the arrays of strip j
abbrev pub strip_part : List ℕ → ℕ → List ℕ
strip_part b j = between (strip_at b j) (strip_at b j + strip_length b j) b

-- strip j, as its arrays tell it
abbrev pub strip : List ℕ → ℕ → Strip
strip b j = strip_of (strip_part b j) (slots_in b j) (vertices_in b j)

-- the western border of strip j, where it has one
abbrev pub western : List ℕ → ℕ → Option ℤ
western b zero = None
western b (suc j) = Some (border b j)

-- the eastern border of strip j, where it has one
abbrev pub eastern : List ℕ → ℕ → Option ℤ
eastern b j = cond (nat_lt (suc j) (strips b)) (Some (border b j)) None
