-- The parts of a file, by sizes that are known, and bytes that are put into a buffer. Assumes nothing.
use Rattle.std.specs.Prelude.{ℕ, cond, List, ◌++◌, map, length, drop, ℤ, nat_le}
use Rattle.std.specs.List.{flat_map}
use Rattle.chart.specs.Linework.{Linework}
use Rattle.strips.specs.Borders.{strip_count}
use Rattle.file.specs.declared.view.Sizes.{Sizes}
use Rattle.writing.specs.Written.{u16_bytes, i32_bytes, strip_bytes, strip_numbers}
use Rattle.writing.specs.Gathers.{size_of}

-- the sizes of all strips
abbrev pub all_sizes : ℕ → List ℤ → Linework → List Sizes
all_sizes n bs l = map (size_of n bs l) (strip_numbers bs)

-- the sizes of one strip in four bytes
abbrev pub sizes_bytes : Sizes → List ℕ
sizes_bytes s = u16_bytes s.vertices ++ u16_bytes s.slots

-- what stands before the strips: their number, their sizes, the borders
abbrev pub head_bytes : List ℤ → List Sizes → List ℕ
head_bytes bs sizes = u16_bytes (strip_count bs) ++ (flat_map sizes_bytes sizes ++ flat_map i32_bytes bs)

-- the arrays of all strips
abbrev pub body_bytes : ℕ → List ℤ → Linework → List ℕ
body_bytes n bs l = flat_map (strip_bytes n bs l) (strip_numbers bs)

-- exactly the bytes, and later bytes as they were; a buffer that is too short is left as it is
abbrev pub laid_over : List ℕ → List ℕ → List ℕ
laid_over bytes out = cond (nat_le (length bytes) (length out)) (bytes ++ drop (length bytes) out) out
