-- Numbers as they stand in a file: low byte first.
-- Assumes nothing.
use Rattle.std.specs.Prelude.{ℕ, ◌+◌, ◌*◌, List, ℤ, slice_index}
use Rattle.std.specs.Int.{w16, w32}
use Rattle.std.proofs.Common.{to_z}

-- the two bytes from place k on, as a number
abbrev pub u16_at : List ℕ → ℕ → ℕ
u16_at b k = slice_index b k + slice_index b (k + 1) * 256

-- the same, signed
unfoldable pub i16_at : List ℕ → ℕ → ℤ
i16_at b k = to_z w16 (u16_at b k)

-- the four bytes from place k on, signed
unfoldable pub i32_at : List ℕ → ℕ → ℤ
i32_at b k = to_z w32 (slice_index b k + slice_index b (k + 1) * 256 + slice_index b (k + 2) * 65536 + slice_index b (k + 3) * 16777216)
