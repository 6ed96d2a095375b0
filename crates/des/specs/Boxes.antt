-- The S-boxes of DES. Assumes nothing.
use Rattle.std.specs.Prelude.{ℕ, ◌+◌, ◌-◌, ◌*◌, ◌/◌, ◌%◌, ◌^◌, List, map, slice_index, ◌==◌}
use Rattle.std.specs.List.{count_by, range_with_len}
use Rattle.des.specs.Tables.{rows}

-- number c of a row, counted from 0
abbrev pub number_in : ℕ → ℕ → ℕ
number_in row c = row / 16 ^ (15 - c) % 16

-- of six bits, b1 and b6 choose the row
abbrev pub row_of : ℕ → ℕ
row_of six = 2 * (six / 32) + six % 2

-- and the four between them the column
abbrev pub column_of : ℕ → ℕ
column_of six = six / 2 % 16

-- the row in which box i + 1 looks six bits up
abbrev pub row_of_box : ℕ → ℕ → ℕ
row_of_box i six = slice_index rows (4 * i + row_of six)

-- what box i + 1 makes of six bits
unfoldable pub boxed : ℕ → ℕ → ℕ
boxed i six = number_in (row_of_box i six) (column_of six)

-- how often a row holds a number
unfoldable pub times_in : ℕ → ℕ → ℕ
times_in row v = count_by (λ x. x == v) (map (number_in row) (range_with_len 0 16))
