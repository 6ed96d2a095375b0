-- The S-boxes as one table. Assumes nothing.
use Rattle.std.specs.Prelude.{ℕ, ◌/◌, ◌%◌, List, map, slice_index}
use Rattle.std.specs.List.{range_with_len}
use Rattle.des.specs.Boxes.{number_in}
use Rattle.des.specs.Tables.{rows}

-- the numbers of all boxes, one row after another
unfoldable pub box_numbers : List ℕ
box_numbers = map (λ k. number_in (slice_index rows (k / 16)) (k % 16)) (range_with_len 0 512)
