-- Round words as they are kept: the six bits of each box in a byte. Assumes nothing.
use Rattle.std.specs.Prelude.{ℕ, ◌+◌, ◌-◌, ◌*◌, ◌/◌, ◌%◌, List, map}
use Rattle.std.specs.List.{flat_map, range_with_len}
use Rattle.selections.specs.Selections.{picked}

-- the byte in which box i + 1 has its group, counted from the least significant: boxes 1, 3, 5, 7, and then boxes 2, 4, 6, 8
abbrev pub byte_of : ℕ → ℕ
byte_of i = (7 - i) / 2 + 4 * (1 - i % 2)

-- the places of the groups, box by box
abbrev pub word_table : List ℕ
word_table = flat_map (λ i. map (λ j. 8 * (7 - byte_of i) + 3 + j) (range_with_len 0 6)) (range_with_len 0 8)

-- the word of 48 bits that they are
unfoldable pub word_of : ℕ → ℕ
word_of groups = picked 64 word_table groups
