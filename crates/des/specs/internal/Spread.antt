-- Halves as the boxes take them: eight groups of six bits, each of them in a byte. Assumes nothing.
use Rattle.std.specs.Prelude.{◌≡◌, ℕ, ◌+◌, ◌-◌, ◌*◌, ◌/◌, ◌%◌, List, [], ◌∷◌, map, bit_and}
use Rattle.std.specs.List.{flat_map, range_with_len}
use Rattle.selections.specs.Selections.{picked}
use Rattle.des.specs.KeptWords.{byte_of}

-- the boxes in the order of their bytes, from the most significant on
abbrev pub boxes : List ℕ
boxes = 0 ∷ 2 ∷ 4 ∷ 6 ∷ 1 ∷ 3 ∷ 5 ∷ 7 ∷ []

-- the groups that E has of a half. A place of 0 names no bit
abbrev pub spread_table : List ℕ
spread_table = flat_map (λ i. 0 ∷ 0 ∷ map (λ j. (4 * i + j + 31) % 32 + 1) (range_with_len 0 6)) boxes

unfoldable pub spread : ℕ → ℕ
spread half = picked 32 spread_table half

-- the half whose groups they are: the middle four bits of each
abbrev pub half_table : List ℕ
half_table = flat_map (λ i. map (λ j. 8 * (7 - byte_of i) + 4 + j) (range_with_len 0 4)) (range_with_len 0 8)

unfoldable pub half_of : ℕ → ℕ
half_of groups = picked 64 half_table groups

-- nothing but groups
abbrev pub Groups : ℕ → Type 0
Groups groups = bit_and groups 0x3F3F_3F3F_3F3F_3F3F ≡ groups
