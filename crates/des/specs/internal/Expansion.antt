-- The key schedule by tables and exchanges: what the faster key schedule computes. Assumes nothing.
use Rattle.std.specs.Prelude.{ℕ, ◌+◌, ◌*◌, ◌/◌, ◌%◌, ◌^◌, List, ◌∷◌, map, bit_xor}
use Rattle.std.specs.List.{flat_map, fold, range_with_len}
use Rattle.selections.specs.Selections.{picked}
use Rattle.des.specs.internal.Spread.{boxes}
use Rattle.des.specs.Tables.{choice_2}

-- a round word as the boxes take it. A place of 0 names no bit
abbrev pub kept_table : List ℕ
kept_table = flat_map (λ i. 0 ∷ 0 ∷ map (λ j. 6 * i + j + 1) (range_with_len 0 6)) boxes

-- PC-2 of some bits of the two parts, so
unfoldable pub chosen_bits : ℕ → ℕ
chosen_bits bits = picked 48 kept_table (picked 56 choice_2 bits)

-- that of each four bits in their place, sixteen entries to a place
unfoldable pub choice_numbers : List ℕ
choice_numbers = map (λ k. chosen_bits (k % 16 * 2 ^ (4 * (k / 16)))) (range_with_len 0 224)

-- PC-2 of four bits of the parts, those that have `place` fours behind them
abbrev pub chosen_at : ℕ → ℕ → ℕ
chosen_at parts place = chosen_bits (parts / 2 ^ (4 * place) % 16 * 2 ^ (4 * place))

-- all of them together
abbrev pub all_chosen : ℕ → ℕ
all_chosen parts = fold (λ word place. bit_xor word (chosen_at parts place)) 0 (range_with_len 0 14)
