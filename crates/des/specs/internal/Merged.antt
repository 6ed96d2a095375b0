-- Each box, P and the next round's E as one table: what the faster round function computes. Assumes nothing.
use Rattle.std.specs.Prelude.{ℕ, ◌-◌, ◌*◌, ◌/◌, ◌%◌, ◌^◌, List, map, bit_xor}
use Rattle.std.specs.List.{fold, range_with_len}
use Rattle.selections.specs.Selections.{picked}
use Rattle.des.specs.Boxes.{boxed}
use Rattle.des.specs.Des.{group}
use Rattle.des.specs.internal.Spread.{spread}
use Rattle.des.specs.Tables.{expansion, permutation}

-- what P makes of the four bits of box i + 1, in their place
unfoldable pub placed : ℕ → ℕ → ℕ
placed i six = picked 32 permutation (boxed i six * 2 ^ (28 - 4 * i))

-- the groups of E of that, for all boxes, 64 entries to each
unfoldable pub merged_numbers : List ℕ
merged_numbers = map (λ k. spread (placed (k / 64) (k % 64))) (range_with_len 0 512)

-- what the boxes take: E of the half, xored with the round word
abbrev pub mixed : ℕ → ℕ → ℕ
mixed half word = bit_xor (picked 32 expansion half) (word % 2 ^ 48)

-- what one box adds to the round function, where the boxes take x
abbrev pub share : ℕ → ℕ → ℕ
share x i = placed i (group x i)

-- what all boxes add
abbrev pub shares : ℕ → ℕ
shares x = fold (λ out i. bit_xor out (share x i)) 0 (range_with_len 0 8)
