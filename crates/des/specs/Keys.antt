-- The key schedule of DES. Assumes nothing.
use Rattle.std.specs.Prelude.{◌≡◌, ◌≢◌, ◌≤◌, ℕ, ◌+◌, ◌-◌, ◌*◌, ◌/◌, ◌%◌, ◌^◌, List, [], ◌∷◌}
use Rattle.selections.specs.Selections.{bit, picked}
use Rattle.des.specs.Tables.{choice_1, choice_2, shifts}

-- 28 bits, rotated to the left by s places
abbrev pub rotated : ℕ → ℕ → ℕ
rotated s part = part % 2 ^ (28 - s) * 2 ^ s + part / 2 ^ (28 - s)

-- PC-2 of both parts together
unfoldable pub chosen : ℕ → ℕ → ℕ
chosen c d = picked 56 choice_2 (c * 2 ^ 28 + d)

-- before each round both parts rotate, and what PC-2 chooses of them is the round word
unfoldable pub words_from : ℕ → ℕ → List ℕ → List ℕ
words_from c d [] = []
words_from c d (s ∷ ss) = chosen (rotated s c) (rotated s d) ∷ words_from (rotated s c) (rotated s d) ss

-- the sixteen round words of a key: PC-1 gives the two parts
unfoldable pub round_words : ℕ → List ℕ
round_words key = words_from (picked 64 choice_1 key / 2 ^ 28) (picked 64 choice_1 key % 2 ^ 28) shifts

-- two keys that differ in no bit but the eighth of some byte
abbrev pub SameButEighths : ℕ → ℕ → Type 0
SameButEighths k l = (i : ℕ) → 1 ≤ i → i ≤ 64 → i % 8 ≢ 0 → bit 64 k i ≡ bit 64 l i
