-- IDEA's key schedule. Assumes nothing.
use Rattle.std.specs.Prelude.{ℕ, ◌-◌, ◌*◌, ◌/◌, ◌%◌, ◌^◌, List, map}
use Rattle.std.specs.Int.{rotate_left, w128}
use Rattle.std.specs.List.{range_with_len}

-- word i of a key of 128 bits, counted from 0: the key gives eight words, most significant first, is rotated left by 25 bits, gives eight more, and so on
unfoldable pub key_word : ℕ → ℕ → ℕ
key_word key i = rotate_left w128 key (25 * (i / 8)) / 2 ^ (112 - 16 * (i % 8)) % 2 ^ 16

-- the words of eight rounds and four closing words
unfoldable pub key_words : ℕ → List ℕ
key_words key = map (key_word key) (range_with_len 0 52)
