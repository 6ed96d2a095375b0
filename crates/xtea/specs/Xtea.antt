-- XTEA, as its authors' note of 1997 has it. Assumes nothing.
use Rattle.std.specs.Prelude.{ℕ, zero, suc, ◌+◌, ◌*◌, ◌/◌, ◌%◌, ◌^◌, List, [], ◌∷◌, ◌++◌, bit_xor, slice_index}
use Rattle.networks.specs.declared.pairs.Halves.{Halves}
use Rattle.networks.specs.Halves.{halves_of, block_of}

-- F of a half and a round word: ((z << 4 ^ z >> 5) + z) ^ k
abbrev pub mixed : ℕ → ℕ → ℕ
mixed z k = bit_xor ((bit_xor (16 * z % 2 ^ 32) (z / 32) + z) % 2 ^ 32) (k % 2 ^ 32)

-- the sum after j cycles
abbrev pub sum_of : ℕ → ℕ
sum_of j = j * 0x9E3779B9 % 2 ^ 32

-- K(i) of the sixteen key bytes, most significant byte first
abbrev pub key_word : List ℕ → ℕ → ℕ
key_word key i = slice_index key (4 * i) * 2 ^ 24 + slice_index key (4 * i + 1) * 2 ^ 16 + slice_index key (4 * i + 2) * 2 ^ 8 + slice_index key (4 * i + 3)

-- sum + K(sum & 3), with the sum before cycle j
abbrev pub first_word : List ℕ → ℕ → ℕ
first_word key j = (sum_of j + key_word key (sum_of j % 4)) % 2 ^ 32

-- sum + K(sum >> 11 & 3), with the sum after cycle j
abbrev pub second_word : List ℕ → ℕ → ℕ
second_word key j = (sum_of (j + 1) + key_word key (sum_of (j + 1) / 2048 % 4)) % 2 ^ 32

-- cycle j, from 0: the left half gains what F makes of the right one, and then the right half what F makes of the new left one
abbrev pub cycle : List ℕ → ℕ → Halves ℕ → Halves ℕ
cycle key j h =
    let y = (h.left + mixed h.right (first_word key j)) % 2 ^ 32 in
    record { left = y; right = (h.right + mixed y (second_word key j)) % 2 ^ 32 }

-- the first c cycles
unfoldable pub cycled : List ℕ → ℕ → Halves ℕ → Halves ℕ
cycled key zero h = h
cycled key (suc j) h = cycle key j (cycled key j h)

-- the block that c cycles under a key make of a block
abbrev pub xtea : List ℕ → ℕ → ℕ → ℕ
xtea key c b = block_of (cycled key c (halves_of b))

-- the round words of the first c cycles, two for each
unfoldable pub words_of : List ℕ → ℕ → List ℕ
words_of key zero = []
words_of key (suc j) = words_of key j ++ (first_word key j ∷ second_word key j ∷ [])
