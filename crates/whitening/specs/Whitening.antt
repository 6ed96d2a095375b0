-- Whitening, the halves of a block joined with two words. Assumes nothing.
use Rattle.std.specs.Prelude.{ℕ, ◌^◌, bit_xor}
use Rattle.groups.specs.Sums.{sum}
use Rattle.networks.specs.declared.pairs.Halves.{Halves}
use Rattle.networks.specs.Halves.{halves_of, block_of}

-- the block whose halves are those of a block, each joined with the word on its side
abbrev pub joined_with : (ℕ → ℕ → ℕ) → Halves ℕ → ℕ → ℕ
joined_with joined words b =
    let h = halves_of b in
    block_of (record { left = joined h.left words.left; right = joined h.right words.right })

-- the words are the halves of a key of 64 bits
abbrev pub whitened : (ℕ → ℕ → ℕ) → ℕ → ℕ → ℕ
whitened joined key b = joined_with joined (halves_of key) b

-- the halves of key and block xored
abbrev pub wxor : ℕ → ℕ → ℕ
wxor key b = whitened bit_xor key b

-- the halves of key and block added modulo 2^32
abbrev pub wadd : ℕ → ℕ → ℕ
wadd key b = whitened (sum (2 ^ 32)) key b

-- the inverse of each word
abbrev pub inverses : (ℕ → ℕ) → Halves ℕ → Halves ℕ
inverses inverted words = record { left = inverted words.left; right = inverted words.right }
