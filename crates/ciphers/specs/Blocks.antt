-- Networks as maps of blocks. Assumes nothing.
use Rattle.std.specs.Prelude.{ℕ}
use Rattle.networks.specs.declared.pairs.Halves.{Halves}
use Rattle.networks.specs.Halves.{swapped, halves_of, block_of}
use Rattle.networks.specs.Rounds.{Network, ran}

-- both halves of a block, in the form in which a network works on them
abbrev pub words_of : {W : Type 0} → (ℕ → W) → ℕ → Halves W
words_of word_of b = record { left = word_of (halves_of b).left; right = word_of (halves_of b).right }

-- the block of two such halves
abbrev pub block_of_words : {W : Type 0} → (W → ℕ) → Halves W → ℕ
block_of_words number_of h = block_of (record { left = number_of h.left; right = number_of h.right })

-- the block that a Feistel network makes of a block
abbrev pub feistel_of : {W : Type 0} → (ℕ → W) → (W → ℕ) → Network W → ℕ → ℕ
feistel_of word_of number_of N b = block_of_words number_of (ran N (words_of word_of b))

-- the same where halves are numbers
abbrev pub feistel : Network ℕ → ℕ → ℕ
feistel N b = block_of (ran N (halves_of b))

-- the block with its halves exchanged
abbrev pub halves_swapped : ℕ → ℕ
halves_swapped b = block_of (swapped (halves_of b))
