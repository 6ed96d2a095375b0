-- Four words, and a block as four words. Assumes nothing.
use Rattle.std.specs.Prelude.{ℕ, ◌+◌, ◌*◌, ◌/◌, ◌%◌, ◌^◌, ◌<◌}
use Rattle.four_words.specs.declared.words.Words.{Words}

-- words 2 and 3 change places
abbrev pub exchanged : Words → Words
exchanged w = record { first = w.first; second = w.third; third = w.second; fourth = w.fourth }

-- word 1 is the most significant
abbrev pub words_of : ℕ → Words
words_of b = record { first = b / 2 ^ 48; second = b / 2 ^ 32 % 2 ^ 16; third = b / 2 ^ 16 % 2 ^ 16; fourth = b % 2 ^ 16 }

-- the block that has them as its words
abbrev pub block_of : Words → ℕ
block_of w = (w.first * 2 ^ 16 + w.second) * 2 ^ 32 + (w.third * 2 ^ 16 + w.fourth)

-- all four are words of 16 bits
abbrev pub Fit : Words → Type 0
Fit w = (w.first < 2 ^ 16) × (w.second < 2 ^ 16) × (w.third < 2 ^ 16) × (w.fourth < 2 ^ 16)
