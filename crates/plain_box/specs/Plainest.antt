-- The plainest four-word network: sums modulo 2^16, and a box that passes its words on. Assumes nothing.
use Rattle.std.specs.Prelude.{ℕ, ◌+◌, ◌*◌, ◌%◌, ◌^◌, List, map, slice_index}
use Rattle.std.specs.List.{range_with_len}
use Rattle.groups.specs.Sums.{sum, negative}
use Rattle.four_words.specs.declared.words.BoxWords.{BoxWords}
use Rattle.four_words.specs.declared.words.Mixed.{Mixed}
use Rattle.four_words.specs.Joining.{Groups}
use Rattle.four_words.specs.Keying.{key_of}
use Rattle.four_words.specs.Passing.{Network, four_word}

-- t = p and s = q, whatever z5 and z6 are; of numbers that are no words the low 16 bits
abbrev pub passed_on : ℕ → ℕ → BoxWords → Mixed
passed_on p q words = record { t = p % 2 ^ 16; s = q % 2 ^ 16 }

-- the sum modulo 2^16 as the outer group and as the inner one
abbrev pub sums : Groups
sums = record { outer = sum (2 ^ 16); outer_inverse = negative (2 ^ 16); inner = sum (2 ^ 16); inner_inverse = negative (2 ^ 16) }

-- the eight words of a key, most significant byte first, follow one another in a ring; word i of it, counted from 0
abbrev pub ring_word : List ℕ → ℕ → ℕ
ring_word key i = slice_index key (2 * (i % 8)) * 2 ^ 8 + slice_index key (2 * (i % 8) + 1)

-- as many words of the ring as eight rounds and the closing words take
unfoldable pub ring_words : List ℕ → List ℕ
ring_words key = map (ring_word key) (range_with_len 0 52)

-- the network of some rounds, from 1 to 8, under a key of sixteen bytes
abbrev pub plainest : ℕ → List ℕ → Network
plainest rounds key = record { groups = sums; mixing = passed_on; key = key_of rounds (ring_words key) }

-- the block to which it seals a text
abbrev pub sealed_by : ℕ → List ℕ → ℕ → ℕ
sealed_by rounds key text = four_word (plainest rounds key) text
