-- DES, as FIPS 46-3 has it. Assumes nothing.
use Rattle.std.specs.Prelude.{ℕ, ◌-◌, ◌*◌, ◌/◌, ◌%◌, ◌^◌, List, map, reverse, bit_xor}
use Rattle.std.specs.List.{fold, range_with_len}
use Rattle.std.specs.Int.Digits.{number_from_digits}
use Rattle.selections.specs.Selections.{picked}
use Rattle.networks.specs.declared.pairs.Halves.{Halves}
use Rattle.networks.specs.Halves.{swapped, halves_of, block_of}
use Rattle.des.specs.Boxes.{boxed}
use Rattle.des.specs.Tables.{initial, final, expansion, permutation}
use Rattle.des.specs.Keys.{round_words}

-- group i of the eight groups of six bits
abbrev pub group : ℕ → ℕ → ℕ
group x i = x / 2 ^ (42 - 6 * i) % 64

-- S1 to S8 of the eight groups, four bits of each
abbrev pub substituted : ℕ → ℕ
substituted x = number_from_digits 16 (map (λ i. boxed i (group x i)) (range_with_len 0 8))

-- f(R, K) = P(S(E(R) xor K))
unfoldable pub f : ℕ → ℕ → ℕ
f r k = picked 32 permutation (substituted (bit_xor (picked 32 expansion r) (k % 2 ^ 48)))

-- (L, R) becomes (R, L xor f(R, K))
abbrev pub round : Halves ℕ → ℕ → Halves ℕ
round h k = record { left = h.right; right = bit_xor h.left (f h.right k) }

-- IP, the rounds, the halves swapped, and the inverse of IP
unfoldable pub through : List ℕ → ℕ → ℕ
through words b = picked 64 final (block_of (swapped (fold round (halves_of (picked 64 initial b)) words)))

-- a block enciphered
abbrev pub des : ℕ → ℕ → ℕ
des key b = through (round_words key) b

-- a block deciphered: the round words come in the reverse order
abbrev pub deciphered : ℕ → ℕ → ℕ
deciphered key b = through (reverse (round_words key)) b
