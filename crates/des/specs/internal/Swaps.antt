-- Bits of a block that change places, as the faster permutations exchange them. Assumes nothing.
use Rattle.std.specs.Prelude.{ℕ, ◌-◌, ◌*◌, ◌/◌, ◌%◌, ◌^◌, bit_and, bit_or, bit_xor}

-- all bits but those that a mask names and those that many places above them
abbrev pub others : ℕ → ℕ → ℕ
others places mask = 2 ^ 64 - 1 - bit_or mask (mask * 2 ^ places % 2 ^ 64)

-- those bits exchanged
unfoldable pub exchanged : ℕ → ℕ → ℕ → ℕ
exchanged places mask block = bit_xor (bit_xor (bit_and block (others places mask)) (bit_and (block / 2 ^ places) mask)) (bit_and block mask * 2 ^ places % 2 ^ 64)
