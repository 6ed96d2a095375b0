-- IDEA, as chapter 7 of the Handbook of Applied Cryptography has it. Assumes nothing.
use Rattle.std.specs.Prelude.{ℕ, zero, suc, ◌+◌, ◌*◌, ◌^◌, bit_xor}
use Rattle.groups.specs.Sums.{sum}
use Rattle.products.specs.Products.{product}
use Rattle.four_words.specs.declared.words.Words.{Words}
use Rattle.four_words.specs.Quarters.{block_of, words_of}
use Rattle.idea.specs.Keys.{key_word}

-- the sum modulo 2^16
abbrev pub plus : ℕ → ℕ → ℕ
plus = sum (2 ^ 16)

-- a round with six words of the key, from word i on, counted from 0; at its end words 2 and 3 have changed places
abbrev pub round : (ℕ → ℕ) → ℕ → Words → Words
round K i X =
    let X1 = product X.first (K i) in
    let X2 = plus X.second (K (i + 1)) in
    let X3 = plus X.third (K (i + 2)) in
    let X4 = product X.fourth (K (i + 3)) in
    let t0 = product (bit_xor X1 X3) (K (i + 4)) in
    let t1 = product (plus (bit_xor X2 X4) t0) (K (i + 5)) in
    let t2 = plus t0 t1 in
    record { first = bit_xor X1 t1; second = bit_xor X3 t1; third = bit_xor X2 t2; fourth = bit_xor X4 t2 }

-- r rounds
unfoldable pub rounds : (ℕ → ℕ) → ℕ → Words → Words
rounds K zero X = X
rounds K (suc r) X = round K (6 * r) (rounds K r X)

-- four words more, from word i on, joined after words 2 and 3 have changed places back
abbrev pub output : (ℕ → ℕ) → ℕ → Words → Words
output K i X = record { first = product X.first (K i); second = plus X.third (K (i + 1)); third = plus X.second (K (i + 2)); fourth = product X.fourth (K (i + 3)) }

-- the block that n rounds under a key of 128 bits make of a block
abbrev pub idea : ℕ → ℕ → ℕ → ℕ
idea key n block = block_of (output (key_word key) (6 * n) (rounds (key_word key) n (words_of block)))
