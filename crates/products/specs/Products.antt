-- Products modulo 65,537 of words of 16 bits, of which 0 stands for 65,536. Assumes nothing.
use Rattle.std.specs.Prelude.{ℕ, zero, suc, ◌*◌, ◌%◌}

-- the number that a word stands for
abbrev pub number : ℕ → ℕ
number zero = 65536
number x = x

-- the word that stands for a number
abbrev pub word : ℕ → ℕ
word n = n % 65536

-- the word of the product modulo 65,537
unfoldable pub product : ℕ → ℕ → ℕ
product x y = word (number x * number y % 65537)

-- squared k times
unfoldable pub squared : ℕ → ℕ → ℕ
squared zero x = x
squared (suc k) x = product (squared k x) (squared k x)

-- from the power 2^k - 1 of a word to its power 2^2k - 1
abbrev pub stretched : ℕ → ℕ → ℕ
stretched k p = product (squared k p) p

-- the inverse of a word: its power 65,535, by the powers 3, 15 and 255
unfoldable pub inverse : ℕ → ℕ
inverse x = stretched 8 (stretched 4 (stretched 2 (stretched 1 x)))
