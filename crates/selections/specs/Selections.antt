-- Bits of a word, and the word that some of them make. Assumes nothing.
use Rattle.std.specs.Prelude.{ℕ, ◌+◌, ◌-◌, ◌*◌, ◌/◌, ◌%◌, ◌^◌, List}
use Rattle.std.specs.List.{fold}

-- bit i of a word of w bits, counted from 1 at the most significant
abbrev pub bit : ℕ → ℕ → ℕ → ℕ
bit w n i = n / 2 ^ (w - i) % 2

-- the bits of a word of w bits that a table names, in the table's order, as a number
abbrev pub picked : ℕ → List ℕ → ℕ → ℕ
picked w table n = fold (λ out i. 2 * out + bit w n i) 0 table
