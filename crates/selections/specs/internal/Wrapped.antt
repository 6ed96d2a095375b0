-- The word that bits make, kept to 64 bits at each step. Assumes nothing.
use Rattle.std.specs.Prelude.{ℕ, ◌+◌, ◌*◌, ◌%◌, ◌^◌, List}
use Rattle.std.specs.List.{fold}
use Rattle.selections.specs.Selections.{bit}

-- the last 64 of the bits of a word of w bits that a table names, in the table's order, as a number
unfoldable pub picked_last : ℕ → List ℕ → ℕ → ℕ
picked_last w table n = fold (λ out i. (2 * out + bit w n i) % 2 ^ 64) 0 table
