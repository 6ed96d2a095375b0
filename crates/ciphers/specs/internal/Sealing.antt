-- The maps of pairs and of permutations, turned or not. Assumes nothing.
use Rattle.std.specs.Prelude.{ℕ, Bool, List, if◌then◌else◌}
use Rattle.selections.specs.Selections.{picked}
use Rattle.selections.specs.Permutations.{inverse_table}

-- f and then g, or g and then f where the order is reversed
abbrev pub composed : Bool → (ℕ → ℕ) → (ℕ → ℕ) → ℕ → ℕ
composed reversed f g b = if reversed then f (g b) else g (f b)

-- the block whose bit i is the one that entry i of the table names, or of the inverse table where it is inverted
abbrev pub permuted_by : Bool → List ℕ → ℕ → ℕ
permuted_by inverted table b = picked 64 (if inverted then inverse_table 64 table else table) b
