-- Words that are each other's complement. Assumes nothing.
use Rattle.std.specs.Prelude.{ℕ, ◌≤◌, ◌≢◌}
use Rattle.selections.specs.Selections.{bit}

-- two words of w bits that differ in every bit
abbrev pub Opposite : ℕ → ℕ → ℕ → Type 0
Opposite w a b = (i : ℕ) → 1 ≤ i → i ≤ w → bit w a i ≢ bit w b i
