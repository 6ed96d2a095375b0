-- Sums modulo m, the number of words. Assumes nothing.
use Rattle.std.specs.Prelude.{ℕ, ◌+◌, ◌-◌, ◌%◌}

-- the sum of two words
abbrev pub sum : ℕ → ℕ → ℕ → ℕ
sum m x y = (x + y) % m

-- the word whose sum with x is 0
abbrev pub negative : ℕ → ℕ → ℕ
negative m x = (m - x) % m
