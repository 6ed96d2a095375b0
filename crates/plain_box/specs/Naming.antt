-- The descriptions that are understood. Assumes nothing.
use Rattle.std.specs.Prelude.{ℕ, ◌-◌, List, [], ◌∷◌, Some, None, Option, codes, drop, take, if◌then◌else◌}
use Rattle.std.specs.Str.{bytes_eq}
use Rattle.std.specs.Int.{is_in_range}

-- the number that one digit from 1 to 8 writes
abbrev pub count_of : List ℕ → Option ℕ
count_of [] = None
count_of (digit ∷ []) = if is_in_range 49 56 digit then Some (digit - 48) else None
count_of (digit ∷ next ∷ others) = None

-- the rounds that a description asks for: "plain:" and one digit
abbrev pub rounds_of : List ℕ → Option ℕ
rounds_of description = if bytes_eq (take 6 description) (codes "plain:") then count_of (drop 6 description) else None
