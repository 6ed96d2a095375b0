-- Runs opened four blocks at a time. Assumes nothing.
use Rattle.std.specs.Prelude.{ℕ, List}
use Rattle.networks.specs.declared.fours.Four.{Four}
use Rattle.chaining.specs.declared.direction.Direction.TheVariants.{Opening}
use Rattle.chaining.specs.Runs.{block, chained}

-- the first four blocks
abbrev pub four_of : List ℕ → Four ℕ
four_of xs = record { first = block xs 0; second = block xs 1; third = block xs 2; fourth = block xs 3 }

-- what opening makes of four blocks, where p is the sealed block before them
abbrev pub opened_four : (ℕ → ℕ) → ℕ → Four ℕ → Four ℕ
opened_four S p bs = record {
  first = chained Opening S p bs.first;
  second = chained Opening S bs.first bs.second;
  third = chained Opening S bs.second bs.third;
  fourth = chained Opening S bs.third bs.fourth;
}
