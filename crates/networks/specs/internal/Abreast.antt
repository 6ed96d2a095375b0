-- Rounds of four pairs of halves side by side: how the faster run of four goes. Assumes nothing.
use Rattle.std.specs.Prelude.{ℕ, List}
use Rattle.std.specs.List.{fold}
use Rattle.networks.specs.declared.fours.Four.{Four}
use Rattle.networks.specs.declared.pairs.Halves.{Halves}
use Rattle.networks.specs.Fours.{each}
use Rattle.networks.specs.Rounds.{Network, round}

-- the rounds in order, each of them of all four pairs of halves before the next
abbrev pub rounds_abreast : {W : Type 0} → Network W → List ℕ → Four (Halves W) → Four (Halves W)
rounds_abreast N ks four = fold (λ s k. each (round N k) s) four ks
