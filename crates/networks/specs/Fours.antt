-- Four of a kind. Assumes nothing.
use Rattle.networks.specs.declared.fours.Four.{Four}

-- a function of each of them
abbrev pub each : {A B : Type 0} → (A → B) → Four A → Four B
each f xs = record { first = f xs.first; second = f xs.second; third = f xs.third; fourth = f xs.fourth }
