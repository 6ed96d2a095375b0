-- DES and triple DES as networks. Assumes nothing.
use Rattle.std.specs.Prelude.{ℕ, Bool, false, List, [], ◌∷◌, bit_xor}
use Rattle.std.specs.List.{fold}
use Rattle.networks.specs.Rounds.{Network, turned}
use Rattle.selections.specs.Selections.{picked}
use Rattle.ciphers.specs.Blocks.{feistel}
use Rattle.des.specs.Des.{f}
use Rattle.des.specs.Keys.{round_words}
use Rattle.des.specs.Tables.{initial, final}

-- DES's network of some round words, turned or not: its round function over xor
abbrev pub network_of : Bool → List ℕ → Network ℕ
network_of inverting words = record { joined = bit_xor; inverted = λ x. x; function = f; inverting = inverting; words = words }

-- the networks of three keys; the second is turned
abbrev pub networks_of : ℕ → ℕ → ℕ → List (Network ℕ)
networks_of first second third = network_of false (round_words first) ∷ turned (network_of false (round_words second)) ∷ network_of false (round_words third) ∷ []

-- IP, some networks one after another, and the inverse of IP
unfoldable pub sealed_by : List (Network ℕ) → ℕ → ℕ
sealed_by networks b = picked 64 final (fold (λ x N. feistel N x) (picked 64 initial b) networks)
