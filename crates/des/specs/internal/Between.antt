-- What networks make between the permutations. Assumes nothing.
use Rattle.std.specs.Prelude.{ℕ, false, List, reverse}
use Rattle.ciphers.specs.Blocks.{feistel}
use Rattle.ciphers.specs.Maps.{in_turn}
use Rattle.des.specs.Keys.{round_words}
use Rattle.des.specs.Networks.{network_of}

-- the network that enciphers, between the permutations, with these round words
abbrev pub enciphering : List ℕ → ℕ → ℕ
enciphering words = feistel (network_of false words)

-- triple DES between the permutations
unfoldable pub in_network : ℕ → ℕ → ℕ → ℕ → ℕ
in_network first second third = in_turn (enciphering (round_words first)) (enciphering (reverse (round_words second))) (enciphering (round_words third))
