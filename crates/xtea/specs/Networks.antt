-- XTEA as a network. Assumes nothing.
use Rattle.std.specs.Prelude.{ℕ, ◌^◌, Bool, List, if◌then◌else◌}
use Rattle.groups.specs.Sums.{sum, negative}
use Rattle.networks.specs.Rounds.{Network}
use Rattle.ciphers.specs.Blocks.{feistel, halves_swapped}
use Rattle.xtea.specs.Xtea.{mixed}

-- XTEA's network of some round words, turned or not: its round function over the sum modulo 2^32
abbrev pub network_of : Bool → List ℕ → Network ℕ
network_of turned words = record { joined = sum (2 ^ 32); inverted = negative (2 ^ 32); function = mixed; inverting = turned; words = words }

-- a network and then the swap of halves; where it is turned, the swap and then the network
abbrev pub sealed_by : Network ℕ → ℕ → ℕ
sealed_by N b = if N.inverting then feistel N (halves_swapped b) else halves_swapped (feistel N b)
