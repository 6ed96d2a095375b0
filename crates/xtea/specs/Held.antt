-- The network that a value of XTEA holds. Assumes nothing.
use Rattle.std.specs.Prelude.{ℕ}
use Rattle.networks.specs.Rounds.{Network}
use Rattle.xtea.specs.declared.cipher.Xtea.{Xtea}
use Rattle.xtea.specs.Networks.{network_of}

-- the network in a value
abbrev pub network_in : Xtea → Network ℕ
network_in x = network_of x.layers.first.inverted x.layers.first.schedule
