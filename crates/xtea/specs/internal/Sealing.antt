-- How XTEA's map is made of its layers. Assumes nothing.
use Rattle.std.specs.Prelude.{ℕ}
use Rattle.ciphers.specs.Blocks.{feistel, halves_swapped}
use Rattle.ciphers.specs.internal.Sealing.{composed}
use Rattle.xtea.specs.declared.cipher.Xtea.{Xtea}
use Rattle.xtea.specs.Held.{network_in}

-- the network and then the swap of halves, or the other way round where the pair is reversed
abbrev pub sealing : Xtea → ℕ → ℕ
sealing x = composed x.layers.reversed (feistel (network_in x)) halves_swapped
