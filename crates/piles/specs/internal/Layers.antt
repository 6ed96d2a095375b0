-- The maps of a pile and of its layers. Assumes nothing.
use Rattle.std.specs.Prelude.{ℕ, bit_xor, ◌^◌}
use Rattle.groups.specs.Sums.{sum}
use Rattle.ciphers.specs.internal.Sealing.{composed}
use Rattle.whitening.specs.Whitening.{joined_with}
use Rattle.xtea.specs.internal.Sealing as xtea
use Rattle.des.specs.internal.Sealing as des
use Rattle.idea.specs.internal.Sealing as idea
use Rattle.piles.specs.declared.layers.Layer.TheVariants.{Empty, Des, TripleDes, Idea, Xtea, Wxor, Wadd}
use Rattle.piles.specs.declared.layers.Layer.{Layer}
use Rattle.piles.specs.declared.pile.Pile.{Pile}

-- what a layer makes of a block; an empty one keeps it
abbrev pub layered : Layer → ℕ → ℕ
layered Empty b = b
layered (Des c) b = des.sealing c b
layered (TripleDes c) b = des.sealing_three c b
layered (Idea c) b = idea.sealing c b
layered (Xtea c) b = xtea.sealing c b
layered (Wxor c) b = joined_with bit_xor c.words b
layered (Wadd c) b = joined_with (sum (2 ^ 32)) c.words b

-- what the four layers, a pair of pairs, make of a block
abbrev pub sealing : Pile → ℕ → ℕ
sealing p =
    composed p.layers.reversed
    (composed p.layers.first.reversed (layered p.layers.first.first) (layered p.layers.first.second))
    (composed p.layers.second.reversed (layered p.layers.second.first) (layered p.layers.second.second))
