-- How the maps of DES and triple DES are made of their layers. Assumes nothing.
use Rattle.std.specs.Prelude.{ℕ}
use Rattle.ciphers.specs.Blocks.{feistel}
use Rattle.ciphers.specs.Maps.{in_turn}
use Rattle.ciphers.specs.internal.Sealing.{composed, permuted_by}
use Rattle.des.specs.declared.cipher.Des.{Des}
use Rattle.des.specs.declared.triple.TripleDes.{TripleDes}
use Rattle.des.specs.Held.{network_in}
use Rattle.des.specs.Networks.{network_of}
use Rattle.des.specs.Tables.{initial}

-- a permutation, the network and a permutation, or the reverse order once they are turned
abbrev pub sealing : Des → ℕ → ℕ
sealing d =
    composed d.layers.reversed (permuted_by d.layers.first.inverted initial)
    (composed d.layers.second.reversed (feistel (network_in d)) (permuted_by d.layers.second.second.inverted initial))

-- the same with three networks in turn
abbrev pub sealing_three : TripleDes → ℕ → ℕ
sealing_three t =
    let three = t.layers.second.first in
    composed t.layers.reversed (permuted_by t.layers.first.inverted initial)
    (composed t.layers.second.reversed
    (in_turn
    (feistel (network_of three.first.inverted three.first.schedule))
    (feistel (network_of three.second.inverted three.second.schedule))
    (feistel (network_of three.third.inverted three.third.schedule)))
    (permuted_by t.layers.second.second.inverted initial))
