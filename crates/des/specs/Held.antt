-- The networks that values of DES and triple DES hold. Assumes nothing.
use Rattle.std.specs.Prelude.{ℕ, List, [], ◌∷◌}
use Rattle.networks.specs.Rounds.{Network}
use Rattle.des.specs.declared.cipher.Des.{Des}
use Rattle.des.specs.declared.triple.TripleDes.{TripleDes}
use Rattle.des.specs.Networks.{network_of}

-- the network in a value
abbrev pub network_in : Des → Network ℕ
network_in d = network_of d.layers.second.first.inverted d.layers.second.first.schedule

-- the three networks in a value, in the order in which they seal
abbrev pub networks_in : TripleDes → List (Network ℕ)
networks_in t =
    let three = t.layers.second.first in
    network_of three.first.inverted three.first.schedule ∷ network_of three.second.inverted three.second.schedule ∷ network_of three.third.inverted three.third.schedule ∷ []
