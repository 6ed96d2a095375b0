-- `TripleDes::seal` meets its contract. Assumes nothing.
use Rattle.des.specs.Networks.{network_of}
use Rattle.des.proofs.Layers.{three_networks}
use Rattle.des.proofs.triple.TripleDesCipher.seal.Goals as goal

pub returns-clause-networks : goal.returns-clause-networks
returns-clause-networks c =
    let t = c.args.self.now in
    let three = t.layers.second.first in
    three_networks t.layers.reversed t.layers.first.inverted t.layers.second.reversed t.layers.second.second.inverted t.together c.layered.result
    (network_of three.first.inverted three.first.schedule) (network_of three.second.inverted three.second.schedule) (network_of three.third.inverted three.third.schedule)
    c.args.block c.layered.ensures
