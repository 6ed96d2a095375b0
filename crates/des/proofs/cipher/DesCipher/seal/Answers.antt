-- `Des::seal` meets its contract. Assumes nothing.
use Rattle.des.specs.Held.{network_in}
use Rattle.des.proofs.Layers.{one_network}
use Rattle.des.proofs.cipher.DesCipher.seal.Goals as goal

pub returns-clause-network : goal.returns-clause-network
returns-clause-network c =
    let d = c.args.self.now in
    one_network d.layers.reversed d.layers.first.inverted d.layers.second.reversed d.layers.second.second.inverted d.together c.layered.result (network_in d) c.args.block c.layered.ensures
