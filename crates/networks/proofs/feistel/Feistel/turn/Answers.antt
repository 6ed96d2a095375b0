-- `Feistel::turn` meets its contract. Assumes nothing.
use Rattle.networks.specs.Networks.{network}
use Rattle.networks.proofs.TwoWays.{inverses}
use Rattle.networks.proofs.feistel.Feistel.turn.Goals as goal

pub returns-clause-inverse : goal.returns-clause-inverse
returns-clause-inverse g c =
    let N = network g.G.Group g.F.RoundFunction c.args.self.now in
    rw c.reverse.ensures (inverses N g.met.G.Group.lawful (g.met.F.RoundFunction.within c.args.self.now.function))
