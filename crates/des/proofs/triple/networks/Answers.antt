-- `networks` meets its contract. Assumes nothing.
use Rattle.des.proofs.Three.{three}
use Rattle.des.proofs.triple.networks.Goals as goal

pub returns-clause-map : goal.returns-clause-map
returns-clause-map c = three _ _ _ _ _ _ _ c.network.ensures.map c.network-2.ensures.map c.network-3.ensures.map c.new.ensures.map
