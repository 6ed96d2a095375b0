-- `turn` of a Feistel network as a cipher meets its contract. Assumes nothing.
use Rattle.networks.specs.Networks.{network}
use Rattle.ciphers.proofs.Networks.{inverse_blocks}
use Rattle.ciphers.proofs.feistels.FeistelCipher.turn.Goals as goal

pub returns-clause-inverse : goal.returns-clause-inverse
returns-clause-inverse g c =
    let before = network g.G.Group g.F.RoundFunction c.args.self.now in
    let after = network g.G.Group g.F.RoundFunction c.turn.new.self in
    inverse_blocks g.W.HalfWord.word_of g.W.HalfWord.number_of g.met.W.HalfWord.faithful before after c.turn.ensures.inverse
