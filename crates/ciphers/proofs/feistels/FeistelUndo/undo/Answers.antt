-- `undo` of a Feistel network as a cipher meets its contract. Assumes nothing.
use Rattle.std.proofs.Common.{ap, ◌∙◌}
use Rattle.networks.specs.Networks.{network}
use Rattle.networks.specs.Rounds.{ran, turned}
use Rattle.networks.proofs.TwoWays.{inverses}
use Rattle.ciphers.specs.Blocks.{feistel_of}
use Rattle.ciphers.proofs.Networks.{undone_block}
use Rattle.ciphers.proofs.feistels.FeistelUndo.undo.Goals as goal

pub returns : goal.returns
returns g c =
    let N = network g.G.Group g.F.RoundFunction c.args.self.now in
    let both = inverses N g.met.G.Group.lawful (g.met.F.RoundFunction.within c.args.self.now.function) in
    ap (feistel_of g.W.HalfWord.word_of g.W.HalfWord.number_of N) c.join.ensures
    ∙ undone_block g.W.HalfWord.word_of g.W.HalfWord.number_of g.met.W.HalfWord.faithful N (turned N) both c.args.block c.undo.result c.ranges.block.fits (c.undo.ensures.turned ∙ ap (ran (turned N)) c.split.ensures)
