-- `Feistel::run` meets its contract. Assumes nothing.
use Rattle.std.proofs.Common.{ap, ◌∙◌}
use Rattle.networks.specs.Networks.{network}
use Rattle.networks.specs.Rounds.{ran, turned}
use Rattle.networks.proofs.TwoWays.{there_and_back}
use Rattle.networks.proofs.feistel.Feistel.run.Goals as goal

pub returns-clause-back : goal.returns-clause-back
returns-clause-back g c =
    let N = network g.G.Group g.F.RoundFunction c.args.self.now in
    ap (ran (turned N)) (c.ran.ensures ∙ ap (ran N) c.words.ensures.value)
    ∙ there_and_back N g.met.G.Group.lawful (g.met.F.RoundFunction.within c.args.self.now.function) c.args.halves c.words.ensures.fits
