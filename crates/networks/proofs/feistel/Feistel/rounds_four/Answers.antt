-- `Feistel::rounds_four` meets its contract. Assumes nothing.
use Rattle.std.proofs.Common.{◌∙◌}
use Rattle.networks.specs.Networks.{network}
use Rattle.networks.specs.Rounds.{round}
use Rattle.networks.proofs.Folds.{each_fold}
use Rattle.networks.proofs.feistel.Feistel.rounds_four.Goals as goal

pub returns : goal.returns
returns g c =
    let N = network g.G.Group g.F.RoundFunction c.args.self.now in
    c.rounds_abreast.ensures ∙ each_fold (round N) c.args.halves N.words
