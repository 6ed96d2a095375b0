-- `Feistel::undo` meets its contract. Assumes nothing.
use Rattle.std.proofs.Common.{ap, ◌∙◌}
use Rattle.networks.specs.Networks.{network}
use Rattle.networks.specs.Rounds.{ran, unran}
use Rattle.networks.proofs.TwoWays.{ways_back, back_and_forth}
use Rattle.networks.proofs.feistel.Feistel.undo.Goals as goal

pub returns-clause-turned : goal.returns-clause-turned
returns-clause-turned g c =
    let N = network g.G.Group g.F.RoundFunction c.args.self.now in
    c.undone.ensures
    ∙ ap (unran N) c.words.ensures.value
    ∙ ways_back N g.met.G.Group.lawful (g.met.F.RoundFunction.within c.args.self.now.function) c.args.halves

pub returns-clause-back : goal.returns-clause-back
returns-clause-back g c =
    let N = network g.G.Group g.F.RoundFunction c.args.self.now in
    let laws = g.met.G.Group.lawful in
    let values = g.met.F.RoundFunction.within c.args.self.now.function in
    ap (ran N) (c.undone.ensures ∙ ap (unran N) c.words.ensures.value ∙ ways_back N laws values c.args.halves)
    ∙ back_and_forth N laws values c.args.halves c.words.ensures.fits
