-- `FourWord::undo` meets its contract. Assumes nothing.
use Rattle.std.proofs.Common.{ap, ◌∙◌}
use Rattle.four_words.specs.Networks.{network}
use Rattle.four_words.specs.Passing.{ran}
use Rattle.four_words.proofs.Agreement.{ways_back}
use Rattle.four_words.proofs.Undoing.{undoes}
use Rattle.four_words.proofs.network.FourWord.undo.Goals as goal

pub returns-clause-turned : goal.returns-clause-turned
returns-clause-turned g c = c.undone.ensures.value ∙ ways_back (network g.O.Group g.I.Group g.B.MixingBox c.args.self.now) c.args.words

pub returns-clause-back : goal.returns-clause-back
returns-clause-back g c =
    let N = network g.O.Group g.I.Group g.B.MixingBox c.args.self.now in
    ap (ran N) c.undone.ensures.value
    ∙ (undoes N g.met.O.Group.lawful g.met.I.Group.lawful (g.met.B.MixingBox.within c.args.self.now.mixing) c.undone.ensures.fits).forth c.args.words c.undone.ensures.words
