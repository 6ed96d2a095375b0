-- `FourWord::run` meets its contract. Assumes nothing.
use Rattle.four_words.specs.Networks.{network}
use Rattle.four_words.proofs.Undoing.{turns}
use Rattle.four_words.proofs.network.FourWord.run.Goals as goal

pub returns-clause-back : goal.returns-clause-back
returns-clause-back g c =
    let N = network g.O.Group g.I.Group g.B.MixingBox c.args.self.now in
    rw c.ran.ensures.value ((turns N g.met.O.Group.lawful g.met.I.Group.lawful (g.met.B.MixingBox.within c.args.self.now.mixing) c.ran.ensures.fits).back c.args.words c.ran.ensures.words)
