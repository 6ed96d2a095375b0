-- `Whitening::turn` meets its contract. Assumes nothing.
use Rattle.whitening.proofs.Adding.{inverse}
use Rattle.whitening.proofs.adder.WhiteningCipher.turn.Goals as goal

pub returns-clause-inverse : goal.returns-clause-inverse
returns-clause-inverse g c = rw c.invert.ensures.value (inverse g.met.G.Group.lawful c.args.self.now.words c.invert.ensures.fits)
