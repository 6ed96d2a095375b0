-- `Whitening::undo` meets its contract. Assumes nothing.
use Rattle.whitening.proofs.Adding.{forth}
use Rattle.whitening.proofs.adder.WhiteningUndo.undo.Goals as goal

pub returns : goal.returns
returns g c = rw c.undone.ensures.value (forth g.met.G.Group.lawful c.args.self.now.words c.args.block c.undone.ensures.fits c.ranges.block.fits)
