-- `BitPermutation::undo` meets its contract. Assumes nothing.
use Rattle.ciphers.proofs.Permuting.{inverses}
use Rattle.ciphers.proofs.permutations.BitPermutationUndo.undo.Goals as goal

pub returns : goal.returns
returns g c =
    rw c.undone.ensures ((inverses g.P.Permutation.table g.met.P.Permutation.once c.args.self.now.inverted).forth c.args.block c.ranges.block.fits)
