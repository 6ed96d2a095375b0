-- `BitPermutation::turn` meets its contract. Assumes nothing.
use Rattle.ciphers.proofs.Permuting.{inverses}
use Rattle.ciphers.proofs.permutations.BitPermutationCipher.turn.Goals as goal

pub returns-clause-inverse : goal.returns-clause-inverse
returns-clause-inverse g c = rw c.invert.ensures (inverses g.P.Permutation.table g.met.P.Permutation.once c.args.self.now.inverted)
