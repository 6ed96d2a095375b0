-- What the loop of `open_fours` keeps. Assumes nothing.
use Rattle.std.proofs.Common.{◌*◌}
use Rattle.chaining.specs.declared.direction.Direction.TheVariants.{Opening}
use Rattle.chaining.proofs.Chains.{Begun}
use Rattle.chaining.proofs.bench.Bench.open_fours.Given as goal

-- the fours so far are opened
abbrev pub invariant-loop-i : goal.invariant-loop-i
invariant-loop-i g l = Begun Opening (g.C.Cipher.map l.self.cipher) l.chain l.initial.run (32 * l.i) l.run l.last
