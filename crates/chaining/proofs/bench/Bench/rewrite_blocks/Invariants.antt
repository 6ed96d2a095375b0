-- What the loop of `rewrite_blocks` keeps. Assumes nothing.
use Rattle.std.proofs.Common.{◌*◌}
use Rattle.chaining.proofs.Chains.{Begun}
use Rattle.chaining.proofs.bench.Bench.rewrite_blocks.Given as goal

-- the blocks so far are rewritten
abbrev pub invariant-loop-i : goal.invariant-loop-i
invariant-loop-i g l = Begun l.self.direction (g.C.Cipher.map l.self.cipher) l.chain l.initial.run (8 * l.i) l.run l.latest
