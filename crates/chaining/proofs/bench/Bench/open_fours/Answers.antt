-- `open_fours` meets its contract. Assumes nothing.
use Rattle.std.proofs.Common.{arith, rules}
use Rattle.chaining.proofs.Chains.{begun_four}
use Rattle.chaining.proofs.bench.Bench.open_fours.Goals as goal

pub loop-i-preserved : goal.loop-i-preserved
loop-i-preserved g c =
    begun_four _ _ _ _ _ _ _ _ c.loop-i.invariant (omega arith) (search rules) (search rules)
    c.open_four-last.ensures.opened c.open_four-last.ensures.chain
