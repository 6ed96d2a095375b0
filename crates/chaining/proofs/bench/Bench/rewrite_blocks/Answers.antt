-- `rewrite_blocks` meets its contract. Assumes nothing.
use Rattle.std.proofs.Common.{arith, rules}
use Rattle.chaining.proofs.Chains.{begun_block}
use Rattle.chaining.proofs.bench.Bench.rewrite_blocks.Goals as goal

pub loop-i-preserved : goal.loop-i-preserved
loop-i-preserved g c =
    begun_block _ _ _ _ _ _ _ _ _ c.loop-i.invariant (omega arith) (search rules) (search rules)
    c.rewrite_block-latest.ensures.written c.rewrite_block-latest.ensures.chain
