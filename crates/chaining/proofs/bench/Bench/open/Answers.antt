-- `open` meets its contract. Assumes nothing.
use Rattle.std.proofs.Common.{arith}
use Rattle.chaining.proofs.Joins.{both, chain_both}
use Rattle.chaining.proofs.bench.Bench.open.Goals as goal

pub returns-clause-opened : goal.returns-clause-opened
returns-clause-opened g c =
    let parts = c.split_at_mut-fours.ensures in
    let fours = c.open_fours-last.ensures in
    both _ _ _ _ _ _ _ _ _ _ fours.opened c.rewrite_blocks.ensures.rewritten c.requires.opening fours.chain parts.value (omega (arith, parts.front_len, c.requires.whole))

pub returns-clause-chain : goal.returns-clause-chain
returns-clause-chain g c =
    let parts = c.split_at_mut-fours.ensures in
    let fours = c.open_fours-last.ensures in
    chain_both _ _ _ _ _ _ _ _ _ _ _ fours.opened c.rewrite_blocks.ensures.rewritten c.requires.opening fours.chain parts.value (omega (arith, parts.front_len, c.requires.whole)) c.rewrite_blocks.ensures.chain
