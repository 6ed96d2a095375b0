use Rattle.std.specs.Int.{from_be_bytes, w128}
use Rattle.idea.specs.Idea.{idea}
use Rattle.one_block.proofs.Answered.{answered_at}
use Rattle.one_block.proofs.families.pass_idea.Goals as goal

-- the number of rounds is told by its own function
pub returns : goal.returns
returns c =
    answered_at _ (idea (from_be_bytes w128 c.args.key.now)) c.full.result 8 c.args.opening c.args.block c.pass.result c.full.ensures c.new.ensures.map c.ranges.block.fits c.pass.type_inv c.pass.ensures
