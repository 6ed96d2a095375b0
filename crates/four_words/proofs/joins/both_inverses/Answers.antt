-- `both_inverses` meets its contract. Assumes nothing.
use Rattle.std.proofs.Common.{◌∙◌}
use Rattle.four_words.proofs.Pairs.{inverse_first, inverse_second}
use Rattle.four_words.proofs.joins.both_inverses.Goals as goal

pub returns-clause-first : goal.returns-clause-first
returns-clause-first g c =
    c.parted.ensures.first ∙ inverse_first g.met.G.Group.lawful c.args.first c.args.second c.ranges.first.fits c.ranges.second.fits

pub returns-clause-second : goal.returns-clause-second
returns-clause-second g c =
    c.parted.ensures.second ∙ inverse_second g.met.G.Group.lawful c.args.first c.args.second c.ranges.first.fits c.ranges.second.fits
